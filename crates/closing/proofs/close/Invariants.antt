use Rattle.closing.specs.Turns.{undecided, Passed}
use Rattle.closing.proofs.close.Given as goal

abbrev pub invariant-passes : goal.invariant-passes
invariant-passes g l = Passed (g.R.Rules.forces l.rules) l.initial.p l.p

abbrev pub decreases-passes : goal.decreases-passes
decreases-passes g l = undecided l.p
