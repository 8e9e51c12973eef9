use Rattle.source.specs.Plans.{Partial}
use Rattle.closing.specs.Turns.{Through}
use Rattle.closing.proofs.pass.Given as goal

abbrev pub invariant-loop-k : goal.invariant-loop-k
invariant-loop-k g l = Partial (g.R.Rules.forces l.rules).width l.p × Through (g.R.Rules.forces l.rules) l.initial.p l.k l.p l.changed
