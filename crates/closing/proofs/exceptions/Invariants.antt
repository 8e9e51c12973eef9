use Rattle.std.proofs.Common.{ℕ, Bool}
use Rattle.closing.specs.Fews.{Answers, LacksBelow}
use Rattle.closing.proofs.exceptions.Given as goal

abbrev pub invariant-loop-e : goal.invariant-loop-e
invariant-loop-e g l = (t : ℕ → Bool) → Answers (goal.F-post g l.passes) t l.entries → LacksBelow t l.entries l.e-index l.found
