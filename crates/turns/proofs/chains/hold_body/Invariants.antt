use Rattle.std.proofs.Common.{length}
use Rattle.source.specs.Plans.{UpTo}
use Rattle.turns.specs.Table.{Through, HoldAt}
use Rattle.turns.proofs.chains.hold_body.Given as goal

abbrev pub invariant-loop-e : goal.invariant-loop-e
invariant-loop-e l = UpTo 2 l.p × Through (HoldAt l.body) (length l.body) l.initial.p l.e-index l.p l.changed
