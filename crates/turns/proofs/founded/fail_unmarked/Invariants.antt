use Rattle.std.proofs.Common.{length}
use Rattle.source.specs.Plans.{UpTo}
use Rattle.turns.specs.Table.{Through, FailAt}
use Rattle.turns.proofs.founded.fail_unmarked.Given as goal

abbrev pub invariant-loop-s : goal.invariant-loop-s
invariant-loop-s l = UpTo 2 l.p × Through (FailAt l.marks) (length l.marks) l.initial.p l.s l.p l.changed
