use Rattle.std.proofs.Common.{length}
use Rattle.turns.specs.Table.{FailAt}
use Rattle.turns.proofs.Loops.{through_turn, through_clash}
use Rattle.turns.proofs.founded.fail_unmarked.Goals as goal

pub returns-in_err-changed : goal.returns-in_err-changed
returns-in_err-changed c =
    let m = c.args.marks.now in
    through_clash (FailAt m) (length m) c.args.p.now c.loop-s.s c.loop-s.p c.fail_unfounded.new.p c.loop-s.changed _ c.from_residual.result c.loop-s-test.true
    c.loop-s.invariant.1 c.in_err-changed.ensures c.from_residual.ensures.0

pub loop-s-preserved : goal.loop-s-preserved
loop-s-preserved c =
    let m = c.args.marks.now in
    through_turn (FailAt m) (length m) c.args.p.now c.loop-s.s c.loop-s.p c.fail_unfounded.new.p c.loop-s.changed c.in_ok-changed.field-0 c.loop-s-test.true
    c.loop-s.invariant.0 c.loop-s.invariant.1 c.in_ok-changed.ensures
