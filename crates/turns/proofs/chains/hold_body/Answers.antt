use Rattle.std.proofs.Common.{◌*◌, ◌<◌, length, Ok, Err, get_or, arith}
use Rattle.turns.specs.Table.{HoldAt}
use Rattle.turns.proofs.Loops.{through_turn, through_clash}
use Rattle.turns.proofs.Steps.{decided_turn}
use Rattle.turns.proofs.chains.hold_body.Goals as goal

pub returns-in_err-changed : goal.returns-in_err-changed
returns-in_err-changed c =
    let b = c.args.body.now in let i = c.loop-e.e-index in let k = c.requires.codes i c.loop-e-test.true in
    let l : get_or b i 0 < 2 * length c.loop-e.p = (let y = c.loop-e.auto.p in omega arith) in
    through_clash (HoldAt b) (length b) c.args.p.now i c.loop-e.p c.decide.new.p c.loop-e.changed _ c.from_residual.result c.loop-e-test.true
    c.loop-e.invariant.1 (decided_turn (HoldAt b i) c.loop-e.p c.decide.new.p (get_or b i 0) (Err c.in_err-changed.field-0.0) l c.loop-e.invariant.0 c.in_err-changed.ensures (λ C h _. h) (λ h. h)) c.from_residual.ensures.0

pub loop-e-preserved : goal.loop-e-preserved
loop-e-preserved c =
    let b = c.args.body.now in let i = c.loop-e.e-index in let k = c.requires.codes i c.loop-e-test.true in
    let l : get_or b i 0 < 2 * length c.loop-e.p = (let y = c.loop-e.auto.p in omega arith) in
    through_turn (HoldAt b) (length b) c.args.p.now i c.loop-e.p c.decide.new.p c.loop-e.changed c.in_ok-changed.field-0 c.loop-e-test.true
    c.loop-e.invariant.0 c.loop-e.invariant.1 (decided_turn (HoldAt b i) c.loop-e.p c.decide.new.p (get_or b i 0) (Ok c.in_ok-changed.field-0) l c.loop-e.invariant.0 c.in_ok-changed.ensures (λ C h _. h) (λ h. h))
