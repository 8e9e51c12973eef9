use Rattle.std.proofs.Common.{arith}
use Rattle.closing.proofs.Passes.{through_turn, through_clash, through_all}
use Rattle.closing.proofs.pass.Goals as goal

pub returns-in_err-changed : goal.returns-in_err-changed
returns-in_err-changed g c =
    through_clash (g.R.Rules.forces c.args.rules.now) c.args.p.now c.loop-k.k c.loop-k.p c.turn.new.p c.loop-k.changed _ c.from_residual.result (let e = c.count-k-end.ensures in let t = c.loop-k-test.true in omega arith)
    c.loop-k.invariant.1 c.in_err-changed.ensures c.from_residual.ensures.0

pub loop-k-preserved : goal.loop-k-preserved
loop-k-preserved g c =
    through_turn (g.R.Rules.forces c.args.rules.now) c.args.p.now c.loop-k.k c.loop-k.p c.turn.new.p c.loop-k.changed c.in_ok-changed.field-0 (let e = c.count-k-end.ensures in let t = c.loop-k-test.true in omega arith)
    c.loop-k.invariant.0 c.loop-k.invariant.1 c.in_ok-changed.ensures

pub returns : goal.returns
returns g c = through_all (g.R.Rules.forces c.args.rules.now) c.args.p.now c.loop-k.k c.loop-k.p c.loop-k.changed (let e = c.count-k-end.ensures in let t = c.loop-k-test.false in omega arith) c.loop-k.invariant.1
