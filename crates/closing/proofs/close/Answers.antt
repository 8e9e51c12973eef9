use Rattle.std.proofs.Common.{Ok, subst}
use Rattle.closing.specs.Turns.{Pass}
use Rattle.closing.proofs.Passes.{passes_more, passes_done, passes_clash}
use Rattle.closing.proofs.close.Goals as goal

pub returns-in_err-pass : goal.returns-in_err-pass
returns-in_err-pass g c =
    let R = g.R.Rules.forces c.args.rules.now in
    passes_clash R (g.R.Rules.sound c.args.rules.now) c.args.p.now c.requires c.passes.p c.pass.new.p _ c.from_residual.result c.passes.invariant c.in_err-pass.ensures c.from_residual.ensures.0

pub passes-preserved : goal.passes-preserved
passes-preserved g c =
    let R = g.R.Rules.forces c.args.rules.now in
    passes_more R (g.R.Rules.sound c.args.rules.now) c.args.p.now c.requires c.passes.p c.pass.new.p c.passes.invariant (subst (λ b. Pass R c.passes.p c.pass.new.p (Ok b)) c.if-branch.true c.in_ok-pass.ensures)

pub returns : goal.returns
returns g c =
    let R = g.R.Rules.forces c.args.rules.now in
    passes_done R (g.R.Rules.sound c.args.rules.now) c.args.p.now c.requires c.passes.p c.pass.new.p c.passes.invariant (subst (λ b. Pass R c.passes.p c.pass.new.p (Ok b)) c.if-branch.false c.in_ok-pass.ensures)
