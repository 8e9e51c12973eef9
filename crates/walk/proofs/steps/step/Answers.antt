use Rattle.std.proofs.Common.{Ok, subst}
use Rattle.base.specs.Extending.{Extends}
use Rattle.walk.proofs.Looking.{none_open, lowest_within}
use Rattle.walk.proofs.Stepping.{step_back, step_leaf, fork_walks, step_fork}
use Rattle.walk.proofs.steps.step.Goals as goal

pub returns-in-Clash : goal.returns-in-Clash
returns-in-Clash g c =
    let e = subst (λ y. Extends (g.B.Base.wide c.args.base.now) (g.B.Base.outcome c.args.base.now) c.args.partial.now (Ok y) c.extend.new.partial) c.in-Clash.is c.in_ok-extend.ensures in
    step_back _ _ _ (g.B.Base.lawful c.args.base.now) c.args.trail.now c.args.partial.now c.requires c.back.result c.back.new.self c.extend.new.partial c.back.new.partial e.1 e.2 c.back.ensures

pub returns-in-None : goal.returns-in-None
returns-in-None g c =
    let e = subst (λ y. Extends (g.B.Base.wide c.args.base.now) (g.B.Base.outcome c.args.base.now) c.args.partial.now (Ok y) c.extend.new.partial) c.in-Fits.is c.in_ok-extend.ensures in
    step_leaf _ _ _ (g.B.Base.lawful c.args.base.now) c.args.trail.now c.args.partial.now c.requires c.extend.new.partial e.1 (none_open _ c.in-None.ensures)

pub fork-requires-clause-walks : goal.fork-requires-clause-walks
fork-requires-clause-walks g c =
    let e = subst (λ y. Extends (g.B.Base.wide c.args.base.now) (g.B.Base.outcome c.args.base.now) c.args.partial.now (Ok y) c.extend.new.partial) c.in-Fits.is c.in_ok-extend.ensures in
    fork_walks _ _ _ (g.B.Base.lawful c.args.base.now) c.args.trail.now c.args.partial.now c.requires c.extend.new.partial e.1

pub returns-in-Some : goal.returns-in-Some
returns-in-Some g c =
    let e = subst (λ y. Extends (g.B.Base.wide c.args.base.now) (g.B.Base.outcome c.args.base.now) c.args.partial.now (Ok y) c.extend.new.partial) c.in-Fits.is c.in_ok-extend.ensures in
    step_fork _ _ _ (g.B.Base.lawful c.args.base.now) c.args.trail.now c.args.partial.now c.requires c.extend.new.partial e.1 c.fork.new.self c.fork.new.partial (lowest_within _ c.in-Some.s c.in-Some.ensures) c.fork.ensures
