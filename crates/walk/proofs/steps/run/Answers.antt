use Rattle.std.proofs.Common.{◌∷◌, ap, arith}
use Rattle.first.specs.Agenda.{answers}
use Rattle.walk.proofs.Stepping.{none_waits}
use Rattle.walk.proofs.Finding.{start_walk}
use Rattle.walk.proofs.steps.run.Goals as goal

pub steps-init : goal.steps-init
steps-init g c =
    let t = c.new-trail.result in
    let w = g.B.Base.wide c.args.base.now in
    record {
      walks = start_walk w t c.args.partial.now ((g.B.Base.lawful c.args.base.now).narrow) c.requires c.new-trail.ensures.marks (omega arith) c.new-trail.ensures.level;
      same_answer = ap (λ a. answers w (g.B.Base.outcome c.args.base.now) (c.args.partial.now ∷ a)) (none_waits t c.args.partial.now c.new-trail.ensures.level);
    }
