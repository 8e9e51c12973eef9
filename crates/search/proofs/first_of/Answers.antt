use Rattle.std.proofs.Common.{subst}
use Rattle.source.specs.Asked.{Taken}
use Rattle.narrow.specs.Meeting.{MeetingPlan}
use Rattle.walk.specs.Finding.{FirstAgreeing}
use Rattle.search.proofs.Asking.{first_serves}
use Rattle.search.proofs.first_of.Goals as goal

pub returns : goal.returns
returns g c =
    first_serves (g.B.Base.wide c.args.base.now) (g.B.Base.plan c.args.base.now) (g.B.Base.outcome c.args.base.now) (g.B.Base.lawful c.args.base.now)
    c.args.question.pins.now c.args.question.group.now c.args.place.now c.first_agreeing.new.place
    (subst (λ w. Taken w c.args.question.pins.now c.args.question.group.now c.args.place.now) c.width.ensures c.in_ok-check.ensures.cause)
    c.first_agreeing.result
    (subst (λ x. FirstAgreeing (g.B.Base.wide c.args.base.now) (MeetingPlan (g.B.Base.plan c.args.base.now) x) c.args.question.pins.now c.args.place.now c.first_agreeing.result c.first_agreeing.new.place) c.new.ensures.group
    (subst (λ x. FirstAgreeing (g.B.Base.wide x) (MeetingPlan (g.B.Base.plan x) c.new.result.group.now) c.args.question.pins.now c.args.place.now c.first_agreeing.result c.first_agreeing.new.place) c.new.ensures.base
    c.first_agreeing.ensures))
