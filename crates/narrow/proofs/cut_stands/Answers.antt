use Rattle.narrow.specs.Meetings.{meeting_lawful}
use Rattle.narrow.proofs.cut_stands.Goals as goal

pub returns : goal.returns
returns g c = λ q p e x pl ag m.
    (meeting_lawful (g.B.Base.wide c.args.base.now) (g.B.Base.plan c.args.base.now) (g.B.Base.outcome c.args.base.now) c.args.group.now (g.B.Base.lawful c.args.base.now)).clashes q p e x (pl, m) ag
