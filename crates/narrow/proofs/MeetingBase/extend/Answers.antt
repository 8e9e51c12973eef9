use Rattle.narrow.proofs.Narrowing.{stays, is_cut}
use Rattle.narrow.proofs.MeetingBase.extend.Goals as goal

pub returns-in-Fits : goal.returns-in-Fits
returns-in-Fits g c =
    stays (g.B.Base.wide c.args.self.now.base.now) (g.B.Base.outcome c.args.self.now.base.now) c.args.self.now.group.now c.args.partial.now
    _ _ _ c.copy_from_slice.ensures.after c.in-Fits.is c.in_ok-extend.ensures c.if-may_meet.ensures _ c.copy_from_slice-in-Fits.ensures.after

pub returns-in-Fits-2 : goal.returns-in-Fits-2
returns-in-Fits-2 g c =
    is_cut (g.B.Base.wide c.args.self.now.base.now) (g.B.Base.outcome c.args.self.now.base.now) c.args.self.now.group.now c.args.partial.now
    _ _ _ c.copy_from_slice.ensures.after c.in-Fits.is c.in_ok-extend.ensures c.if-may_meet.ensures
