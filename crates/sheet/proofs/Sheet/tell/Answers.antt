use Rattle.checks.specs.Checks.{MayTell}
use Rattle.source.specs.Plans.{Of}
use Rattle.sheet.specs.View.{Steps}
use Rattle.sheet.proofs.Keeping.{law_continues, checked}
use Rattle.sheet.proofs.Rows
use Rattle.sheet.proofs.Sheet.tell.Goals as goal

pub returns : goal.returns
unfolding Steps
returns g c =
    let s = Rows.tell_step (g.S.Source.wide c.args.self.now.source) (Of (g.S.Source.wide c.args.self.now.source) (g.S.Source.plan c.args.self.now.source)) c.args.self.now.table c.args.statement c.may_tell.result (checked (λ v t. MayTell v t c.args.statement c.may_tell.result) _ _ _ _ c.checks.ensures.width c.checks.ensures.table c.may_tell.ensures) in
    record { step = s; law = law_continues _ _ _ _ _ _ s }
