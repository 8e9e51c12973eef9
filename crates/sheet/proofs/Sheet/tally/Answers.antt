use Rattle.checks.specs.Checks.{MayTally}
use Rattle.source.specs.Plans.{Of}
use Rattle.sheet.specs.View.{Steps}
use Rattle.sheet.proofs.Keeping.{law_continues, checked}
use Rattle.sheet.proofs.Rows
use Rattle.sheet.proofs.Sheet.tally.Goals as goal

pub returns : goal.returns
unfolding Steps
returns g c =
    let s = Rows.tally_step (g.S.Source.wide c.args.self.now.source) (Of (g.S.Source.wide c.args.self.now.source) (g.S.Source.plan c.args.self.now.source)) c.args.self.now.table c.may_tally.result (checked (λ v t. MayTally v t c.may_tally.result) _ _ _ _ c.checks.ensures.width c.checks.ensures.table c.may_tally.ensures) in
    record { step = s; law = law_continues _ _ _ _ _ _ s }
