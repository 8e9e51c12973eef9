use Rattle.std.proofs.Common.{Ok, Err, refl}
use Rattle.checks.specs.Checks.{MaySettleBy}
use Rattle.source.specs.Plans.{Of}
use Rattle.sheet.specs.View.{Steps}
use Rattle.sheet.proofs.Keeping.{law_continues, checked}
use Rattle.sheet.proofs.Rows
use Rattle.sheet.proofs.Sheet.settle_by.Goals as goal

pub returns-in_err-limit : goal.returns-in_err-limit
unfolding Steps
returns-in_err-limit g c =
    let s =
    Rows.by_refused (g.S.Source.wide c.args.self.now.source) (Of (g.S.Source.wide c.args.self.now.source) (g.S.Source.plan c.args.self.now.source)) c.args.self.now.table c.args.technique.now c.args.size c.from_residual.result c.in_err-limit.field-0.0 (Rows.err_is c.from_residual.result c.in_err-limit.field-0.0 c.from_residual.ensures.1)
    (checked (λ v t. MaySettleBy v t c.args.technique.now c.args.size (Err c.in_err-limit.field-0.0)) _ _ _ _ c.checks.ensures.width c.checks.ensures.table c.in_err-limit.ensures) in
    record { source = refl; step = s; law = law_continues _ _ _ _ _ _ s }

pub settle_marks-requires-clause-some : goal.settle_marks-requires-clause-some
settle_marks-requires-clause-some g c =
    Rows.by_some (g.S.Source.wide c.args.self.now.source) (Of (g.S.Source.wide c.args.self.now.source) (g.S.Source.plan c.args.self.now.source)) c.args.self.now.table c.args.technique.now c.args.size c.in_ok-limit.limit
    (checked (λ v t. MaySettleBy v t c.args.technique.now c.args.size (Ok c.in_ok-limit.limit)) _ _ _ _ c.checks.ensures.width c.checks.ensures.table c.in_ok-limit.ensures) c.lowest-marks.result c.lowest-marks.ensures

pub returns : goal.returns
unfolding Steps
returns g c =
    let s =
    Rows.by_done (g.S.Source.wide c.args.self.now.source) (Of (g.S.Source.wide c.args.self.now.source) (g.S.Source.plan c.args.self.now.source)) c.args.self.now.table c.args.technique.now c.args.size c.in_ok-limit.limit
    (checked (λ v t. MaySettleBy v t c.args.technique.now c.args.size (Ok c.in_ok-limit.limit)) _ _ _ _ c.checks.ensures.width c.checks.ensures.table c.in_ok-limit.ensures) c.lowest-marks.result c.lowest-marks.ensures
    c.settle_marks.new.self.table c.settle_marks.result c.settle_marks.ensures.settles c.settle_marks.ensures.rest c.settle_marks.ensures.count in
    record { source = c.settle_marks.ensures.source; step = s; law = law_continues _ _ _ _ _ _ s }
