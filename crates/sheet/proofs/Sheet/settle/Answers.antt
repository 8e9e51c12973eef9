use Rattle.std.proofs.Common.{Ok, Err, refl}
use Rattle.checks.specs.Checks.{MaySettle}
use Rattle.source.specs.Plans.{Of}
use Rattle.sheet.specs.View.{Steps}
use Rattle.sheet.proofs.Keeping.{law_continues, checked}
use Rattle.sheet.proofs.Rows
use Rattle.sheet.proofs.Sheet.settle.Goals as goal

pub returns-in_err-may_settle : goal.returns-in_err-may_settle
unfolding Steps
returns-in_err-may_settle g c =
    let s =
    Rows.settle_refused (g.S.Source.wide c.args.self.now.source) (Of (g.S.Source.wide c.args.self.now.source) (g.S.Source.plan c.args.self.now.source)) c.args.self.now.table c.args.group.now c.from_residual.result c.in_err-may_settle.field-0.0 (Rows.err_is c.from_residual.result c.in_err-may_settle.field-0.0 c.from_residual.ensures.1)
    (checked (λ v t. MaySettle v t c.args.group.now (Err c.in_err-may_settle.field-0.0)) _ _ _ _ c.checks.ensures.width c.checks.ensures.table c.in_err-may_settle.ensures) in
    record { source = refl; step = s; law = law_continues _ _ _ _ _ _ s }

pub returns : goal.returns
unfolding Steps
returns g c =
    let s =
    Rows.settle_done (g.S.Source.wide c.args.self.now.source) (Of (g.S.Source.wide c.args.self.now.source) (g.S.Source.plan c.args.self.now.source)) c.args.self.now.table c.args.group.now c.settle_marks.new.self.table c.widened.result c.settle_marks.result
    (checked (λ v t. MaySettle v t c.args.group.now (Ok tt)) _ _ _ _ c.checks.ensures.width c.checks.ensures.table c.in_ok-may_settle.ensures) c.widened.ensures c.settle_marks.ensures.settles c.settle_marks.ensures.rest c.settle_marks.ensures.count in
    record { source = c.settle_marks.ensures.source; step = s; law = law_continues _ _ _ _ _ _ s }
