use Rattle.std.proofs.Common.{rules, Some, Ok, Err, refl, ap, ◌∙◌}
use Rattle.checks.specs.Checks.{MayBegin}
use Rattle.source.specs.Plans.{Of}
use Rattle.sheet.specs.View.{Steps}
use Rattle.sheet.proofs.Keeping.{law_continues, checked}
use Rattle.sheet.proofs.Rows
use Rattle.table.proofs.Zeros.{zeros_few}
use Rattle.sheet.proofs.Settling.{widened_few}
use Rattle.sheet.proofs.Sheet.begin.Goals as goal

pub returns-in_err-may_begin : goal.returns-in_err-may_begin
unfolding Steps
returns-in_err-may_begin g c =
    let s =
    Rows.begin_refused (g.S.Source.wide c.args.self.now.source) (Of (g.S.Source.wide c.args.self.now.source) (g.S.Source.plan c.args.self.now.source)) c.args.self.now.table c.args.candidates.now c.from_residual.result c.in_err-may_begin.field-0.0 (Rows.err_is c.from_residual.result c.in_err-may_begin.field-0.0 c.from_residual.ensures.1)
    (checked (λ v t. MayBegin v t c.args.candidates.now (Err c.in_err-may_begin.field-0.0)) _ _ _ _ c.checks.ensures.width c.checks.ensures.table c.in_err-may_begin.ensures) in
    record { source = refl; step = s; law = law_continues _ _ _ _ _ _ s }

pub plan-requires-clause-pins : goal.plan-requires-clause-pins
plan-requires-clause-pins g c = zeros_few 2 512

pub plan-requires-clause-group : goal.plan-requires-clause-group
plan-requires-clause-group g c =
    let may =
    checked (λ v t. MayBegin v t c.args.candidates.now (Ok tt)) _ _ _ _ c.checks.ensures.width c.checks.ensures.table c.in_ok-may_begin.ensures in
    -- the marks would be a group too
    search (rules, zeros_few 1 512, widened_few 1 c.args.candidates.now c.widened-marks.result may.1 c.widened-marks.ensures)

pub returns-in_err-plan : goal.returns-in_err-plan
unfolding Steps
returns-in_err-plan g c =
    let s =
    Rows.begin_lost (g.S.Source.wide c.args.self.now.source) (Of (g.S.Source.wide c.args.self.now.source) (g.S.Source.plan c.args.self.now.source)) c.args.self.now.table c.args.candidates.now c.from_residual-in_err-plan.result c.in_err-plan.field-0.0
    (Rows.err_is c.from_residual-in_err-plan.result c.in_err-plan.field-0.0 c.from_residual-in_err-plan.ensures.1) c.in_err-plan.ensures.0
    (checked (λ v t. MayBegin v t c.args.candidates.now (Ok tt)) _ _ _ _ c.checks.ensures.width c.checks.ensures.table c.in_ok-may_begin.ensures) c.in_err-plan.ensures.1 in
    record { source = refl; step = s; law = law_continues _ _ _ _ _ _ s }

pub returns : goal.returns
unfolding Steps
returns g c =
    let s =
    Rows.begin_found (g.S.Source.wide c.args.self.now.source) (Of (g.S.Source.wide c.args.self.now.source) (g.S.Source.plan c.args.self.now.source)) c.args.self.now.table c.args.candidates.now c.begin.new.self c.widened-marks.result c.in_ok-plan.plan
    (checked (λ v t. MayBegin v t c.args.candidates.now (Ok tt)) _ _ _ _ c.checks.ensures.width c.checks.ensures.table c.in_ok-may_begin.ensures) c.widened-marks.ensures c.in_ok-plan.ensures
    (c.begin.ensures.over ∙ ap Some c.width.ensures.value) c.begin.ensures.lines in
    record { source = refl; step = s; law = law_continues _ _ _ _ _ _ s }
