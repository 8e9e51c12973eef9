use Rattle.std.proofs.Common.{Ok, Err, refl}
use Rattle.checks.specs.Checks.{MayPin}
use Rattle.source.specs.Plans.{Of}
use Rattle.sheet.specs.View.{Steps}
use Rattle.sheet.proofs.Keeping.{law_continues, checked}
use Rattle.sheet.proofs.Rows
use Rattle.table.proofs.Zeros.{zeros_few}
use Rattle.sheet.proofs.Sheet.pin.Goals as goal

pub returns-in_err-may_pin : goal.returns-in_err-may_pin
unfolding Steps
returns-in_err-may_pin g c =
    let s =
    Rows.pin_refused (g.S.Source.wide c.args.self.now.source) (Of (g.S.Source.wide c.args.self.now.source) (g.S.Source.plan c.args.self.now.source)) c.args.self.now.table c.args.statement c.args.way c.from_residual.result c.in_err-may_pin.field-0.0 (Rows.err_is c.from_residual.result c.in_err-may_pin.field-0.0 c.from_residual.ensures.1)
    (checked (λ v t. MayPin v t c.args.statement c.args.way (Err c.in_err-may_pin.field-0.0)) _ _ _ _ c.checks.ensures.width c.checks.ensures.table c.in_err-may_pin.ensures) in
    record { source = refl; step = s; law = law_continues _ _ _ _ _ _ s }

pub pin_lines-requires-clause-narrow : goal.pin_lines-requires-clause-narrow
pin_lines-requires-clause-narrow g c =
    Rows.pin_narrow (g.S.Source.wide c.args.self.now.source) (Of (g.S.Source.wide c.args.self.now.source) (g.S.Source.plan c.args.self.now.source)) c.args.self.now.table c.args.statement c.args.way c.in_ok-may_pin.field-0 c.number-way.result c.number-way.ensures c.pins_with-pins.result
    (checked (λ v t. MayPin v t c.args.statement c.args.way (Ok c.in_ok-may_pin.field-0)) _ _ _ _ c.checks.ensures.width c.checks.ensures.table c.in_ok-may_pin.ensures) c.pins_with-pins.ensures

pub pin_lines-requires-clause-pins : goal.pin_lines-requires-clause-pins
pin_lines-requires-clause-pins g c =
    Rows.pin_few (g.S.Source.wide c.args.self.now.source) (Of (g.S.Source.wide c.args.self.now.source) (g.S.Source.plan c.args.self.now.source)) c.args.self.now.table c.args.statement c.args.way c.in_ok-may_pin.field-0 c.number-way.result c.number-way.ensures c.pins_with-pins.result
    (checked (λ v t. MayPin v t c.args.statement c.args.way (Ok c.in_ok-may_pin.field-0)) _ _ _ _ c.checks.ensures.width c.checks.ensures.table c.in_ok-may_pin.ensures) c.pins_with-pins.ensures

pub pin_lines-requires-clause-none : goal.pin_lines-requires-clause-none
pin_lines-requires-clause-none g c = zeros_few 1 512

pub pin_lines-requires-clause-way : goal.pin_lines-requires-clause-way
pin_lines-requires-clause-way g c =
    Rows.pin_way_few (g.S.Source.wide c.args.self.now.source) (Of (g.S.Source.wide c.args.self.now.source) (g.S.Source.plan c.args.self.now.source)) c.args.self.now.table c.args.statement c.args.way c.in_ok-may_pin.field-0 c.number-way.result c.number-way.ensures c.pins_with-pins.result
    (checked (λ v t. MayPin v t c.args.statement c.args.way (Ok c.in_ok-may_pin.field-0)) _ _ _ _ c.checks.ensures.width c.checks.ensures.table c.in_ok-may_pin.ensures) c.pins_with-pins.ensures

pub returns-in_err-pin_lines : goal.returns-in_err-pin_lines
unfolding Steps
returns-in_err-pin_lines g c =
    let s =
    Rows.pin_lost (g.S.Source.wide c.args.self.now.source) (Of (g.S.Source.wide c.args.self.now.source) (g.S.Source.plan c.args.self.now.source)) c.args.self.now.table c.args.statement c.args.way c.in_ok-may_pin.field-0 c.number-way.result c.number-way.ensures c.pins_with-pins.result
    (checked (λ v t. MayPin v t c.args.statement c.args.way (Ok c.in_ok-may_pin.field-0)) _ _ _ _ c.checks.ensures.width c.checks.ensures.table c.in_ok-may_pin.ensures) c.pins_with-pins.ensures
    c.pin_lines.new.self.table c.from_residual-in_err-pin_lines.result c.in_err-pin_lines.field-0.0
    (Rows.err_is c.from_residual-in_err-pin_lines.result c.in_err-pin_lines.field-0.0 c.from_residual-in_err-pin_lines.ensures.1) c.in_err-pin_lines.ensures.asked.0 c.in_err-pin_lines.ensures.asked.1 c.in_err-pin_lines.ensures.asked.2 in
    record { source = c.pin_lines.ensures.source; step = s; law = law_continues _ _ _ _ _ _ s }

pub returns : goal.returns
unfolding Steps
returns g c =
    let s =
    Rows.pin_found (g.S.Source.wide c.args.self.now.source) (Of (g.S.Source.wide c.args.self.now.source) (g.S.Source.plan c.args.self.now.source)) c.args.self.now.table c.args.statement c.args.way c.in_ok-may_pin.field-0 c.number-way.result c.number-way.ensures c.pins_with-pins.result
    (checked (λ v t. MayPin v t c.args.statement c.args.way (Ok c.in_ok-may_pin.field-0)) _ _ _ _ c.checks.ensures.width c.checks.ensures.table c.in_ok-may_pin.ensures) c.pins_with-pins.ensures c.pin_lines.new.self.table c.in_ok-pin_lines.field-0 c.in_ok-pin_lines.ensures.asked.0 c.in_ok-pin_lines.ensures.asked.1 in
    record { source = c.pin_lines.ensures.source; step = s; law = law_continues _ _ _ _ _ _ s }
