use denote.Enum.Bare.{sameb, same_true}
use Rattle.std.proofs.Common.{◌≡◌, ◌≢◌, true, false, rules, sym, ap, ◌∙◌, subst}
use Rattle.source.specs.Plans.{Partial}
use Rattle.source.specs.contracts.Answer.{the_type}
use Rattle.source.specs.declared.Answer.TheVariants.{Plan}
use Rattle.walk.proofs.Finding.{first_delivered, none_delivered}
use Rattle.walk.proofs.first_agreeing.Goals as goal

pub returns-then-eq : goal.returns-then-eq
returns-then-eq g c =
    let fit = subst (λ w. Partial w c.args.pins.now) c.width-width.ensures c.in_ok-check.ensures in
    let plan : c.in_ok-answer.answer ≡ Plan = same_true the_type (search rules) _ _ (sym c.if-eq.ensures) in (
      (fit, c.if-place-width.false ∙ c.width-width.ensures),
      first_delivered _ _ _ (g.B.Base.lawful c.args.base.now) c.args.pins.now fit c.copy_from_slice.new.self c.copy_from_slice.ensures.after c.run.new.partial c.args.place.now
          c.in_ok-answer.answer _ plan c.in_ok-answer.ensures c.copy_from_slice-then-eq.ensures.after,
    )

pub returns-else-eq : goal.returns-else-eq
returns-else-eq g c =
    let fit = subst (λ w. Partial w c.args.pins.now) c.width-width.ensures c.in_ok-check.ensures in
    let none : c.in_ok-answer.answer ≢ Plan = λ z. (let e : false ≡ true = c.if-eq.ensures ∙ ap (λ a. sameb the_type a Plan) z in cc) in (
      (fit, c.if-place-width.false ∙ c.width-width.ensures),
      none_delivered _ _ _ (g.B.Base.lawful c.args.base.now) c.args.pins.now fit c.copy_from_slice.new.self c.copy_from_slice.ensures.after c.run.new.partial c.args.place.now
          c.in_ok-answer.answer none c.in_ok-answer.ensures,
    )
