use Rattle.std.proofs.Common.{◌∙◌, refl}
use Rattle.sources.proofs.Widths.{joined_narrow, joining_answers}
use Rattle.sources.proofs.pair.PairSource.question.Goals as goal

pub returns-in_default : goal.returns-in_default
returns-in_default g c = (rw c.width-width.ensures.value at c.in_ok-check.ensures.cause, λ p o s. c.in_default.ensures p (o.0, s), refl)

pub returns : goal.returns
returns g c =
    let s = c.args.self.now in
    let t = rw c.width-width.ensures.value at c.in_ok-check.ensures.cause in
    let all = c.width-width.ensures.value ∙ (joined_narrow (g.F.Source.wide s.first) (g.S.Source.wide s.second) t.3).0 in
    joining_answers _ (g.F.Source.plan s.first) _ (g.S.Source.plan s.second) c.args.question.pins.now c.args.question.group.now c.args.place.now c.copy_from_slice.new.self t
    (rw (c.copy_from_slice.ensures.after, all) c.in-Some.ensures)
