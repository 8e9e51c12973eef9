use Rattle.certain.proofs.Marking.{answer_tells}
use Rattle.certain.proofs.is_certain.Goals as goal

pub returns-clause-answer : goal.returns-clause-answer
returns-clause-answer g c =
    answer_tells _ (g.S.Source.plan c.args.source.now) _ _ _ _ _ _ c.in_ok-question.field-0 c.eq.result c.mark_only.ensures c.in_ok-question.ensures
    (λ e. rw e at c.eq.ensures) (λ e. rw e at c.eq.ensures)
