use Rattle.std.proofs.Common.{ℕ, ◌<◌, ◌≤◌, List, Some, None, Option, MatchOption, rules, arith}
use Rattle.std.proofs.lemmas.Iterator.{first_from_Range}
use Rattle.sources.specs.Rows.{RowServes, FirstServing, NoneServing}
use Rattle.sources.proofs.listed.Listed.first_serving.Goals as goal

-- what is found among the numbers from 0 on
from_zero :
    (w n : ℕ) (rows pins group : List ℕ) (o : Option ℕ)
    → MatchOption o
    ((k : ℕ) → 0 ≤ k → k < n → RowServes w rows pins group k → ⊥)
    (λ i. (0 ≤ i) × (i < n) × RowServes w rows pins group i × ((k : ℕ) → 0 ≤ k → k < i → RowServes w rows pins group k → ⊥))
    → MatchOption o (NoneServing w n rows pins group) (FirstServing w n rows pins group)
from_zero w n rows pins group None h = λ k. h k (omega arith)
from_zero w n rows pins group (Some i) h = (h.1, h.2, λ k. h.3 k (omega arith))

pub returns : goal.returns
returns c =
    let s = c.args.self.now in
    let serves : ℕ → Type 0 = RowServes s.width s.rows.now c.args.question.pins.now c.args.question.group.now in
    from_zero _ _ _ _ _ c.find.result (first_from_Range _ _ _ _ serves (λ i. serves i → ⊥) c.find.ensures.ran (λ i f h. search rules) (λ i f h. (search rules, search rules)))
