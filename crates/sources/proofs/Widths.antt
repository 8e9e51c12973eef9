-- The width that a pair reports, and its answer to a question that is not refused.
use Rattle.std.proofs.Common.{◌≡◌, ℕ, ◌+◌, ◌≤◌, List, Ok, sym, subst, arith}
use Rattle.std.proofs.lemmas.Bool.Decides.{nat_tests}
use Rattle.source.specs.Plans.{Whole, Of}
use Rattle.source.specs.Asked.{Taken, Asked}
use Rattle.source.specs.declared.Answer.TheVariants.{Plan}
use Rattle.sources.specs.Joined.{joined_width, Joining, JoiningServes}
use Rattle.sources.proofs.Joins.{whole_both}

-- a pair that is not too wide reports all its statements
pub joined_narrow : (a b : ℕ) → joined_width a b ≤ 512 → (joined_width a b ≡ a + b) × (a + b ≤ 512)
joined_narrow a b h = grind (arith, nat_tests)

-- a joining that serves is what a question asks for
pub joining_answers :
    (a : ℕ) (first : List ℕ → Type 0) (b : ℕ) (second : List ℕ → Type 0) (pins group before after : List ℕ)
    → Taken (joined_width a b) pins group before → JoiningServes a first b second pins group after
    → Asked (joined_width a b) (Of (joined_width a b) (Joining a first b second)) pins group before (Ok Plan) after
joining_answers a first b second pins group before after t h =
    let j = h.0.1 in (
      t,
      (h.0, subst (λ (w : ℕ). Whole w after) (sym (joined_narrow a b t.3).0) (subst (Whole (a + b)) (sym j.4) (whole_both a b j.0 j.1 j.2.1 j.3.1))),
      h.1,
    )
