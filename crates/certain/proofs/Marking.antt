-- What a question with the group of one statement says of that statement.
use Rattle.std.proofs.Common.{◌≡◌, refl, ℕ, ◌<◌, ◌≤◌, Bool, true, false, List, length, get_or, replicate, Ok, ◌∙◌, subst, ⊎_elim, arith}
use Rattle.std.proofs.lemmas.List.{length-replicate, length-set, get_or-replicate, get_or_past, get_or-set_same, get_or-set_other, set_past}
use Rattle.std.proofs.lemmas.Bool.{cases_lt}
use Rattle.source.specs.Plans.{Of}
use Rattle.source.specs.Asked.{Asked}
use Rattle.source.specs.declared.Answer.{Answer}
use Rattle.source.specs.declared.Answer.TheVariants.{Plan, Nothing}
use Rattle.certain.specs.Certain.{only_mark, Told}

-- the statement is marked if it is there
pub marked_here : (n k : ℕ) → k < n → get_or (only_mark n k) k 0 ≡ 1
marked_here n k h = grind (arith, length-replicate, get_or-set_same)

-- a byte of zeros
pub zero_at : (n j : ℕ) → ◌≡◌ {A = ℕ} (get_or (replicate n 0) j 0) 0
zero_at n j = grind (arith, length-replicate, get_or-replicate, get_or_past)

-- and no other is
pub marked_only : (n k j : ℕ) → get_or (only_mark n k) j 0 ≡ 1 → (j ≡ k) × (k < n)
marked_only n k j e = grind (arith, length-replicate, zero_at, get_or-set_other, set_past)

-- as long as the statements are
pub length_mark : (n k : ℕ) → length (only_mark n k) ≡ n
length_mark n k = length-set (replicate n 0) k 1 ∙ length-replicate n 0

-- a plan that serves shows that the statement is not certain
pub plan_refutes :
    (w : ℕ) (plan : List ℕ → Type 0) (pins before after : List ℕ) (n k : ℕ)
    → Asked w (Of w plan) pins (only_mark n k) before (Ok Plan) after → Told w (Of w plan) pins k (only_mark n k) before (Ok false) after
plan_refutes w plan pins before after n k a = (
  a.0,
  a.1,
  a.2.0,
  λ (holds : get_or after k 0 ≡ 1).
      let here : k < n = grind (arith, length_mark, get_or_past) in
      let f = a.2.1 (k, marked_here n k here) in
      let s = marked_only n k f.0 f.1 in
      absurd (grind arith),
)

-- where no plan serves, it is
pub none_shows :
    (w : ℕ) (plan : List ℕ → Type 0) (pins before after : List ℕ) (n k : ℕ)
    → Asked w (Of w plan) pins (only_mark n k) before (Ok Nothing) after → Told w (Of w plan) pins k (only_mark n k) before (Ok true) after
none_shows w plan pins before after n k a = (
  a.0,
  λ p o s.
      ⊎_elim
      (λ (here : k < n).
      ⊎_elim (λ (x : get_or p k 0 ≡ 1). x) (λ (x : get_or p k 0 ≡ 2). absurd (a.1 p o (s, λ _. (k, marked_here n k here, x))))
      (o.1.1 k (grind (arith, length_mark))))
      (λ (past : n ≤ k). absurd (a.1 p o (s, λ m. absurd (omega (arith, (marked_only n k m.0 m.1).1)))))
      (cases_lt k n),
  a.2,
)

-- so the answer of the question tells
pub answer_tells :
    (w : ℕ) (plan : List ℕ → Type 0) (pins group before after : List ℕ) (n k : ℕ) (answer : Answer) (certain : Bool)
    → group ≡ only_mark n k → Asked w (Of w plan) pins group before (Ok answer) after → (answer ≡ Plan → certain ≡ false) → (answer ≡ Nothing → certain ≡ true)
    → Told w (Of w plan) pins k (only_mark n k) before (Ok certain) after
answer_tells w plan pins group before after n k Plan certain e h refuted shown =
    rw (refuted refl) (plan_refutes w plan pins before after n k (subst (λ (x : List ℕ). Asked w (Of w plan) pins x before (Ok Plan) after) e h))
answer_tells w plan pins group before after n k Nothing certain e h refuted shown =
    rw (shown refl) (none_shows w plan pins before after n k (subst (λ (x : List ℕ). Asked w (Of w plan) pins x before (Ok Nothing) after) e h))
