-- Partials, plans and their bytes.
use Rattle.std.proofs.Common.{◌≡◌, ℕ, ◌<◌, ◌≤◌, ◌≢◌, List, length, get_or, inl, inr, arith}
use Rattle.std.proofs.lemmas.Bool.{cases_lt, cases_eq}
use Rattle.std.proofs.lemmas.List.{get_or_past}
use Rattle.source.specs.Plans.{Partial, Whole}

pub long : (w : ℕ) (q : List ℕ) → Partial w q → length q ≡ w
long w q p = p.0

-- no byte over 2, past the end too
pub small : (w : ℕ) (q : List ℕ) → Partial w q → (k : ℕ) → get_or q k 0 ≤ 2
small w q p k = elim (cases_lt k (length q)) [ inl l ↦ p.1 k l | inr l ↦ (let z = get_or_past q k 0 l in omega arith) ]

pub partial_from : (w : ℕ) (q : List ℕ) → length q ≡ w → ((k : ℕ) → get_or q k 0 ≤ 2) → Partial w q
partial_from w q l f = (l, λ k h. f k)

-- a plan is a partial without 0
pub whole_long : (w : ℕ) (q : List ℕ) → Whole w q → length q ≡ w
whole_long w q p = p.0

pub whole_partial : (w : ℕ) (q : List ℕ) → Whole w q → Partial w q
whole_partial w q p = (p.0, λ k l. let z = p.0 in elim (p.1 k (omega arith)) [ inl e ↦ omega arith | inr e ↦ omega arith ])

pub whole_decided : (w : ℕ) (q : List ℕ) → Whole w q → (k : ℕ) → k < w → get_or q k 0 ≢ 0
whole_decided w q p k l z = elim (p.1 k l) [ inl e ↦ omega arith | inr e ↦ omega arith ]

pub whole_from : (w : ℕ) (q : List ℕ) → Partial w q → ((k : ℕ) → k < w → get_or q k 0 ≢ 0) → Whole w q
whole_from w q p d = (p.0, λ k l. let s = small w q p k in elim (cases_eq (get_or q k 0) 1) [ inl e ↦ inl e | inr e ↦ inr (elim (cases_eq (get_or q k 0) 2) [ inl f ↦ f | inr f ↦ (let n = d k l in absurd (n (omega arith))) ]) ])
