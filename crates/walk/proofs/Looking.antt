-- The lowest undecided statement, as a search through the bytes finds it.
use Rattle.std.proofs.Common.{◌≡◌, ℕ, zero, suc, ◌<◌, ◌≤◌, List, [], ◌∷◌, length, inl, inr, arith}
use Rattle.std.proofs.lemmas.Bool.{cases_lt}
use Rattle.first.specs.Tree.{unset, lowest}
use Rattle.first.proofs.Zeros.{low_zero, low_below, low_none}
use Rattle.walk.specs.Turning.{Decided, Lowest}

low_most : (r : List ℕ) → lowest r ≤ length r
low_most [] = omega arith
low_most (zero ∷ r) = omega arith
low_most (suc b ∷ r) = omega (arith, low_most r)

-- there is one lowest undecided statement
pub lowest_is : (r : List ℕ) (s : ℕ) → Lowest r s → s ≡ lowest r
lowest_is r s l = elim (cases_lt s (lowest r)) [
  | inl lt ↦ absurd (omega (arith, l.1, low_below r s lt))
  | inr le ↦ elim (cases_lt (lowest r) s) [ inl lt ↦ absurd (l.2 (lowest r) lt (low_zero r)) | inr ge ↦ omega arith ]
]

pub lowest_within : (r : List ℕ) (s : ℕ) → Lowest r s → lowest r < length r
lowest_within r s l = omega (arith, l.0, lowest_is r s l)

pub none_open : (r : List ℕ) → Decided r → unset r ≡ 0
none_open r d = low_none r (elim (cases_lt (lowest r) (length r)) [ inl lt ↦ absurd (d (lowest r) lt (low_zero r)) | inr ge ↦ ge ])
