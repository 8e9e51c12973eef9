-- The undecided statements of a partial.
use Rattle.std.proofs.Common.{◌≡◌, ℕ, zero, suc, ◌<◌, ◌≤◌, List, [], ◌∷◌, length, get_or, refl, arith}
use Rattle.first.specs.Tree.{lowest, unset, with}

pub low_zero : (r : List ℕ) → get_or r (lowest r) 0 ≡ 0
low_zero [] = refl
low_zero (zero ∷ bs) = refl
low_zero (suc b ∷ bs) = low_zero bs

pub low_within : (r : List ℕ) → 0 < unset r → lowest r < length r
low_within [] h = omega arith
low_within (zero ∷ bs) h = omega arith
low_within (suc b ∷ bs) h = omega (arith, low_within bs h)

pub low_below : (r : List ℕ) (k : ℕ) → k < lowest r → 0 < get_or r k 0
low_below [] k h = omega arith
low_below (zero ∷ bs) k h = omega arith
low_below (suc b ∷ bs) zero h = omega arith
low_below (suc b ∷ bs) (suc k) h = low_below bs k (omega arith)

pub unset_with : (r : List ℕ) (v n : ℕ) → unset r ≡ suc n → unset (with r (suc v)) ≡ n
unset_with [] v n e = omega arith
unset_with (zero ∷ bs) v n e = omega arith
unset_with (suc b ∷ bs) v n e = unset_with bs v n e

pub none_unset : (r : List ℕ) → unset r ≡ 0 → (k : ℕ) → k < length r → 0 < get_or r k 0
none_unset [] e k h = omega arith
none_unset (zero ∷ bs) e k h = let z : ⊥ = omega arith in absurd z
none_unset (suc b ∷ bs) e zero h = omega arith
none_unset (suc b ∷ bs) e (suc k) h = none_unset bs e k (omega arith)

pub unset_less : (q r : List ℕ) → length r ≡ length q → ((k : ℕ) → 0 < get_or q k 0 → get_or r k 0 ≡ get_or q k 0) → unset r ≤ unset q
unset_less [] [] e f = omega arith
unset_less [] (y ∷ r) e f = let z : ⊥ = omega arith in absurd z
unset_less (x ∷ q) [] e f = omega arith
unset_less (zero ∷ q) (zero ∷ r) e f = omega (arith, unset_less q r (omega arith) (λ k h. f (suc k) h))
unset_less (zero ∷ q) (suc y ∷ r) e f = omega (arith, unset_less q r (omega arith) (λ k h. f (suc k) h))
unset_less (suc x ∷ q) (zero ∷ r) e f = let z : ⊥ = omega (arith, f 0 (omega arith)) in absurd z
unset_less (suc x ∷ q) (suc y ∷ r) e f = omega (arith, unset_less q r (omega arith) (λ k h. f (suc k) h))

pub unset_long : (q : List ℕ) → unset q ≤ length q
unset_long [] = omega arith
unset_long (zero ∷ q) = omega (arith, unset_long q)
unset_long (suc b ∷ q) = omega (arith, unset_long q)

pub low_some : (r : List ℕ) → lowest r < length r → 0 < unset r
low_some [] h = omega arith
low_some (zero ∷ bs) h = omega arith
low_some (suc b ∷ bs) h = low_some bs (omega arith)

pub low_none : (r : List ℕ) → length r ≤ lowest r → unset r ≡ 0
low_none [] h = refl
low_none (zero ∷ bs) h = let z : ⊥ = omega arith in absurd z
low_none (suc b ∷ bs) h = low_none bs (omega arith)
