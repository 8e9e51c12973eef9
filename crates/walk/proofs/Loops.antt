-- A list written place by place.
use Rattle.std.proofs.Common.{◌≡◌, ℕ, ◌+◌, ◌<◌, ◌≤◌, List, length, get_or, set, sym, ap, ◌∙◌, ⊎_elim, arith}
use Rattle.std.proofs.lemmas.List.{ext_get_or, get_or-set_same, get_or-set_other}
use Rattle.std.proofs.lemmas.Bool.{cases_eq, cases_lt}

-- xs is ys below i and zs from there on; z stands past the end
pub record Written {A : Type 0} (z : A) (ys zs : List A) (i : ℕ) (xs : List A) : Type 0 where
  pub below : (k : ℕ) → k < i → get_or xs k z ≡ get_or ys k z
  pub above : (k : ℕ) → i ≤ k → get_or xs k z ≡ get_or zs k z

-- one place more is written
pub written_set : {A : Type 0} (z : A) (ys zs xs : List A) (i : ℕ) (v : A) → Written z ys zs i xs → i < length xs → v ≡ get_or ys i z → Written z ys zs (i + 1) (set xs i v)
written_set z ys zs xs i v w h e = record {
  below = λ k lt. ⊎_elim
      (λ y. ap (λ j. get_or (set xs i v) j z) y ∙ get_or-set_same xs i v z h ∙ e ∙ ap (λ j. get_or ys j z) (sym y))
      (λ ne. get_or-set_other xs i k v z ne ∙ w.below k (omega arith))
      (cases_eq k i);
  above = λ k le. get_or-set_other xs i k v z (omega arith) ∙ w.above k (omega arith);
}

pub written_all : {A : Type 0} (z : A) (ys zs xs : List A) (i : ℕ) → Written z ys zs i xs → length xs ≡ length ys → ((k : ℕ) → i ≤ k → get_or zs k z ≡ get_or ys k z) → xs ≡ ys
written_all z ys zs xs i w e past = ext_get_or z xs ys e (λ k lt. ⊎_elim (λ b. w.below k b) (λ a. w.above k a ∙ past k a) (cases_lt k i))
