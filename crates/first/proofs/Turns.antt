-- One extension, and what it leaves of the answer and of the steps.
use Rattle.std.proofs.Common.{◌≡◌, ℕ, zero, suc, ◌+◌, ◌<◌, ◌≤◌, List, ◌∷◌, Some, None, Option, refl, arith}
use Rattle.source.specs.Plans.{Partial}
use Rattle.base.specs.Laws.{Out, clash, fits, Lawful}
use Rattle.first.specs.Tree.{unset, with, or_else, next_if, Node, leaf, split, seen, node_of, answer_at, count_at, tree, count}
use Rattle.first.specs.Agenda.{answers, left, turn_of, answer_after, left_after}
use Rattle.first.proofs.Zeros.{unset_long}
use Rattle.first.proofs.Firsts.{partial_with, fewer}

assoc : (a b c : Option (List ℕ)) → or_else (or_else a b) c ≡ or_else a (or_else b c)
assoc None b c = refl
assoc (Some p) b c = refl

tally : (a b : Option (List ℕ)) (x y z : ℕ) → suc (x + next_if a y) + next_if (or_else a b) z ≡ suc (x + next_if a (y + next_if b z))
tally None b x y z = omega arith
tally (Some p) b x y z = omega arith

module _ (w : ℕ) (plan : List ℕ → Type 0) (o : List ℕ → Out) (laws : Lawful w plan o) where
  at_seen : (r : List ℕ) (u : ℕ) → unset r ≡ u → (f g : List ℕ → Option (List ℕ)) →
      (0 < unset r → (v : ℕ) → 0 < v → v ≤ 2 → f (with r v) ≡ g (with r v)) → answer_at f (seen r u) ≡ answer_at g (seen r u)
  at_seen r zero z f g h = refl
  at_seen r (suc m) z f g h =
      let a = h (omega arith) 2 (omega arith) (omega arith) in
      let b = h (omega arith) 1 (omega arith) (omega arith) in
      cc

  count_seen : (r : List ℕ) (u : ℕ) → unset r ≡ u → (f g : List ℕ → Option (List ℕ)) (c d : List ℕ → ℕ) →
      (0 < unset r → (v : ℕ) → 0 < v → v ≤ 2 → (f (with r v) ≡ g (with r v)) × (c (with r v) ≡ d (with r v))) → count_at f c (seen r u) ≡ count_at g d (seen r u)
  count_seen r zero z f g c d h = refl
  count_seen r (suc m) z f g c d h =
      let a = (h (omega arith) 2 (omega arith) (omega arith)).0 in
      let b = (h (omega arith) 2 (omega arith) (omega arith)).1 in
      let e = (h (omega arith) 1 (omega arith) (omega arith)).1 in
      cc

  -- the answer and the count do not depend on n, where it is large enough
  pub fuel : (n m : ℕ) (q : List ℕ) → Partial w q → unset q < n → unset q < m → tree o n q ≡ tree o m q
  unfolding tree
  fuel zero m q pq h k = let z : ⊥ = omega arith in absurd z
  fuel (suc n) zero q pq h k = let z : ⊥ = omega arith in absurd z
  fuel (suc n) (suc m) q pq h k = at (o q) refl (λ r e hu v hv hv2. fuel n m (with r v)
      (partial_with r v hv2 hu (laws.written q r pq e)) (fewer w plan o laws q r pq e n v h hv hu) (fewer w plan o laws q r pq e m v k hv hu))
    where
      at : (x : Out) → o q ≡ x → ((r : List ℕ) → o q ≡ fits r → 0 < unset r → (v : ℕ) → 0 < v → v ≤ 2 → tree o n (with r v) ≡ tree o m (with r v))
          → answer_at (λ p. tree o n p) (node_of x) ≡ answer_at (λ p. tree o m p) (node_of x)
      at clash e f = refl
      at (fits r) e f = at_seen r (unset r) refl (λ p. tree o n p) (λ p. tree o m p) (f r e)

  pub fuel_count : (n m : ℕ) (q : List ℕ) → Partial w q → unset q < n → unset q < m → count o n q ≡ count o m q
  unfolding count
  fuel_count zero m q pq h k = let z : ⊥ = omega arith in absurd z
  fuel_count (suc n) zero q pq h k = let z : ⊥ = omega arith in absurd z
  fuel_count (suc n) (suc m) q pq h k = at (o q) refl (λ r e hu v hv hv2.
      let pr = partial_with r v hv2 hu (laws.written q r pq e) in
      let a = fewer w plan o laws q r pq e n v h hv hu in
      let b = fewer w plan o laws q r pq e m v k hv hu in
      (fuel n m (with r v) pr a b, fuel_count n m (with r v) pr a b))
    where
      at : (x : Out) → o q ≡ x → ((r : List ℕ) → o q ≡ fits r → 0 < unset r → (v : ℕ) → 0 < v → v ≤ 2 → (tree o n (with r v) ≡ tree o m (with r v)) × (count o n (with r v) ≡ count o m (with r v)))
          → count_at (λ p. tree o n p) (λ p. count o n p) (node_of x) ≡ count_at (λ p. tree o m p) (λ p. count o m p) (node_of x)
      at clash e f = refl
      at (fits r) e f = count_seen r (unset r) refl (λ p. tree o n p) (λ p. tree o m p) (λ p. count o n p) (λ p. count o m p) (f r e)

  -- where q splits at r, its branches are counted with the same n
  module _ (q r : List ℕ) (pq : Partial w q) (e : o q ≡ fits r) (hu : 0 < unset r) where
    full : unset q < suc w
    full = omega (arith, unset_long q, pq.0)

    branch : (v : ℕ) → 0 < v → v ≤ 2 → (tree o w (with r v) ≡ tree o (suc w) (with r v)) × (count o w (with r v) ≡ count o (suc w) (with r v))
    branch v hv hv2 =
        let pr = partial_with r v hv2 hu (laws.written q r pq e) in
        let a = fewer w plan o laws q r pq e w v full hv hu in
        (fuel w (suc w) (with r v) pr a (omega arith), fuel_count w (suc w) (with r v) pr a (omega arith))

  Both : (q : List ℕ) (qs : List (List ℕ)) → Node → Type 0
  Both q qs x = (or_else (answer_at (λ p. tree o w p) x) (answers w o qs) ≡ answer_after w o (turn_of x qs))
      × (count_at (λ p. tree o w p) (λ p. count o w p) x + next_if (answer_at (λ p. tree o w p) x) (left w o qs) ≡ suc (left_after w o (turn_of x qs)))

  ends : (q : List ℕ) (qs : List (List ℕ)) (r : List ℕ) → Both q qs (leaf r)
  unfolding Both
  ends q qs r = (refl, omega arith)

  splits : (q : List ℕ) (qs : List (List ℕ)) (r : List ℕ) → Partial w q → o q ≡ fits r → 0 < unset r → Both q qs (split r)
  unfolding Both
  splits q qs r pq e hu =
      let b2 = branch q r pq e hu 2 (omega arith) (omega arith) in
      let b1 = branch q r pq e hu 1 (omega arith) (omega arith) in (
        rw (b2.0, b1.0) (assoc (tree o (suc w) (with r 2)) (tree o (suc w) (with r 1)) (answers w o qs)),
        rw (b2.0, b1.0, b2.1, b1.1) (tally (tree o (suc w) (with r 2)) (tree o (suc w) (with r 1)) (count o (suc w) (with r 2)) (count o (suc w) (with r 1)) (left w o qs)),
      )

  turned : (q : List ℕ) (qs : List (List ℕ)) → Partial w q → (x : Out) → o q ≡ x → Both q qs (node_of x)
  unfolding Both
  turned q qs pq clash e = (refl, omega arith)
  turned q qs pq (fits r) e = at (unset r) refl
    where
      at : (u : ℕ) → unset r ≡ u → Both q qs (seen r u)
      at zero z = ends q qs r
      at (suc m) z = splits q qs r pq e (omega arith)

  -- what a turn leaves of the answer, and of the steps
  pub answer_turned : (q : List ℕ) (qs : List (List ℕ)) → Partial w q → answers w o (q ∷ qs) ≡ answer_after w o (turn_of (node_of (o q)) qs)
  unfolding tree count Both
  answer_turned q qs pq = (turned q qs pq (o q) refl).0

  pub left_turned : (q : List ℕ) (qs : List (List ℕ)) → Partial w q → left w o (q ∷ qs) ≡ suc (left_after w o (turn_of (node_of (o q)) qs))
  unfolding tree count Both
  left_turned q qs pq = (turned q qs pq (o q) refl).1
