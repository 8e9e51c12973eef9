-- The tree gives the first plan, from the laws of a base alone.
use Rattle.std.proofs.Common.{◌≡◌, ℕ, zero, suc, ◌<◌, ◌≤◌, ◌≢◌, ◌⊎◌, List, length, get_or, Some, None, Option, sym, refl, ap, ◌∙◌, subst, inl, inr, ⊎_elim, arith}
use Rattle.std.proofs.lemmas.List.{ext_get_or, get_or-set_same, get_or-set_other, length-set}
use Rattle.std.proofs.lemmas.Bool.{cases_eq}
use Rattle.source.specs.Plans.{Partial, Agrees, Before, First}
use Rattle.base.specs.Laws.{Out, clash, fits, Lawful}
use Rattle.base.proofs.Partials.{small, partial_from, whole_from}
use Rattle.first.specs.Tree.{lowest, unset, with, or_else, seen, node_of, answer_at, tree, Below, Finds, FirstStands}
use Rattle.first.proofs.Zeros.{low_zero, low_within, low_below, unset_with, none_unset, unset_less, unset_long}

-- a value more at the lowest undecided statement keeps a partial a partial
pub partial_with : {w : ℕ} (r : List ℕ) (v : ℕ) → v ≤ 2 → 0 < unset r → Partial w r → Partial w (with r v)
partial_with {w} r v hv h pr = partial_from w (with r v) (length-set r (lowest r) v ∙ pr.0) (λ k. ⊎_elim
    (λ e. omega (arith, ap (λ j. get_or (with r v) j 0) e ∙ get_or-set_same r (lowest r) v 0 (low_within r h)))
    (λ ne. omega (arith, get_or-set_other r (lowest r) k v 0 ne, small w r pr k))
    (cases_eq k (lowest r)))

module _ (w : ℕ) (plan : List ℕ → Type 0) (o : List ℕ → Out) (laws : Lawful w plan o) where
  pub less_after : (q r : List ℕ) → Partial w q → o q ≡ fits r → unset r ≤ unset q
  less_after q r pq e = unset_less q r ((laws.written q r pq e).0 ∙ sym pq.0) (λ k h. laws.stay q r pq e k (omega arith))

  -- the one plan that agrees with a partial written whole is that partial
  only_whole : (q r : List ℕ) → Partial w q → o q ≡ fits r → unset r ≡ 0 → (p : List ℕ) → plan p → Agrees q p → p ≡ r
  only_whole q r pq e z p pl ag =
      let long : length p ≡ length r = (laws.shaped p pl).0 ∙ sym (laws.written q r pq e).0 in
      let agr = laws.keeps q r pq e p pl ag in
      ext_get_or 0 p r long (λ i h. let d = none_unset r z i (subst (λ n. i < n) long h) in agr i (omega arith))

  module _ (q r : List ℕ) (pq : Partial w q) (e : o q ≡ fits r) (m : ℕ) (u : unset r ≡ suc m) where
    low : lowest r < length r
    low = low_within r (omega arith)

    back : (v : ℕ) (p : List ℕ) → Agrees (with r v) p → Agrees q p
    back v p ag k h =
        let rk = laws.stay q r pq e k h in
        let ne : k ≢ lowest r = (λ x. h (sym rk ∙ ap (λ j. get_or r j 0) x ∙ low_zero r)) in
        let other : get_or (with r v) k 0 ≡ get_or r k 0 = get_or-set_other r (lowest r) k v 0 ne in
        ag k (λ z. h (sym rk ∙ sym other ∙ z)) ∙ other ∙ rk

    at_value : (v : ℕ) (p : List ℕ) → 0 < v → Agrees (with r v) p → get_or p (lowest r) 0 ≡ v
    at_value v p hv ag =
        let same : get_or (with r v) (lowest r) 0 ≡ v = get_or-set_same r (lowest r) v 0 low in
        ag (lowest r) (omega (arith, same)) ∙ same

    under : (v : ℕ) (p : List ℕ) → Agrees (with r v) p → (k : ℕ) → k < lowest r → get_or p k 0 ≡ get_or r k 0
    under v p ag k h =
        let other : get_or (with r v) k 0 ≡ get_or r k 0 = get_or-set_other r (lowest r) k v 0 (omega arith) in
        ag k (omega (arith, other, low_below r k h)) ∙ other

    forth : (v : ℕ) (p : List ℕ) → get_or p (lowest r) 0 ≡ v → Agrees r p → Agrees (with r v) p
    forth v p here ag k h = ⊎_elim
        (λ x. ap (λ j. get_or p j 0) x ∙ here ∙ sym (ap (λ j. get_or (with r v) j 0) x ∙ get_or-set_same r (lowest r) v 0 low))
        (λ ne. let other : get_or (with r v) k 0 ≡ get_or r k 0 = get_or-set_other r (lowest r) k v 0 ne in
        ag k (λ z. h (other ∙ z)) ∙ sym other)
        (cases_eq k (lowest r))

    -- a plan below q fails or holds at the lowest undecided statement
    way : (p : List ℕ) → Below plan q p → Below plan (with r 2) p ⊎ Below plan (with r 1) p
    way p g =
        let agr = laws.keeps q r pq e p g.0 g.1 in
        ⊎_elim (λ x. inr (g.0, forth 1 p x agr)) (λ x. inl (g.0, forth 2 p x agr))
        ((laws.shaped p g.0).1 (lowest r) (subst (λ n. lowest r < n) (laws.written q r pq e).0 low))

    earlier : (p p' : List ℕ) → Below plan (with r 2) p → Below plan (with r 1) p' → Before p p'
    earlier p p' g g' = record {
      at = lowest r;
      within = subst (λ n. lowest r < n) ((laws.written q r pq e).0 ∙ sym (laws.shaped p g.0).0) low;
      below = λ k h. under 2 p g.1 k h ∙ sym (under 1 p' g'.1 k h);
      fails = at_value 2 p (omega arith) g.1;
      holds = at_value 1 p' (omega arith) g'.1;
    }

    both : (a b : Option (List ℕ)) → Finds (Below plan (with r 2)) a → Finds (Below plan (with r 1)) b → Finds (Below plan q) (or_else a b)
    both None None fa fb = λ p g. ⊎_elim (fa p) (fb p) (way p g)
    both None (Some p) fa fb = record {
      good = (fb.good.0, back 1 p fb.good.1);
      least = λ p' g. ⊎_elim (λ h. absurd (fa p' h)) (fb.least p') (way p' g);
    }
    both (Some p) b fa fb = record {
      good = (fa.good.0, back 2 p fa.good.1);
      least = λ p' g. ⊎_elim (fa.least p') (λ h. inr (earlier p p' fa.good h)) (way p' g);
    }

  at_whole : (q r : List ℕ) → Partial w q → o q ≡ fits r → unset r ≡ 0 → First (Below plan q) r
  at_whole q r pq e z =
      let pr = laws.written q r pq e in
      record {
        good = (laws.wholes q r pq e (whole_from w r pr (λ k l. let d = none_unset r z k (subst (λ n. k < n) (sym pr.0) l) in omega arith)), laws.stay q r pq e);
        least = λ p g. inl (only_whole q r pq e z p g.0 g.1);
      }

  at_fits : (q r : List ℕ) → Partial w q → o q ≡ fits r → (f : List ℕ → Option (List ℕ)) (u : ℕ) → unset r ≡ u
      → ((v : ℕ) → 0 < v → v ≤ 2 → 0 < unset r → Finds (Below plan (with r v)) (f (with r v))) → Finds (Below plan q) (answer_at f (seen r u))
  at_fits q r pq e f zero z ih = at_whole q r pq e z
  at_fits q r pq e f (suc m) z ih = both q r pq e m z (f (with r 2)) (f (with r 1)) (ih 2 (omega arith) (omega arith) (omega arith)) (ih 1 (omega arith) (omega arith) (omega arith))

  at_out : (q : List ℕ) → Partial w q → (f : List ℕ → Option (List ℕ)) → (x : Out) → o q ≡ x
      → ((r : List ℕ) → x ≡ fits r → (v : ℕ) → 0 < v → v ≤ 2 → 0 < unset r → Finds (Below plan (with r v)) (f (with r v)))
      → Finds (Below plan q) (answer_at f (node_of x))
  at_out q pq f clash e ih = λ p g. laws.clashes q pq e p g.0 g.1
  at_out q pq f (fits r) e ih = at_fits q r pq e f (unset r) refl (ih r refl)

  pub fewer : (q r : List ℕ) → Partial w q → o q ≡ fits r → (n v : ℕ) → unset q < suc n → 0 < v → 0 < unset r → unset (with r v) < n
  fewer q r pq e n zero h hv hu = omega arith
  fewer q r pq e n (suc v) h hv hu = go (unset r) refl
    where
      go : (u : ℕ) → unset r ≡ u → unset (with r (suc v)) < n
      go zero z = let k : ⊥ = omega arith in absurd k
      go (suc m) z = omega (arith, unset_with r v m z, less_after q r pq e)

  found : (n : ℕ) (q : List ℕ) → Partial w q → unset q < n → Finds (Below plan q) (tree o n q)
  unfolding tree
  found zero q pq h = let z : ⊥ = omega arith in absurd z
  found (suc n) q pq h = at_out q pq (λ p. tree o n p) (o q) refl
      (λ r e v hv hv2 hu. found n (with r v) (partial_with r v hv2 hu (laws.written q r pq e)) (fewer q r pq e n v h hv hu))

  pub first_found : FirstStands w plan o
  first_found q pq = found (suc w) q pq (omega (arith, unset_long q, pq.0))
