-- The parts of the five rules as tests, and what they say.
use Rattle.std.proofs.Common.{◌≡◌, ℕ, ◌+◌, ◌*◌, Bool, true, false, not, ◌||◌, eqb, ◌⊎◌, sym, refl, ap, subst, inl, inr}
use Rattle.std.proofs.Math.Option.{Option, some, none}
use Rattle.std.proofs.lemmas.Bool.{eqb-true, cases_Bool, both_ways, not-true, not_from_false, not-false, eq-eqb, or_cases, or_left, or_right, or_parts}
use Rattle.closing.specs.Sets.{contrary, In, every, imp_to, imp_from, every_to, every_from, every_or, some_to, some_from, below_to, below_from}
use Rattle.stable.specs.Books.{stmt, negated, Rule, Book, rows, row, Cancelled, HeadFails, Unfounded}
use Rattle.stable.specs.Decide.{on_head, cancelled, unfounded, heads}

pub head_to : (o : Option ℕ) (f : ℕ → Bool) → on_head o true f ≡ true → (h : ℕ) → o ≡ some h → f h ≡ true
head_to none f e h p = absurd (cc)
head_to (some g) f e h p = let q : g ≡ h = cc in subst (λ z. f z ≡ true) q e

pub head_from : (o : Option ℕ) (f : ℕ → Bool) → ((h : ℕ) → o ≡ some h → f h ≡ true) → on_head o true f ≡ true
head_from none f e = refl
head_from (some g) f e = e g refl

pub heads_to : (s : ℕ) (r : Rule) → heads s r ≡ true → r.head ≡ some s
heads_to s r e = go r.head e
  where
    go : (o : Option ℕ) → on_head o false (λ h. eqb h s) ≡ true → o ≡ some s
    go none e = absurd (both_ways false refl e)
    go (some g) e = ap some (eqb-true g s e)

pub heads_from : (s : ℕ) (r : Rule) → r.head ≡ some s → heads s r ≡ true
heads_from s r e = subst (λ o. on_head o false (λ h. eqb h s) ≡ true) (sym e) (eq-eqb s s refl)

pub fails_to : (D : ℕ → Bool) (o : Option ℕ) → on_head o true (λ h. D (2 * h + 1)) ≡ true → HeadFails D o
fails_to D none e = tt
fails_to D (some h) e = e

pub fails_from : (D : ℕ → Bool) (o : Option ℕ) → HeadFails D o → on_head o true (λ h. D (2 * h + 1)) ≡ true
fails_from D none e = refl
fails_from D (some h) e = e

pub cancelled_to : (D : ℕ → Bool) (r : Rule) → cancelled D r ≡ true → Cancelled D r
cancelled_to D r h = some_to (λ e. D (contrary e)) r.body h

pub cancelled_from : (D : ℕ → Bool) (r : Rule) → Cancelled D r → cancelled D r ≡ true
cancelled_from D r c = some_from (λ e. D (contrary e)) r.body c.0 c.1 c.2

pub unf_to : (rb : Book) (D U : ℕ → Bool) → unfounded rb D U ≡ true → Unfounded rb D U
unf_to rb D U h i g l hd ug =
    elim (or_cases (cancelled D (row rb i)) _ (imp_to (U g) _ (head_to (row rb i).head _ (below_to (rows rb) _ h i l) g hd) ug)) [
      | inl c ↦ inl (cancelled_to D (row rb i) c)
      | inr c ↦ inr (plain c)
    ]
  where
    plain : not (every (λ e. negated e || not (U (stmt e))) (row rb i).body) ≡ true →
        (e : ℕ) × In e (row rb i).body × (negated e ≡ false) × (U (stmt e) ≡ true)
    plain c = elim (every_or (λ e. negated e || not (U (stmt e))) (row rb i).body) [
      | inl all ↦ absurd (both_ways _ (not-true _ c) (every_from _ (row rb i).body all))
      | inr d ↦ (d.0, d.1, (or_parts (negated d.0) _ d.2).0, not-false _ (or_parts (negated d.0) _ d.2).1)
    ]

pub unf_from : (rb : Book) (D U : ℕ → Bool) → Unfounded rb D U → unfounded rb D U ≡ true
unf_from rb D U h = below_from (rows rb) _ (λ i l. head_from (row rb i).head _ (λ g hd. imp_from (U g) _ (λ ug. go i (h i g l hd ug))))
  where
    go : (i : ℕ) → Cancelled D (row rb i) ⊎ ((e : ℕ) × In e (row rb i).body × (negated e ≡ false) × (U (stmt e) ≡ true)) →
        (cancelled D (row rb i) || not (every (λ e. negated e || not (U (stmt e))) (row rb i).body)) ≡ true
    go i (inl c) = or_left _ _ (cancelled_from D (row rb i) c)
    go i (inr c) = or_right (cancelled D (row rb i)) _ (elim (cases_Bool (every (λ e. negated e || not (U (stmt e))) (row rb i).body)) [
      | inl all ↦ absurd (elim (or_cases (negated c.0) _ (every_to _ (row rb i).body all c.0 c.1)) [
        | inl p ↦ both_ways _ c.2 p
        | inr p ↦ both_ways _ (not-true _ p) c.3
      ])
      | inr q ↦ not_from_false _ q
    ])
