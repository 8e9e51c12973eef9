-- The theorems on closures, and the base that a rulebook makes.
use Rattle.std.proofs.Common.{◌≡◌, ℕ, ◌+◌, ◌*◌, ◌<◌, Bool, true, false, cond, ◌⊎◌, List, sym, refl, ap, ◌∙◌, subst, inl, inr, arith}
use Rattle.std.proofs.lemmas.Bool.{cases_lt, both_ways, and_parts, and_from}
use Rattle.base.specs.Laws.{clash, fits}
use Rattle.base.proofs.Partials.{whole_long}
use Rattle.closing.specs.Sets.{contrary, holds, In, Within, tabulate, byte_of, move, holds_once, sub_both}
use Rattle.closing.specs.Forces.{closure, barred, Barred}
use Rattle.closing.specs.Closures.{closing_lawful, closure_is_least, holds_within, agrees_under, barred_at, barred_from, kept_to, kept_from}
use Rattle.stable.specs.Books.{Book, rows, row, Sound, BookPlan, ClosureOf, Contradictory, Bodiless, OutcomeOf}
use Rattle.stable.specs.Decide.{book_forces}
use Rattle.stable.specs.Laws.{ClosureIsLeast, PlansAgree, ClashMeansNoPlan, WholeIsPlan, OutcomeIsClosure, BookLawful, TestsTell}
use Rattle.stable.proofs.Theory.{plans_are_kept, kept_are_plans}
use Rattle.stable.proofs.Plans.{plan_to, plan_from}
use Rattle.stable.proofs.Forced.{book_sound, book_based, kept_five, five_kept, whole_bytes, which, bar_row, bar_statement, bar_last, empties_to, empties_from}

pub book_lawful : BookLawful
book_lawful rb s = closing_lawful (book_forces rb) (book_sound rb s) (λ p. BookPlan rb p) (book_based rb s)

pub closure_least : ClosureIsLeast
closure_least rb s p = let c = closure_is_least (book_forces rb) (book_sound rb s) p in
    record { within = c.within; contains = c.contains; keeps = kept_five rb s _ c.keeps; least = λ D w h k. c.least D w h (five_kept rb D k) }

pub plans_agree : PlansAgree
plans_agree rb s p C c x px ag = c.least (holds x) (holds_within rb.width x (whole_long rb.width x px.whole)) (λ e l h. agrees_under x p ag e h)
    (plans_are_kept rb s (holds x) (whole_bytes rb.width x px.whole) px.plan)

pub clash_means_no_plan : ClashMeansNoPlan
clash_means_no_plan rb s p C c (inl (t, a, b)) x px ag =
    let u = plans_agree rb s p C c x px ag in
    let q : contrary (2 * t) ≡ 2 * t + 1 = omega arith in
    holds_once x (2 * t) (u (2 * t) a) (move (holds x) _ _ (sym q) (u (2 * t + 1) b))
clash_means_no_plan rb s p C c (inr (i, l, hd, nil)) x px ag = px.plan.allowed i l hd (λ e m. absurd (subst (In e) nil m)) (λ e m. absurd (subst (In e) nil m))

pub whole_is_plan : WholeIsPlan
whole_is_plan rb s p C c t nb = kept_are_plans rb s C t c.keeps nb

-- a rule bars exactly the sets with both values for a statement, or every set where a headless rule has an empty body
pub barred_to : (rb : Book) (C : ℕ → Bool) → Barred (book_forces rb) C → Contradictory C ⊎ Bodiless rb
barred_to rb C (k, l, h) = elim (which (rows rb) rb.width k) [
  | inl m ↦ (let e = empties_to (row rb k) (sym (bar_row rb C k m) ∙ h) in inr (k, m, e.0, e.1))
  | inr y ↦ elim y [
    | inl t ↦ (let u = and_parts (C (2 * t.0)) (C (2 * t.0 + 1)) (sym (bar_statement rb C t.0 t.2) ∙ subst (λ j. (book_forces rb).bar j C ≡ true) t.1 h) in inl (t.0, u.0, u.1))
    | inr m ↦ absurd (both_ways _ (bar_last rb C k m) h)
  ]
]

pub barred_by : (rb : Book) (C : ℕ → Bool) → Within (2 * rb.width) C → Contradictory C ⊎ Bodiless rb → Barred (book_forces rb) C
barred_by rb C w (inl (t, a, b)) = (rows rb + t, omega (arith, lt), bar_statement rb C t lt ∙ and_from _ _ a b)
  where
    lt : t < rb.width
    lt = elim (cases_lt t rb.width) [ inl l ↦ l | inr l ↦ absurd (both_ways _ (w (2 * t) (omega arith)) a) ]
barred_by rb C w (inr (i, l, hd, nil)) = (i, omega arith, bar_row rb C i l ∙ empties_from (row rb i) hd nil)

module _ (rb : Book) (s : Sound rb) (p : List ℕ) where
  -- there is one closure
  pub closures_same : (C : ℕ → Bool) → ClosureOf rb p C → closure (book_forces rb) p ≡ C
  closures_same C c = let d = closure_least rb s p in sub_both _ C (d.least C c.within c.contains c.keeps) (c.least _ d.within d.contains d.keeps)

  pub outcome_of : (b : Bool) → barred (book_forces rb) (closure (book_forces rb) p) ≡ b →
      OutcomeOf rb p (cond b clash (fits (tabulate rb.width (byte_of (closure (book_forces rb) p)))))
  outcome_of true h = λ C c. subst (λ D. Contradictory D ⊎ Bodiless rb) (closures_same C c) (barred_to rb (closure (book_forces rb) p) (barred_at (book_forces rb) (closure (book_forces rb) p) h))
  outcome_of false h = λ C c. (
    (λ t. none (inl (subst Contradictory (sym (closures_same C c)) t))),
    (λ t. none (inr t)),
    ap (λ D. tabulate rb.width (byte_of D)) (closures_same C c),
  )
    where
      none : Contradictory (closure (book_forces rb) p) ⊎ Bodiless rb → ⊥
      none x = both_ways (barred (book_forces rb) (closure (book_forces rb) p)) h (barred_from (book_forces rb) (closure (book_forces rb) p) (barred_by rb (closure (book_forces rb) p) (closure_least rb s p).within x))

pub outcome_is_closure : OutcomeIsClosure
outcome_is_closure rb s p = outcome_of rb s p (barred (book_forces rb) (closure (book_forces rb) p)) refl

pub tests_tell : TestsTell
tests_tell rb X = (plan_to rb X, plan_from rb X, (λ s h. kept_five rb s X (kept_to (book_forces rb) X h)), (λ h. kept_from (book_forces rb) X (five_kept rb X h)))
