-- The answer of an extension, by its outcome and by the least set.
use Rattle.std.proofs.Common.{◌≡◌, ℕ, Bool, List, Ok, sym, ap, ◌∙◌, subst}
use Rattle.base.specs.declared.Outcome.{Outcome}
use Rattle.base.specs.declared.Outcome.TheVariants.{Fits, Clash}
use Rattle.closing.specs.Sets.{tabulate, byte_of, sub_both}
use Rattle.closing.specs.Forces.{Forces, closure, barred, Free, Barred, Least, Sound}
use Rattle.closing.specs.Closures.{closure_is_least, free_to, barred_at, fit_is, clash_is}
use Rattle.closing.specs.Turns.{Extended, ByClosure}

module _ (R : Forces) (s : Sound R) (p : List ℕ) where
  -- there is one least set
  pub least_same : (C : ℕ → Bool) → Least R p C → closure R p ≡ C
  least_same C c = let d = closure_is_least R s p in sub_both (closure R p) C (d.least C c.within c.contains c.keeps) (c.least (closure R p) d.within d.contains d.keeps)

  pub by_closure : (q : List ℕ) (o : Outcome) → Extended R p q o → ByClosure R p (Ok o) q
  by_closure q Fits e = λ C c. let f = fit_is (barred R (closure R p)) (tabulate R.width (byte_of (closure R p))) q e in
      (subst (Free R) (least_same C c) (free_to R (closure R p) f.0), sym f.1 ∙ ap (λ D. tabulate R.width (byte_of D)) (least_same C c))
  by_closure q Clash e = λ C c. subst (Barred R) (least_same C c) (barred_at R (closure R p) (clash_is (barred R (closure R p)) (tabulate R.width (byte_of (closure R p))) e.0))
