-- The narrowed outcome, from what the base below makes of a copy.
use Rattle.std.proofs.Common.{◌≡◌, ℕ, List, Ok, inl, inr, refl, ap, ◌∙◌, sym, subst}
use Rattle.std.proofs.lemmas.Bool.{cases_Bool, cond-true, cond-false}
use Rattle.base.specs.Laws.{Out, clash, fits}
use Rattle.base.specs.Extending.{Extends}
use Rattle.base.specs.declared.Outcome.{Outcome}
use Rattle.base.specs.declared.Outcome.TheVariants.{Fits, Clash}
use Rattle.narrow.specs.Meeting.{MayMeet, may_meet, narrowed}
use Rattle.narrow.specs.Meetings.{may_to, may_from}

module _ (w : ℕ) (o : List ℕ → Out) (g q copy r : List ℕ) (x : Outcome) (same : copy ≡ q) (is : x ≡ Fits) (e : Extends w o copy (Ok x) r) where
  extended : Extends w o q (Ok Fits) r
  extended = subst (λ y. Extends w o y (Ok Fits) r) same (subst (λ y. Extends w o copy (Ok y) r) is e)

  -- the group may still be met
  pub stays : MayMeet o g r → (after : List ℕ) → after ≡ r → Extends w (λ p. narrowed o g (o p)) q (Ok Fits) after
  stays m after a = (extended.0, ap (narrowed o g) extended.1 ∙ cond-true (may_meet o g r) (fits r) clash (may_from o g r m) ∙ ap fits (sym a))

  -- it can no longer be met
  pub is_cut : (MayMeet o g r → ⊥) → Extends w (λ p. narrowed o g (o p)) q (Ok Clash) q
  is_cut n = (
    extended.0,
    ap (narrowed o g) extended.1 ∙ cond-false (may_meet o g r) (fits r) clash
        (elim (cases_Bool (may_meet o g r)) [ inl t ↦ absurd (n (may_to o g r t)) | inr t ↦ t ]),
    refl,
  )
