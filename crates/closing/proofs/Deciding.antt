-- An entry that a rule forces, made to hold.
use Rattle.std.proofs.Common.{◌≡◌, Ok, ℕ, zero, suc, ◌+◌, ◌*◌, ◌/◌, ◌%◌, ◌<◌, Bool, true, cond, eqb, ◌≢◌, List, [], ◌∷◌, length, get_or, set, sym, ap, ◌∙◌, subst, inl, inr, arith}
use Rattle.std.proofs.lemmas.Bool.{eqb-true, cases_eq, ne_eqb, eq-eqb, cond-true, cond-false}
use Rattle.std.proofs.lemmas.List.{get_or-set_same, get_or-set_other, length-set}
use Rattle.source.specs.Plans.{UpTo}
use Rattle.closing.specs.Sets.{holds, Under}
use Rattle.closing.specs.Turns.{undecided, Further, Made}

pub undecided_set : (p : List ℕ) (s v : ℕ) → s < length p → get_or p s 0 ≡ 0 → v ≢ 0 → undecided (set p s v) < undecided p
undecided_set [] s v l z nz = absurd (omega arith)
undecided_set (x ∷ xs) zero v l z nz =
    let a : ◌≡◌ {A = ℕ} (cond (eqb x 0) 1 0) 1 = cond-true (eqb x 0) 1 0 (eq-eqb x 0 z) in
    let b : ◌≡◌ {A = ℕ} (cond (eqb v 0) 1 0) 0 = cond-false (eqb v 0) 1 0 (ne_eqb v 0 nz) in omega (arith, a, b)
undecided_set (x ∷ xs) (suc s) v l z nz = let r = undecided_set xs s v (omega arith) z nz in omega arith

pub made_further : (L : (ℕ → Bool) → Type 0) (p q : List ℕ) (e : ℕ) → e < 2 * length p → UpTo 2 p → Made p e q (Ok true) →
    ((C : ℕ → Bool) → L C → Under C p → C e ≡ true) → Further L p q
made_further L p q e l pp d force = record {
  long = ap length d.1 ∙ length-set p (e / 2) (1 + e % 2);
  small = λ s ls. elim (cases_eq s (e / 2)) [
    | inl k ↦ let x = ap (λ z. get_or z s 0) d.1 in let y = ap (λ z. get_or (set p (e / 2) (1 + e % 2)) z 0) k in let g = get_or-set_same p (e / 2) (1 + e % 2) 0 half in omega arith
    | inr k ↦ let x = ap (λ z. get_or z s 0) d.1 in let g = get_or-set_other p (e / 2) s (1 + e % 2) 0 k in let b = pp s (let n = ap length d.1 ∙ length-set p (e / 2) (1 + e % 2) in omega arith) in omega arith
  ];
  fewer = subst (λ z. undecided z < undecided p) (sym d.1) (undecided_set p (e / 2) (1 + e % 2) half d.0 (omega arith));
  forced = λ C lc u f h. go C lc u f (subst (λ z. holds z f ≡ true) d.1 h);
  grows = λ f h. subst (λ z. holds z f ≡ true) (sym d.1) (elim (cases_eq (f / 2) (e / 2)) [
    | inl k ↦ (let x = eqb-true _ _ h in let y = ap (λ z. get_or p z 0) k in let z = d.0 in absurd (omega arith))
    | inr k ↦ (let x = eqb-true _ _ h in let g = get_or-set_other p (e / 2) (f / 2) (1 + e % 2) 0 k in eq-eqb _ _ (g ∙ x))
  ]);
}
  where
    half : e / 2 < length p
    half = omega arith

    go : (C : ℕ → Bool) → L C → Under C p → (f : ℕ) → holds (set p (e / 2) (1 + e % 2)) f ≡ true → C f ≡ true
    go C lc u f h = elim (cases_eq (f / 2) (e / 2)) [
      | inl k ↦ (let x = eqb-true _ _ h in let y = ap (λ z. get_or (set p (e / 2) (1 + e % 2)) z 0) k in let g = get_or-set_same p (e / 2) (1 + e % 2) 0 half in
          let same : e ≡ f = omega arith in subst (λ z. C z ≡ true) same (force C lc u))
      | inr k ↦ (let x = eqb-true _ _ h in let g = get_or-set_other p (e / 2) (f / 2) (1 + e % 2) 0 k in u f (eq-eqb _ _ (sym g ∙ x)))
    ]
