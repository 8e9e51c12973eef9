-- The laws of the base whose plans hold somewhere.
use Rattle.std.specs.Prelude.{◌≡◌, ℕ, suc, ◌≤◌, Bool, true, false, cond, List, [], ◌∷◌, length, ◌==◌, refl}
use Rattle.std.proofs.Common.{sym, ap, subst, ◌∙◌, arith}
use Rattle.std.proofs.lemmas.Bool.{eq-eqb, eqb-true, and_from, and_parts, true≢false}
use Rattle.source.specs.Plans.{Partial, Agrees}
use Rattle.base.specs.Laws.{clash, fits, Lawful}
use Rattle.search_tests.specs.SomeHolds.{all_fail, HoldsSomewhere, some_outcome}

-- what agrees with a row where all fail is such a row
same_fail : (q p : List ℕ) → length p ≡ length q → all_fail q ≡ true → Agrees q p → all_fail p ≡ true
same_fail q [] e b f = refl
same_fail [] (x ∷ p) e b f = absurd (omega arith)
same_fail (y ∷ q) (x ∷ p) e b f =
    let t = and_parts (y == 2) (all_fail q) b in
    let two = eqb-true y 2 t.0 in
    and_from _ _ (eq-eqb x 2 (f 0 (omega (arith, two)) ∙ two)) (same_fail q p (omega arith) t.1 (λ k n. f (suc k) n))

is_clash : (b : Bool) (q : List ℕ) → cond b clash (fits q) ≡ clash → b ≡ true
is_clash true q e = refl
is_clash false q e = let t : ◌≡◌ {A = ℕ} 0 1 = cc in absurd (omega arith)

is_fits : (b : Bool) (q r : List ℕ) → cond b clash (fits q) ≡ fits r → (b ≡ false) × (q ≡ r)
is_fits true q r e = let t : ◌≡◌ {A = ℕ} 0 1 = cc in absurd (omega arith)
is_fits false q r e = (refl, cc)

pub some_lawful : (w : ℕ) → w ≤ 512 → Lawful w (λ p. HoldsSomewhere w p) (λ q. some_outcome q)
some_lawful w h = record {
  narrow = h;
  shaped = λ p a. a.0;
  written = λ q r p e. subst (Partial w) (is_fits (all_fail q) q r e).1 p;
  stay = λ q r p e. subst (Agrees q) (is_fits (all_fail q) q r e).1 (λ k n. refl);
  keeps = λ q r p e x a ag. subst (λ y. Agrees y x) (is_fits (all_fail q) q r e).1 ag;
  clashes = λ q p e x a ag. true≢false (sym (same_fail q x (a.0.0 ∙ sym p.0) (is_clash (all_fail q) q e) ag) ∙ a.1);
  wholes = λ q r p e d. let f = is_fits (all_fail q) q r e in (d, ap all_fail (sym f.1) ∙ f.0);
}
