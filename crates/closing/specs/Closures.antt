-- The closure is the least kept set, and rules make a base.
use Rattle.std.specs.Prelude.{◌≡◌, ℕ, zero, suc, ◌+◌, ◌-◌, ◌*◌, ◌/◌, ◌%◌, ◌<◌, ◌≤◌, Bool, true, false, cond, not, ◌&&◌, ◌||◌, ◌≢◌, List, length, ◌==◌, nat_eq, nat_lt, slice_index, slice_index_or, refl}
use Rattle.std.proofs.Common.{sym, ap, ◌∙◌, subst, arith}
use Rattle.std.proofs.Math.Path.{fun_ext}
use Rattle.std.proofs.Math.Logic.{inl, inr}
use Rattle.std.proofs.lemmas.Bool.{eqb-true, eqb-false, cases_Bool, cases_eq, and_parts, and_from, not-true, not_from_false, not-false, not_from_true, both_ways, cases_lt, ne_eqb, eq-eqb, lt-ltb, le-ltb, cond-true, cond-false, or_cases, or_right, false_from_ne_true}
use Rattle.std.proofs.lemmas.List.{get_or_past, ext_get_or}
use Rattle.source.specs.Plans.{Partial, Whole, Agrees}
use Rattle.base.proofs.Partials.{long, small, partial_from, whole_long, whole_partial, whole_decided}
use Rattle.base.specs.Laws.{clash, fits, Lawful}
use Rattle.closing.specs.Sets.{contrary, holds, subset, Within, Sub, Under, tabulate, byte_of, imp_to, imp_from, below_to, below_from, sets_to, sets_from, move, contrary_back, holds_once, sub_both, some_below_to, some_below_from}
use Rattle.closing.specs.Forces.{Forces, kept, closure, barred, outcome, Kept, Free, Barred, Least, Sound, Based}

abbrev Covers : Forces → List ℕ → (ℕ → Bool) → Type 0
Covers R p D = (e : ℕ) → e < 2 * R.width → holds p e ≡ true → D e ≡ true

pub kept_to : (R : Forces) (D : ℕ → Bool) → kept R D ≡ true → Kept R D
kept_to R D h k l e m = imp_to (R.force k D e) (D e) (below_to (2 * R.width) _ (below_to R.many _ h k l) e m)

pub kept_from : (R : Forces) (D : ℕ → Bool) → Kept R D → kept R D ≡ true
kept_from R D h = below_from R.many _ (λ k l. below_from (2 * R.width) _ (λ e m. imp_from (R.force k D e) (D e) (h k l e m)))

pub closure_to : (R : Forces) (p : List ℕ) (e : ℕ) → closure R p e ≡ true → (D : ℕ → Bool) → Within (2 * R.width) D → Covers R p D → Kept R D → D e ≡ true
closure_to R p e h D w c k = imp_to _ (D e) (sets_to (2 * R.width) _ h D w)
    (and_from _ _ (below_from (2 * R.width) _ (λ s l. imp_from (holds p s) (D s) (c s l))) (kept_from R D k))

pub closure_from : (R : Forces) (p : List ℕ) (e : ℕ) → ((D : ℕ → Bool) → Within (2 * R.width) D → Covers R p D → Kept R D → D e ≡ true) → closure R p e ≡ true
closure_from R p e h = sets_from (2 * R.width) _ (λ D w. imp_from _ (D e) (λ b.
    h D w (λ s l q. imp_to (holds p s) (D s) (below_to (2 * R.width) _ (and_parts (subset (2 * R.width) (holds p) D) _ b).0 s l) q)
    (kept_to R D (and_parts (subset (2 * R.width) (holds p) D) _ b).1)))

module _ (R : Forces) (s : Sound R) (p : List ℕ) where
  full : ℕ → Bool
  full e = nat_lt e (2 * R.width)

  closure_within : Within (2 * R.width) (closure R p)
  unfolding full
  closure_within e l = elim (cases_Bool (closure R p e)) [
    | inr q ↦ q
    | inl q ↦ absurd (both_ways _ (le-ltb e (2 * R.width) l) (closure_to R p e q full (λ t k. le-ltb t _ k) (λ t k h. lt-ltb _ _ k) (λ k m t lt h. lt-ltb _ _ lt)))
  ]

  pub closure_is_least : Least R p (closure R p)
  closure_is_least = record {
    within = closure_within;
    contains = λ e l h. closure_from R p e (λ D w c k. c e l h);
    keeps = λ k l e m f. closure_from R p e (λ D w c kd. kd k l e m (s.more k (closure R p) D (λ t h. closure_to R p t h D w c kd) e f));
    least = λ D w c k e h. closure_to R p e h D w c k;
  }

-- BYTES
pub length_tabulate : (n : ℕ) (f : ℕ → ℕ) → length (tabulate n f) ≡ n
length_tabulate zero f = refl
length_tabulate (suc n) f = ap suc (length_tabulate n (λ s. f (suc s)))

pub get_d_tabulate : (n : ℕ) (f : ℕ → ℕ) (s : ℕ) → s < n → slice_index (tabulate n f) s ≡ f s
get_d_tabulate zero f s l = absurd (omega arith)
get_d_tabulate (suc n) f zero l = refl
get_d_tabulate (suc n) f (suc s) l = get_d_tabulate n (λ k. f (suc k)) s (omega arith)

pub bytes : ℕ → (ℕ → Bool) → List ℕ
bytes n C = tabulate n (byte_of C)

byte_small : (C : ℕ → Bool) (s : ℕ) → byte_of C s ≤ 2
unfolding byte_of
byte_small C s = go (C (2 * s)) (C (2 * s + 1))
  where
    go : (a b : Bool) → cond a 1 (cond b 2 0) ≤ 2
    go true b = omega arith
    go false true = omega arith
    go false false = omega arith

bytes_partial : (n : ℕ) (C : ℕ → Bool) → Partial n (tabulate n (byte_of C))
bytes_partial n C = partial_from n (tabulate n (byte_of C)) (length_tabulate n (byte_of C))
    (λ k. elim (cases_lt k n) [
      | inl l ↦ omega (arith, get_d_tabulate n (byte_of C) k l, byte_small C k)
      | inr l ↦ omega (arith, get_or_past (tabulate n (byte_of C)) k 0 (omega (arith, length_tabulate n (byte_of C))))
    ])

pub holds_within : (n : ℕ) (p : List ℕ) → length p ≡ n → Within (2 * n) (holds p)
holds_within n p len e l = let z = get_or_past p (e / 2) 0 (omega arith) in ne_eqb _ _ (λ q. omega arith)

-- in a whole partial an entry holds or is contradicted
pub either : (w : ℕ) (p : List ℕ) → Whole w p → (e : ℕ) → e < 2 * w → (holds p (contrary e) ≡ false) → holds p e ≡ true
either w p pp e l h =
    let n = eqb-false _ _ h in
    let hf : contrary e / 2 ≡ e / 2 = omega arith in
    let sd : contrary e % 2 + e % 2 ≡ 1 = omega arith in
    let y = ap (λ k. slice_index p k) hf in
    let a = small w p (whole_partial w p pp) (e / 2) in
    let b = whole_decided w p pp (e / 2) (omega arith) in
    eq-eqb _ _ (elim (cases_eq (slice_index p (e / 2)) (1 + e % 2)) [ inl q ↦ q | inr q ↦ absurd (n (omega arith)) ])

read : (a b : Bool) → (a ≡ true → b ≢ true) → ((cond a 1 (cond b 2 0) == 1) ≡ a) × ((cond a 1 (cond b 2 0) == 2) ≡ b)
read true true h = absurd (h refl refl)
read true false h = (refl, refl)
read false true h = (refl, refl)
read false false h = (refl, refl)

-- the bytes of a set without contrary decisions hold what it has
holds_bytes : (n : ℕ) (C : ℕ → Bool) → Within (2 * n) C → ((e : ℕ) → C e ≡ true → C (contrary e) ≢ true) → (e : ℕ) → holds (tabulate n (byte_of C)) e ≡ C e
unfolding byte_of
holds_bytes n C w ok e = elim (cases_lt e (2 * n)) [ inr l ↦ past l | inl l ↦ elim (cases_eq (e % 2) 0) [ inl q ↦ even l q | inr q ↦ odd l q ] ]
  where
    both : (s : ℕ) → C (2 * s) ≡ true → C (2 * s + 1) ≢ true
    both s a b = let t : contrary (2 * s) ≡ 2 * s + 1 = omega arith in ok (2 * s) a (move C _ _ (sym t) b)

    past : 2 * n ≤ e → holds (tabulate n (byte_of C)) e ≡ C e
    past l = ne_eqb _ _ (λ q. let z = get_or_past (tabulate n (byte_of C)) (e / 2) 0 (let y = length_tabulate n (byte_of C) in omega arith) in omega arith) ∙ sym (w e l)

    even : e < 2 * n → e % 2 ≡ 0 → holds (tabulate n (byte_of C)) e ≡ C e
    even l q = let half : e / 2 < n = omega arith in let tw : 2 * (e / 2) ≡ e = omega arith in
        ap (λ k. nat_eq (slice_index (tabulate n (byte_of C)) (e / 2)) (1 + k)) q ∙ ap (λ k. nat_eq k 1) (get_d_tabulate n (byte_of C) (e / 2) half) ∙ (read (C (2 * (e / 2))) (C (2 * (e / 2) + 1)) (both (e / 2))).0 ∙ ap C tw

    odd : e < 2 * n → e % 2 ≢ 0 → holds (tabulate n (byte_of C)) e ≡ C e
    odd l q = let half : e / 2 < n = omega arith in let tw : 2 * (e / 2) + 1 ≡ e = omega arith in let one : e % 2 ≡ 1 = omega arith in
        ap (λ k. nat_eq (slice_index (tabulate n (byte_of C)) (e / 2)) (1 + k)) one ∙ ap (λ k. nat_eq k 2) (get_d_tabulate n (byte_of C) (e / 2) half) ∙ (read (C (2 * (e / 2))) (C (2 * (e / 2) + 1)) (both (e / 2))).1 ∙ ap C tw

-- a partial has the bytes of what holds in it
pub bytes_holds : (n : ℕ) (q : List ℕ) → Partial n q → tabulate n (byte_of (holds q)) ≡ q
unfolding byte_of
bytes_holds n q pq = ext_get_or 0 _ _ (length_tabulate n _ ∙ sym (long n q pq)) (λ s l.
    let w = length_tabulate n (byte_of (holds q)) in get_d_tabulate n (byte_of (holds q)) s (omega arith) ∙ byte s)
  where
    byte : (s : ℕ) → byte_of (holds q) s ≡ slice_index q s
    byte s = go (slice_index q s) refl (small n q pq s)
      where
        hf0 : (2 * s) / 2 ≡ s
        hf0 = omega arith

        hf1 : (2 * s + 1) / 2 ≡ s
        hf1 = omega arith

        go : (b : ℕ) → slice_index q s ≡ b → b ≤ 2 → byte_of (holds q) s ≡ slice_index q s
        go zero e l = cond-false (holds q (2 * s)) 1 _ (ne_eqb _ _ (λ z. let x = ap (λ t. slice_index q t) hf0 in omega arith)) ∙
            cond-false (holds q (2 * s + 1)) 2 0 (ne_eqb _ _ (λ z. let x = ap (λ t. slice_index q t) hf1 in omega arith)) ∙ sym e
        go (suc zero) e l = cond-true (holds q (2 * s)) 1 _ (eq-eqb _ _ (let x = ap (λ t. slice_index q t) hf0 in omega arith)) ∙ sym e
        go (suc (suc zero)) e l = cond-false (holds q (2 * s)) 1 _ (ne_eqb _ _ (λ z. let x = ap (λ t. slice_index q t) hf0 in omega arith)) ∙
            cond-true (holds q (2 * s + 1)) 2 0 (eq-eqb _ _ (let x = ap (λ t. slice_index q t) hf1 in omega arith)) ∙ sym e
        go (suc (suc (suc n))) e l = absurd (omega arith)

-- AGREEING is holding
pub agrees_under : (x p : List ℕ) → Agrees p x → Sub (holds p) (holds x)
agrees_under x p ag e h = let y = eqb-true _ _ h in eq-eqb _ _ (ag (e / 2) (λ z. omega arith) ∙ y)

pub under_agrees : (w : ℕ) (x p : List ℕ) → Partial w p → Sub (holds p) (holds x) → Agrees p x
under_agrees w x p pp u = λ k nz. at k (slice_index p k) refl (pos (slice_index p k) nz) (small w p pp k)
  where
    pos : (n : ℕ) → (n ≢ 0) → 0 < n
    pos n nz = omega arith

    at : (k b : ℕ) → slice_index p k ≡ b → 0 < slice_index p k → slice_index p k ≤ 2 → slice_index x k ≡ slice_index p k
    at k b e l m =
        let c : ℕ = 2 * k + (slice_index p k - 1) in
        let hc : c / 2 ≡ k = omega arith in
        let rc : 1 + c % 2 ≡ slice_index_or p k 0 = omega arith in
        let y = eqb-true _ _ (u c (eq-eqb _ _ (ap (λ t. slice_index p t) hc ∙ sym rc))) in
        ap (λ t. slice_index x t) (sym hc) ∙ y ∙ rc

pub free_to : (R : Forces) (D : ℕ → Bool) → barred R D ≡ false → Free R D
free_to R D h k l = not-true _ (below_to R.many _ (not-false _ h) k l)

free_from : (R : Forces) (D : ℕ → Bool) → Free R D → barred R D ≡ false
free_from R D h = not_from_true _ (below_from R.many _ (λ k l. not_from_false _ (h k l)))

pub barred_at : (R : Forces) (D : ℕ → Bool) → barred R D ≡ true → Barred R D
barred_at R D h = some_below_to R.many (λ k. R.bar k D) h

pub barred_from : (R : Forces) (D : ℕ → Bool) → Barred R D → barred R D ≡ true
barred_from R D (k, l, h) = some_below_from R.many (λ k. R.bar k D) k l h

module _ (R : Forces) (s : Sound R) (p : List ℕ) (pp : Partial R.width p) where
  C : ℕ → Bool
  C = closure R p

  pub under_closure : Under (closure R p) p
  under_closure e h = elim (cases_lt e (2 * R.width)) [
    | inl l ↦ (closure_is_least R s p).contains e l h
    | inr l ↦ absurd (both_ways _ (holds_within R.width p (long R.width p pp) e l) h)
  ]

  -- a closure that is not barred has no contrary decisions
  pub consistent : Free R (closure R p) → (e : ℕ) → closure R p e ≡ true → closure R p (contrary e) ≢ true
  unfolding C
  consistent free e a b = holds_once p e (given e a b) (given (contrary e) b (move C _ _ (sym (contrary_back e)) a))
    where
      -- the closure without what was forced against its contrary
      D : ℕ → Bool
      D f = C f && (holds p f || not (C (contrary f)))

      keeps : Kept R D
      keeps k l f m h = let cf = (closure_is_least R s p).keeps k l f m (s.more k D C (λ t x. (and_parts (C t) _ x).0) f h) in
          and_from (C f) _ cf (elim (cases_Bool (C (contrary f))) [
            | inr q ↦ or_right (holds p f) _ (not_from_false _ q)
            | inl q ↦ (let br = s.conflict k f C l m (s.more k D C (λ t x. (and_parts (C t) _ x).0) f h) cf q in absurd (both_ways _ (free br.0 br.1) br.2))
          ])

      within : Within (2 * R.width) D
      within f l = ap (λ t. t && (holds p f || not (C (contrary f)))) ((closure_is_least R s p).within f l)

      covers : (f : ℕ) → f < 2 * R.width → holds p f ≡ true → D f ≡ true
      covers f l h = and_from (C f) _ ((closure_is_least R s p).contains f l h) (ap (λ t. t || not (C (contrary f))) h)

      given : (f : ℕ) → C f ≡ true → C (contrary f) ≡ true → holds p f ≡ true
      given f x y = elim (or_cases (holds p f) _ (and_parts (C f) _ ((closure_is_least R s p).least D within covers keeps f x)).1) [ inl h ↦ h | inr n ↦ absurd (both_ways _ (not-true _ n) y) ]

  same : Free R (closure R p) → holds (tabulate R.width (byte_of (closure R p))) ≡ closure R p
  same free = fun_ext (holds_bytes R.width (closure R p) (closure_is_least R s p).within (consistent free))

pub fit_is : (b : Bool) (x q : List ℕ) → cond b clash (fits x) ≡ fits q → (b ≡ false) × (x ≡ q)
fit_is true x q h = absurd (cc)
fit_is false x q h = (refl, cc)

pub clash_is : (b : Bool) (x : List ℕ) → cond b clash (fits x) ≡ clash → b ≡ true
clash_is true x h = refl
clash_is false x h = absurd (cc)

module _ (R : Forces) (s : Sound R) (plan : List ℕ → Type 0) (b : Based R plan) where
  in_plan : (p x : List ℕ) → plan x → Agrees p x → Sub (closure R p) (holds x)
  in_plan p x px ag = (closure_is_least R s p).least (holds x) (holds_within R.width x (whole_long R.width x (b.shaped x px))) (λ e l h. agrees_under x p ag e h) (b.kept_by x px)

  pub closing_lawful : Lawful R.width plan (outcome R)
  closing_lawful = record {
    narrow = s.narrow;
    shaped = b.shaped;
    written = λ q r p e. subst (Partial R.width) (f q r e).1 (bytes_partial R.width (closure R q));
    stay = λ q r p e. subst (λ y. Agrees q y) (f q r e).1 (under_agrees R.width (t q) q p (λ k h. at q r p e k (under_closure R s q p k h)));
    keeps = λ q r p e x px ag. subst (λ y. Agrees y x) (f q r e).1 (under_agrees R.width x (t q) (bytes_partial R.width (closure R q))
        (λ k h. in_plan q x px ag k (subst (λ D. D k ≡ true) (same R s q p (free_to R _ (f q r e).0)) h)));
    clashes = λ q p e x px ag. both_ways _ (free_from R (closure R q) (λ k l. false_from_ne_true (R.bar k (closure R q)) (λ h. both_ways _ (b.free x px k l) (s.bars k (closure R q) (holds x) (in_plan q x px ag) h))))
        (clash_is (barred R (closure R q)) (t q) e);
    wholes = λ q r p e d. let fr = free_to R _ (f q r e).0 in let sm = same R s q p fr in
        subst plan (f q r e).1 (b.wholes (t q) (subst (Whole R.width) (sym (f q r e).1) d)
        (subst (Kept R) (sym sm) (closure_is_least R s q).keeps) (subst (Free R) (sym sm) fr));
  }
    where
      t : List ℕ → List ℕ
      t q = tabulate R.width (byte_of (closure R q))

      f : (q r : List ℕ) → outcome R q ≡ fits r → (barred R (closure R q) ≡ false) × (t q ≡ r)
      f q r e = fit_is (barred R (closure R q)) (t q) r e

      at : (q r : List ℕ) (p : Partial R.width q) (e : outcome R q ≡ fits r) (k : ℕ) → closure R q k ≡ true → holds (t q) k ≡ true
      at q r p e k h = subst (λ D. D k ≡ true) (sym (same R s q p (free_to R _ (f q r e).0))) h

-- from the last turn to the outcome
module _ (R : Forces) (s : Sound R) (p : List ℕ) (pp : Partial R.width p) where
  pub fits_final : (q : List ℕ) → Partial R.width q → ((C : ℕ → Bool) → Kept R C → Under C p → Under C q) → Under (holds q) p → Kept R (holds q) → Free R (holds q) → outcome R p ≡ fits q
  fits_final q pq forced grows k free =
      ap (λ D. cond (barred R D) clash (fits (tabulate R.width (byte_of D)))) eq
      ∙ cond-false (barred R (holds q)) clash (fits (tabulate R.width (byte_of (holds q)))) (free_from R (holds q) free) ∙ ap fits (bytes_holds R.width q pq)
    where
      eq : closure R p ≡ holds q
      eq = sub_both (closure R p) (holds q)
          ((closure_is_least R s p).least (holds q) (holds_within R.width q (long R.width q pq)) (λ t l h. grows t h) k)
          (forced (closure R p) (closure_is_least R s p).keeps (under_closure R s p pp))

  pub clash_final : ((C : ℕ → Bool) → Kept R C → Under C p → Barred R C) → outcome R p ≡ clash
  clash_final h = cond-true (barred R (closure R p)) clash (fits (tabulate R.width (byte_of (closure R p))))
      (barred_from R (closure R p) (h (closure R p) (closure_is_least R s p).keeps (under_closure R s p pp)))
