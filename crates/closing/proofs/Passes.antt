-- A pass of turns, and passes until nothing changes.
use Rattle.std.proofs.Common.{◌≡◌, Ok, Err, Result, ℕ, ◌+◌, ◌<◌, ◌≤◌, Bool, true, false, ◌||◌, List, length, refl, sym, ap, ◌∙◌, subst, arith, below_more}
use Rattle.source.specs.Plans.{Partial}
use Rattle.closing.specs.Sets.{holds, Under}
use Rattle.closing.specs.Forces.{Forces, KeptAt, Kept, Sound, outcome}
use Rattle.closing.specs.Turns.{undecided, Further, Turn, Pass, Through, Passed, Closes}
use Rattle.closing.specs.declared.Clash.{Clash}
use Rattle.closing.specs.Closures.{fits_final, clash_final}
use Rattle.base.specs.Laws.{fits}
use Rattle.std.specs.Result.{IsErr}

-- what goes further from a partial is a partial
pub further_partial : (w : ℕ) (L : (ℕ → Bool) → Type 0) (p q : List ℕ) → Partial w p → Further L p q → Partial w q
further_partial w L p q pp f = (f.long ∙ pp.0, f.small)

module _ (R : Forces) (p : List ℕ) where
  through_under : (i : ℕ) (q : List ℕ) (ch : Bool) → Through R p i q ch → (C : ℕ → Bool) → Kept R C → Under C p → Under C q
  through_under i q true u C k h = u.forced C k h
  through_under i q false u C k h = subst (Under C) (sym u.0) h

  through_same : (i : ℕ) (q q' : List ℕ) (ch : Bool) → Through R p i q ch → Turn R i q q' (Ok false) → Through R p (i + 1) q' ch
  through_same i q q' true u t = subst (Further (Kept R) p) (sym t.0) u
  through_same i q q' false u t =
      (t.0 ∙ u.0, below_more (λ k. KeptAt R k (holds p) × (R.bar k (holds p) ≡ false)) i u.1 (subst (λ z. KeptAt R i (holds z) × (R.bar i (holds z) ≡ false)) u.0 (t.1, t.2)))

  through_changed : (i : ℕ) (q q' : List ℕ) (ch : Bool) → i < R.many → Through R p i q ch → Further (KeptAt R i) q q' → Through R p (i + 1) q' true
  through_changed i q q' ch l u t = record {
    long = t.long ∙ same_long ch u;
    small = t.small;
    fewer = less ch u;
    forced = λ C k h. t.forced C (k i l) (through_under i q ch u C k h);
    grows = more ch u;
  }
    where
      same_long : (b : Bool) → Through R p i q b → length q ≡ length p
      same_long true w = w.long
      same_long false w = ap length w.0

      more : (b : Bool) → Through R p i q b → Under (holds q') p
      more true w e h = t.grows e (w.grows e h)
      more false w e h = t.grows e (subst (λ z. holds z e ≡ true) (sym w.0) h)

      less : (b : Bool) → Through R p i q b → undecided q' < undecided p
      less true w = let a = t.fewer in let b = w.fewer in omega arith
      less false w = subst (λ z. undecided q' < undecided z) w.0 t.fewer

  -- one more turn
  pub through_turn : (i : ℕ) (q q' : List ℕ) (ch b : Bool) → i < R.many → Partial R.width q → Through R p i q ch → Turn R i q q' (Ok b) → Partial R.width q' × Through R p (i + 1) q' (ch || b)
  through_turn i q q' ch false l pq u t = (subst (Partial R.width) (sym t.0) pq, subst (Through R p (i + 1) q') (same ch) (through_same i q q' ch u t))
    where
      same : (b : Bool) → b ≡ (b || false)
      same true = refl
      same false = refl
  through_turn i q q' ch true l pq u t = (further_partial R.width (KeptAt R i) q q' pq t, subst (Through R p (i + 1) q') (more ch) (through_changed i q q' ch l u t))
    where
      more : (b : Bool) → true ≡ (b || true)
      more true = refl
      more false = refl

  -- a turn that clashes
  pub through_clash : (i : ℕ) (q q' : List ℕ) (ch : Bool) (e : Clash) (r : Result Bool Clash) → i < R.many → Through R p i q ch → Turn R i q q' (Err e) → IsErr r → Pass R p q' r
  through_clash i q q' ch e (Ok b) l u t is = absurd (cc)
  through_clash i q q' ch e (Err d) l u t is = λ C k v. t C (k i l) (through_under i q ch u C k v)

  -- all rules
  pub through_all : (i : ℕ) (q : List ℕ) (ch : Bool) → R.many ≤ i → Through R p i q ch → Pass R p q (Ok ch)
  through_all i q true l u = u
  through_all i q false l u = (u.0, (λ k m. (u.1 k (omega arith)).0), (λ k m. (u.1 k (omega arith)).1))

module _ (R : Forces) (s : Sound R) (p : List ℕ) (pp : Partial R.width p) (q q' : List ℕ) where
  -- after a pass that changed something
  pub passes_more : Passed R p q → Pass R q q' (Ok true) → Passed R p q'
  passes_more u f = record {
    partial = further_partial R.width (Kept R) q q' u.partial f;
    forced = λ C k h. f.forced C k (u.forced C k h);
    grows = λ e h. f.grows e (u.grows e h);
  }

  -- after the pass that found nothing to do
  pub passes_done : Passed R p q → Pass R q q' (Ok false) → outcome R p ≡ fits q'
  passes_done u d = fits_final R s p pp q u.partial u.forced u.grows d.1 d.2 ∙ ap fits (sym d.0)

  -- after a pass that clashed
  pub passes_clash : (e : Clash) (r : Result Unit Clash) → Passed R p q → Pass R q q' (Err e) → IsErr r → Closes R p q' r
  passes_clash e (Ok _) u h is = absurd (cc)
  passes_clash e (Err _) u h is = clash_final R s p pp (λ C k v. h C k (u.forced C k v))
