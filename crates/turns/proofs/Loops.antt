-- A loop of turns, each under a law of its own.
use Rattle.std.proofs.Common.{◌≡◌, ℕ, ◌+◌, ◌*◌, ◌<◌, ◌≤◌, Bool, true, false, ◌||◌, Ok, Err, Result, List, length, sym, ap, ◌∙◌, subst, arith, below_more}
use Rattle.std.specs.Result.{IsErr}
use Rattle.source.specs.Plans.{UpTo}
use Rattle.closing.specs.Sets.{holds, Under}
use Rattle.closing.specs.Turns.{Further, undecided}
use Rattle.turns.specs.Table.{LawTurn, AllOf, Through}
use Rattle.closing.specs.declared.Clash.{Clash}

module _ (L : ℕ → (ℕ → Bool) → Type 0) (n : ℕ) (p : List ℕ) where
  pub through_under : (i : ℕ) (q : List ℕ) (ch : Bool) → Through L n p i q ch → (C : ℕ → Bool) → AllOf L n C → Under C p → Under C q
  through_under i q true u C k h = u.forced C k h
  through_under i q false u C k h = subst (Under C) (sym u.0) h

  through_long : (i : ℕ) (q : List ℕ) (ch : Bool) → Through L n p i q ch → length q ≡ length p
  through_long i q true u = u.long
  through_long i q false u = ap length u.0

  pub through_clash : (i : ℕ) (q q' : List ℕ) (ch : Bool) (e : Clash) (r : Result Bool Clash) → i < n → Through L n p i q ch → LawTurn (L i) q q' (Err e) → IsErr r → LawTurn (AllOf L n) p q' r
  through_clash i q q' ch e (Ok _) l u t is = absurd (cc)
  through_clash i q q' ch e (Err _) l u t is = λ C k h. let r = t C (k i l) (through_under i q ch u C k h) in (r.0, subst (λ z. r.0 < 2 * z) (through_long i q ch u) r.1, r.2, r.3)

  pub through_same : (i : ℕ) (q q' : List ℕ) (ch : Bool) → Through L n p i q ch → (q' ≡ q) × L i (holds q) → Through L n p (i + 1) q' ch
  through_same i q q' true u t = subst (Further (AllOf L n) p) (sym t.0) u
  through_same i q q' false u t = (t.0 ∙ u.0, below_more (λ k. L k (holds p)) i u.1 (subst (λ z. L i (holds z)) u.0 t.1))

  pub through_changed : (i : ℕ) (q q' : List ℕ) (ch : Bool) → i < n → Through L n p i q ch → Further (L i) q q' → Through L n p (i + 1) q' true
  through_changed i q q' ch l u t = record {
    long = t.long ∙ through_long i q ch u;
    small = t.small;
    fewer = less ch u;
    forced = λ C k h. t.forced C (k i l) (through_under i q ch u C k h);
    grows = more ch u;
  }
    where
      more : (b : Bool) → Through L n p i q b → Under (holds q') p
      more true w e h = t.grows e (w.grows e h)
      more false w e h = t.grows e (subst (λ z. holds z e ≡ true) (sym w.0) h)

      less : (b : Bool) → Through L n p i q b → undecided q' < undecided p
      less true w = let a = t.fewer in let b = w.fewer in omega arith
      less false w = subst (λ z. undecided q' < undecided z) w.0 t.fewer

  -- one turn more
  pub through_turn : (i : ℕ) (q q' : List ℕ) (ch b : Bool) → i < n → UpTo 2 q → Through L n p i q ch → LawTurn (L i) q q' (Ok b) → UpTo 2 q' × Through L n p (i + 1) q' (ch || b)
  through_turn i q q' true true l up u t = (t.small, through_changed i q q' true l u t)
  through_turn i q q' false true l up u t = (t.small, through_changed i q q' false l u t)
  through_turn i q q' true false l up u t = (subst (UpTo 2) (sym t.0) up, through_same i q q' true u t)
  through_turn i q q' false false l up u t = (subst (UpTo 2) (sym t.0) up, through_same i q q' false u t)

  pub through_all : (i : ℕ) (q : List ℕ) (ch : Bool) → n ≤ i → Through L n p i q ch → LawTurn (AllOf L n) p q (Ok ch)
  through_all i q true l u = u
  through_all i q false l u = (u.0, λ k lk. u.1 k (omega arith))

-- a turn under one law is a turn under another that forces it
pub turn_by : (L M : (ℕ → Bool) → Type 0) (p q : List ℕ) (s : Result Bool Clash) → ((C : ℕ → Bool) → M C → Under C p → L C) → (L (holds p) → M (holds p)) → LawTurn L p q s → LawTurn M p q s
turn_by L M p q (Ok false) f g t = (t.0, g t.1)
turn_by L M p q (Ok true) f g t = record { long = t.long; small = t.small; fewer = t.fewer; forced = λ C m u. t.forced C (f C m u) u; grows = t.grows }
turn_by L M p q (Err c) f g t = λ C m u. t C (f C m u) u
