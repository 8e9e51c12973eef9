-- From what the check of a call finds to what the call does: refused by the first row that applies, or taken.
use Rattle.std.proofs.Common.{◌≡◌, ℕ, zero, suc, ◌+◌, ◌<◌, ◌≤◌, Bool, true, false, cond, eqb, ltb, ◌⊎◌, List, [], Some, length, get_or, take, replicate, IsErrAnd, Ok, Err, codes, Result, sym, refl, ap, ◌∙◌, subst, inl, inr, ⊎_elim, arith, lt-ltb}
use borrow.Author.Tests.{both_ways}
use Rattle.std.proofs.lemmas.Bool.{cases_lt, cases_eq, false_from_ne_true}
use Rattle.source.specs.Plans.{UpTo, AgreesAt, Marks}
use Rattle.uses.specs.declared.SheetRefusal.{SheetRefusal}
use Rattle.uses.specs.declared.SheetRefusal.TheVariants.{Length, Value, Mark, Wide, Unbegun, Begun, NoneOpen, Group, Name, Statement, Pinned, NoPlan, Candidate}
use Rattle.uses.specs.declared.Word.{Word}
use Rattle.uses.specs.declared.Word.TheVariants.{Open, Certain, Loose}
use Rattle.uses.specs.Model.{State, Call, word_number, number_of, is_open, counted, counted_by, lowest, begin, settle, settle_by, pin, tell, tally, done, settled, told, tallied}
use Rattle.uses.specs.Step.{pinned_at, Technique, chunk, Cause, Sent, Settles, Rest, Step, begin_length, begin_mark, begin_wide, begin_begun, begin_none, settle_length, settle_mark, settle_unbegun, settle_closed, settle_empty, settle_other, by_unbegun, by_closed, by_zero, by_unknown, pin_way, pin_unbegun, pin_outside, pin_again, pin_none, tell_unbegun, tell_outside, tell_other, tally_unbegun, settles, settles_by, tells, tallies, sent, taken}
use Rattle.uses.specs.declared.Way.{Way}
use Rattle.uses.specs.declared.Way.TheVariants.{Holds, Fails}
use Rattle.uses.specs.Way.{way_number}
use Rattle.uses.proofs.Law
use Rattle.uses.proofs.Law.{bit_one, bit_none, has_mark}
use Rattle.uses.specs.declared.Tally.{Tally}
use Rattle.table.specs.declared.table.Table.{Table}
use Rattle.table.specs.Blank.{line_at}
use Rattle.table.specs.Lineup.{width_of, begun_line, lowest_of}
use Rattle.table.proofs.Blanks.{tied}
use Rattle.sheet.specs.Asks.{Found, NotFound, PinnedBy}
use Rattle.checks.specs.Checks.{open_in, AllOpen, NotOpen, MayBegin, MaySettle, MaySettleBy, IsWay, MayPin, MayTell, MayTally}
use Rattle.checks.specs.Named.{limit_of}
use Rattle.checks.specs.View.{view}
use Rattle.sheet.specs.View.{done_of, settled_of, told_of, tallied_of}
use Rattle.sheet.proofs.Settling.{settles_by_lem}
use Rattle.sheet.proofs.Beginning.{begin_effect}
use Rattle.sheet.proofs.Pinning.{way_few, pinned_few, none_agrees, found_agrees, pin_effect}
use Rattle.sheet.proofs.Naming.{Limit, marked, zeroed, unknown, limit_tied}
use Rattle.table.proofs.Zeros.{zeros_serve}

-- a refusal that `?` hands on
pub err_is : {T : Type 0} (r : Result T SheetRefusal) (e : SheetRefusal) → IsErrAnd r (λ y. y ≡ e) → r ≡ Err e
err_is (Ok x) e h = absurd h
err_is (Err y) e h = ap Err h

-- a refusal for want of a plan
no_plan
    : (w : ℕ) (plan : List ℕ → Type 0) (m : State) (c : Call) (r : Result (Unit {0}) SheetRefusal) (e : SheetRefusal) → r ≡ Err e → e ≡ NoPlan
    → Sent w plan m c NoPlan → Step w plan m c (done_of r) m
no_plan w plan m c r e q n s = subst (λ y. Step w plan m c (done_of y) m) (sym (q ∙ ap Err n)) (sent s)

below_14 : (f : SheetRefusal) → number_of f < 14
below_14 Length = omega arith
below_14 Value = omega arith
below_14 Mark = omega arith
below_14 Wide = omega arith
below_14 Unbegun = omega arith
below_14 Begun = omega arith
below_14 NoneOpen = omega arith
below_14 Group = omega arith
below_14 Name = omega arith
below_14 Statement = omega arith
below_14 Pinned = omega arith
below_14 NoPlan = omega arith
below_14 Candidate = omega arith

-- begin
module _ (w : ℕ) (plan : List ℕ → Type 0) (t : Table) (c : List ℕ) where
  -- no row with a number below n applies
  begin_above
      : (n : ℕ) → (1 < n → length c ≡ w) → (3 < n → UpTo 1 c) → (4 < n → w ≤ 512) → (6 < n → (view w t).begun ≡ false) → (12 < n → (p : List ℕ) × plan p)
      → (f : SheetRefusal) → number_of f < n → Cause w plan (view w t) (begin c) f → ⊥
  begin_above n a b d e p _ l (begin_length x) = x (a l)
  begin_above n a b d e p _ l (begin_mark x) = x (b l)
  begin_above n a b d e p _ l (begin_wide x) = let h : w ≤ 512 = d l in omega arith
  begin_above n a b d e p _ l (begin_begun x) = both_ways (view w t).begun (e l) x
  begin_above n a b d e p _ l (begin_none x) = let h = p l in x h.0 h.1

  begin_sent : (e : SheetRefusal) → MayBegin w t c (Err e) → Sent w plan (view w t) (begin c) e
  begin_sent Length x =
      record { cause = begin_length x; first = begin_above 1 (λ h. absurd (omega arith)) (λ h. absurd (omega arith)) (λ h. omega arith) (λ h. absurd (omega arith)) (λ h. absurd (omega arith)) }
  begin_sent Mark x =
      record { cause = begin_mark x.1; first = begin_above 3 (λ _. x.0) (λ h. absurd (omega arith)) (λ h. omega arith) (λ h. absurd (omega arith)) (λ h. absurd (omega arith)) }
  begin_sent Wide x =
      record { cause = begin_wide x.2; first = begin_above 4 (λ _. x.0) (λ _. x.1) (λ h. omega arith) (λ h. absurd (omega arith)) (λ h. absurd (omega arith)) }
  begin_sent Begun x =
      record { cause = begin_begun x.3; first = begin_above 6 (λ _. x.0) (λ _. x.1) (λ _. x.2) (λ h. absurd (omega arith)) (λ h. absurd (omega arith)) }
  begin_sent Value x = absurd x
  begin_sent Unbegun x = absurd x
  begin_sent NoneOpen x = absurd x
  begin_sent Group x = absurd x
  begin_sent Name x = absurd x
  begin_sent Statement x = absurd x
  begin_sent Pinned x = absurd x
  begin_sent NoPlan x = absurd x
  begin_sent Candidate x = absurd x

  pub begin_refused
      : (r : Result (Unit {0}) SheetRefusal) (e : SheetRefusal) → r ≡ Err e → MayBegin w t c (Err e)
      → Step w plan (view w t) (begin c) (done_of r) (view w t)
  begin_refused r e q x = subst (λ y. Step w plan (view w t) (begin c) (done_of y) (view w t)) (sym q) (sent (begin_sent e x))

  pub begin_lost
      : (r : Result (Unit {0}) SheetRefusal) (f : SheetRefusal) → r ≡ Err f → f ≡ NoPlan
      → MayBegin w t c (Ok tt) → NotFound w plan (replicate 512 0) (replicate 512 0)
      → Step w plan (view w t) (begin c) (done_of r) (view w t)
  begin_lost r f q n (a, b, d, e) lost =
      no_plan w plan (view w t) (begin c) r f q n
      (record {
        cause = begin_none (λ p o. lost p o (zeros_serve w 512 512 p));
        first = begin_above 12 (λ _. a) (λ _. b) (λ _. d) (λ _. e) (λ h. absurd (omega arith));
      })

  pub begin_found
      : (u : Table) (marks place : List ℕ)
      → MayBegin w t c (Ok tt) → ((k : ℕ) → get_or marks k 0 ≡ get_or c k 0)
      → Found w plan (replicate 512 0) (replicate 512 0) place → u.over ≡ Some w
      → ((k : ℕ) → line_at u.lines.rows k ≡ begun_line (get_or marks k 0) (get_or place k 0))
      → Step w plan (view w t) (begin c) done (view w u)
  begin_found u marks place (a, b, d, e) same found o ls =
      taken (λ f h. begin_above 14 (λ _. a) (λ _. b) (λ _. d) (λ _. e) (λ _. (take w place, found.0)) f (below_14 f) h)
      (begin_effect w plan c marks place a same (view w t) u found.0 o ls)

-- how many are open
none_counted : (f : ℕ → Bool) (n : ℕ) → ((k : ℕ) → f k ≡ true → ⊥) → counted_by f n ≡ 0
none_counted f zero h = refl
none_counted f (suc n) h = let e = none_counted f n h in let b = bit_none (f n) (false_from_ne_true (f n) (h n)) in omega arith

counted_none : (f : ℕ → Bool) (n : ℕ) → counted_by f n ≡ 0 → (k : ℕ) → k < n → f k ≡ true → ⊥
counted_none f zero e k l t = omega arith
counted_none f (suc n) e k l t =
    ⊎_elim
    (λ (h : k ≡ n). let b = bit_one (f n) (ap f (sym h) ∙ t) in omega arith)
    (λ (h : k ≡ n → ⊥). counted_none f n (omega arith) k (omega arith) t)
    (cases_eq k n)

none_open : (w : ℕ) (t : Table) → open_in w t ≡ 0 → (k : ℕ) → is_open (view w t) k ≡ true → ⊥
none_open w t x k o =
    ⊎_elim
    (λ (h : k < width_of t.over). counted_none (is_open (view w t)) (width_of t.over) x k h o)
    (λ (h : width_of t.over ≤ k). both_ways ((view w t).mark k) (t.unmarked k h) (has_mark ((view w t).mark k) (eqb ((view w t).word k) 0) o))
    (cases_lt k (width_of t.over))

bit_eqb : (b : Bool) → eqb (cond b 1 0) 1 ≡ b
bit_eqb true = refl
bit_eqb false = refl

-- settle
module _ (w : ℕ) (plan : List ℕ → Type 0) (t : Table) (g : List ℕ) where
  settle_above
      : (n : ℕ) → (1 < n → length g ≡ w) → (3 < n → UpTo 1 g) → (5 < n → (view w t).begun ≡ true) → (7 < n → open_in w t ≡ 0 → ⊥)
      → (8 < n → Marks g × AllOpen w t g)
      → (f : SheetRefusal) → number_of f < n → Cause w plan (view w t) (settle g) f → ⊥
  settle_above n a b c d e _ l (settle_length x) = x (a l)
  settle_above n a b c d e _ l (settle_mark x) = x (b l)
  settle_above n a b c d e _ l (settle_unbegun x) = both_ways (view w t).begun x (c l)
  settle_above n a b c d e _ l (settle_closed x) = d l (none_counted (is_open (view w t)) (width_of t.over) x)
  settle_above n a b c d e _ l (settle_empty x) = let h = (e l).0 in x h.0 h.1
  settle_above n a b c d e _ l (settle_other k x y) = both_ways (is_open (view w t) k) y ((e l).1 k x)

  settle_8 : (Marks g → ⊥) ⊎ NotOpen w t g → Cause w plan (view w t) (settle g) Group
  settle_8 (inl x) = settle_empty (λ k e. x (k, e))
  settle_8 (inr x) = settle_other x.0 x.1 x.2

  settle_sent : (e : SheetRefusal) → MaySettle w t g (Err e) → Sent w plan (view w t) (settle g) e
  settle_sent Length x =
      record { cause = settle_length x; first = settle_above 1 (λ h. absurd (omega arith)) (λ h. absurd (omega arith)) (λ h. absurd (omega arith)) (λ h. absurd (omega arith)) (λ h. absurd (omega arith)) }
  settle_sent Mark x =
      record { cause = settle_mark x.1; first = settle_above 3 (λ _. x.0) (λ h. absurd (omega arith)) (λ h. absurd (omega arith)) (λ h. absurd (omega arith)) (λ h. absurd (omega arith)) }
  settle_sent Unbegun x =
      record { cause = settle_unbegun x.2; first = settle_above 5 (λ _. x.0) (λ _. x.1) (λ h. absurd (omega arith)) (λ h. absurd (omega arith)) (λ h. absurd (omega arith)) }
  settle_sent NoneOpen x =
      record { cause = settle_closed (none_open w t x.3); first = settle_above 7 (λ _. x.0) (λ _. x.1) (λ _. x.2) (λ h. absurd (omega arith)) (λ h. absurd (omega arith)) }
  settle_sent Group x =
      record { cause = settle_8 x.4; first = settle_above 8 (λ _. x.0) (λ _. x.1) (λ _. x.2) (λ _. x.3) (λ h. absurd (omega arith)) }
  settle_sent Value x = absurd x
  settle_sent Wide x = absurd x
  settle_sent Begun x = absurd x
  settle_sent Name x = absurd x
  settle_sent Statement x = absurd x
  settle_sent Pinned x = absurd x
  settle_sent NoPlan x = absurd x
  settle_sent Candidate x = absurd x

  pub settle_refused
      : (r : Result ℕ SheetRefusal) (e : SheetRefusal) → r ≡ Err e → MaySettle w t g (Err e)
      → Step w plan (view w t) (settle g) (settled_of r) (view w t)
  settle_refused r e q x = subst (λ y. Step w plan (view w t) (settle g) (settled_of y) (view w t)) (sym q) (sent (settle_sent e x))

  pub settle_done
      : (u : Table) (marks : List ℕ) (r : ℕ) → MaySettle w t g (Ok tt)
      → ((k : ℕ) → get_or marks k 0 ≡ get_or g k 0)
      → Settles w plan (view w t) (λ k. eqb (get_or marks k 0) 1) (view w u) → Rest w plan (view w t) (view w u)
      → r + counted (view w u) Open w ≡ counted (view w t) Open w
      → Step w plan (view w t) (settle g) (settled r) (view w u)
  settle_done u marks r (a, b, c, d, e, o) ms s x n =
      taken (λ f h. settle_above 14 (λ _. a) (λ _. b) (λ _. c) (λ _. d) (λ _. (e, o)) f (below_14 f) h)
      (settles (settles_by_lem w plan (view w t) (view w u) (λ k. eqb (get_or marks k 0) 1) (λ k. eqb (get_or g k 0) 1) (λ k. ap (λ y. eqb y 1) (ms k)) s) x n)

-- settle by name
module _ (w : ℕ) (plan : List ℕ → Type 0) (t : Table) (name : List ℕ) (size : ℕ) where
  by_above
      : (n : ℕ) → (5 < n → (view w t).begun ≡ true) → (7 < n → open_in w t ≡ 0 → ⊥)
      → (8 < n → name ≡ codes "chunk" → size ≡ 0 → ⊥) → (9 < n → (l : ℕ) × Technique name size w l)
      → (f : SheetRefusal) → number_of f < n → Cause w plan (view w t) (settle_by name size) f → ⊥
  by_above n a b c d _ l (by_unbegun x) = both_ways (view w t).begun x (a l)
  by_above n a b c d _ l (by_closed x) = b l (none_counted (is_open (view w t)) (width_of t.over) x)
  by_above n a b c d _ l (by_zero x y) = c l x y
  by_above n a b c d _ l (by_unknown x) = let h = d l in x h.0 h.1

  by_limit
      : (e : SheetRefusal) → (view w t).begun ≡ true → (open_in w t ≡ 0 → ⊥) → Limit name size w (Err e) → Sent w plan (view w t) (settle_by name size) e
  by_limit _ a b (zeroed x y) = record { cause = by_zero x y; first = by_above 8 (λ _. a) (λ _. b) (λ h. absurd (omega arith)) (λ h. absurd (omega arith)) }
  by_limit _ a b (unknown x) =
      record { cause = by_unknown x; first = by_above 9 (λ _. a) (λ _. b) (λ _ h z. x size (subst (λ n. Technique n size w size) (sym h) chunk)) (λ h. absurd (omega arith)) }

  by_rest
      : (e : SheetRefusal) → ((view w t).begun ≡ true) × (open_in w t ≡ 0 → ⊥) × (Err e ≡ limit_of name size (width_of t.over))
      → Sent w plan (view w t) (settle_by name size) e
  by_rest e (a, b, x) = by_limit e a b (limit_tied w t name size (Err e) a x)

  by_sent : (e : SheetRefusal) → MaySettleBy w t name size (Err e) → Sent w plan (view w t) (settle_by name size) e
  by_sent Unbegun x =
      record { cause = by_unbegun x; first = by_above 5 (λ h. absurd (omega arith)) (λ h. absurd (omega arith)) (λ h. absurd (omega arith)) (λ h. absurd (omega arith)) }
  by_sent NoneOpen x =
      record { cause = by_closed (none_open w t x.1); first = by_above 7 (λ _. x.0) (λ h. absurd (omega arith)) (λ h. absurd (omega arith)) (λ h. absurd (omega arith)) }
  by_sent Length x = by_rest Length x
  by_sent Value x = by_rest Value x
  by_sent Mark x = by_rest Mark x
  by_sent Wide x = by_rest Wide x
  by_sent Begun x = by_rest Begun x
  by_sent Group x = by_rest Group x
  by_sent Name x = by_rest Name x
  by_sent Statement x = by_rest Statement x
  by_sent Pinned x = by_rest Pinned x
  by_sent NoPlan x = by_rest NoPlan x
  by_sent Candidate x = by_rest Candidate x

  pub by_refused
      : (r : Result ℕ SheetRefusal) (e : SheetRefusal) → r ≡ Err e → MaySettleBy w t name size (Err e)
      → Step w plan (view w t) (settle_by name size) (settled_of r) (view w t)
  by_refused r e q x = subst (λ y. Step w plan (view w t) (settle_by name size) (settled_of y) (view w t)) (sym q) (sent (by_sent e x))

  module _ (l : ℕ) (may : MaySettleBy w t name size (Ok l)) (ms : List ℕ) (lows : (k : ℕ) → get_or ms k 0 ≡ cond (lowest_of t.lines.rows l k) 1 0) where
    limit : Limit name size w (Ok l)
    limit = limit_tied w t name size (Ok l) may.0 may.2

    pub by_done
        : (u : Table) (r : ℕ)
        → Settles w plan (view w t) (λ k. eqb (get_or ms k 0) 1) (view w u) → Rest w plan (view w t) (view w u)
        → r + counted (view w u) Open w ≡ counted (view w t) Open w
        → Step w plan (view w t) (settle_by name size) (settled r) (view w u)
    by_done u r s q n = go limit
      where
        go : Limit name size w (Ok l) → Step w plan (view w t) (settle_by name size) (settled r) (view w u)
        go (marked x y) =
            taken (λ f h. by_above 14 (λ _. may.0) (λ _. may.1) (λ _. y) (λ _. (l, x)) f (below_14 f) h)
            (settles_by l x (settles_by_lem w plan (view w t) (view w u) (λ k. eqb (get_or ms k 0) 1) (lowest (view w t) l) (λ k. ap (λ z. eqb z 1) (lows k) ∙ bit_eqb (lowest_of t.lines.rows l k)) s) q n)

    -- some line is marked
    pub by_some : (k : ℕ) × (get_or ms k 0 ≡ 1) × (k < w)
    by_some = go limit
      where
        go : Limit name size w (Ok l) → (k : ℕ) × (get_or ms k 0 ≡ 1) × (k < w)
        go (marked x y) =
            let wd : width_of t.over ≡ w = tied t.over w may.0 in
            let j = Law.first_open (view w t) (width_of t.over) may.1 in
            let pos : 0 < l = Law.limit_more x (let i : j.0 < width_of t.over = j.1 in omega arith) y in
            let z : counted (view w t) Open j.0 ≡ 0 = j.3 in (
              j.0,
              lows j.0 ∙ ap (λ c. cond c 1 0) (Law.has_from (is_open (view w t) j.0) (ltb (counted (view w t) Open j.0) l) j.2 (lt-ltb (counted (view w t) Open j.0) l (omega arith))),
              (let i : j.0 < width_of t.over = j.1 in omega arith),
            )

-- pin
module _ (w : ℕ) (plan : List ℕ → Type 0) (t : Table) (s way : ℕ) where
  pin_above
      : (n : ℕ) → (2 < n → IsWay way) → (5 < n → (view w t).begun ≡ true) → (10 < n → s < w) → (11 < n → (view w t).pin s ≡ 0)
      → (12 < n → (p : List ℕ) × plan p × AgreesAt (pinned_at (view w t).pin s way) p)
      → (f : SheetRefusal) → number_of f < n → Cause w plan (view w t) (pin s way) f → ⊥
  pin_above n a b c d e _ l (pin_way x y) = ⊎_elim x y (a l)
  pin_above n a b c d e _ l (pin_unbegun x) = both_ways (view w t).begun x (b l)
  pin_above n a b c d e _ l (pin_outside x) = let h : s < w = c l in omega arith
  pin_above n a b c d e _ l (pin_again x) = x (d l)
  pin_above n a b c d e _ l (pin_none x) = let h = e l in x h.0 h.1 h.2

  width : (view w t).begun ≡ true → width_of t.over ≡ w
  width b = tied t.over w b

  inside : (view w t).begun ≡ true → s < width_of t.over → s < w
  inside b h = let e = width b in omega arith

  pin_sent : (e : SheetRefusal) → MayPin w t s way (Err e) → Sent w plan (view w t) (pin s way) e
  pin_sent Value x =
      record { cause = pin_way (λ e. x (inl e)) (λ e. x (inr e)); first = pin_above 2 (λ h. absurd (omega arith)) (λ h. absurd (omega arith)) (λ h. absurd (omega arith)) (λ h. absurd (omega arith)) (λ h. absurd (omega arith)) }
  pin_sent Unbegun x =
      record { cause = pin_unbegun x.1; first = pin_above 5 (λ _. x.0) (λ h. absurd (omega arith)) (λ h. absurd (omega arith)) (λ h. absurd (omega arith)) (λ h. absurd (omega arith)) }
  pin_sent Statement x =
      record {
        cause = pin_outside (let e = width x.1 in let l : width_of t.over ≤ s = x.2 in omega arith);
        first = pin_above 10 (λ _. x.0) (λ _. x.1) (λ h. absurd (omega arith)) (λ h. absurd (omega arith)) (λ h. absurd (omega arith));
      }
  pin_sent Pinned x =
      record { cause = pin_again x.3; first = pin_above 11 (λ _. x.0) (λ _. x.1) (λ _. inside x.1 x.2) (λ h. absurd (omega arith)) (λ h. absurd (omega arith)) }
  pin_sent Length x = absurd x
  pin_sent Mark x = absurd x
  pin_sent Wide x = absurd x
  pin_sent Begun x = absurd x
  pin_sent NoneOpen x = absurd x
  pin_sent Group x = absurd x
  pin_sent Name x = absurd x
  pin_sent NoPlan x = absurd x
  pin_sent Candidate x = absurd x

  pub pin_refused
      : (r : Result (Unit {0}) SheetRefusal) (e : SheetRefusal) → r ≡ Err e → MayPin w t s way (Err e)
      → Step w plan (view w t) (pin s way) (done_of r) (view w t)
  pin_refused r e q x = subst (λ y. Step w plan (view w t) (pin s way) (done_of y) (view w t)) (sym q) (sent (pin_sent e x))

is_way : (v : Way) → IsWay (way_number v)
is_way Holds = inl refl
is_way Fails = inr refl

-- a pin that is not refused before the source is asked, by the number of its way
module _ (w : ℕ) (plan : List ℕ → Type 0) (t : Table) (s way : ℕ) (v : Way) (n : ℕ) (e : n ≡ way_number v) (ps : List ℕ) (may : MayPin w t s way (Ok v))
    (same : (k : ℕ) → get_or ps k 0 ≡ pinned_at (λ j. (line_at t.lines.rows j).pin) s n k) where
  wide : width_of t.over ≡ w
  wide = tied t.over w may.1

  pub pin_narrow : w ≤ 512
  pin_narrow = let e = wide in let h = t.narrow in omega arith

  way_ok : IsWay n
  way_ok = subst IsWay (sym e) (is_way v)

  pub pin_way_few : n ≤ 2
  pin_way_few = way_few n way_ok

  pub pin_few : UpTo 2 ps
  pin_few = pinned_few w t s n wide may.2 ps pin_way_few same

  pub pin_lost
      : (u : Table) (r : Result (Unit {0}) SheetRefusal) (f : SheetRefusal) → r ≡ Err f → f ≡ NoPlan
      → NotFound w plan ps (replicate 512 0) → u ≡ t → Step w plan (view w t) (pin s way) (done_of r) (view w u)
  pin_lost u r f q p lost left =
      subst (λ y. Step w plan (view w t) (pin s way) (done_of r) (view w y)) (sym left)
      (subst (λ x. Step w plan (view w t) (pin s x) (done_of r) (view w t)) (e ∙ may.0)
      (no_plan w plan (view w t) (pin s n) r f q p
      (record {
        cause = pin_none (none_agrees w t s n wide may.2 plan ps [] 512 same lost);
        first = pin_above w plan t s n 12 (λ _. way_ok) (λ _. may.1) (λ _. inside w plan t s n may.1 may.2) (λ _. may.3) (λ h. absurd (omega arith));
      })))

  pub pin_found
      : (u : Table) (place : List ℕ) → Found w plan ps (replicate 512 0) place → PinnedBy t s n place u
      → Step w plan (view w t) (pin s way) done (view w u)
  pin_found u place found changed =
      subst (λ x. Step w plan (view w t) (pin s x) done (view w u)) (e ∙ may.0)
      (taken
      (λ f y. pin_above w plan t s n 14 (λ _. way_ok) (λ _. may.1) (λ _. inside w plan t s n may.1 may.2) (λ _. may.3)
      (λ _. (take w place, found.0, found_agrees w t s n wide may.2 plan ps place 512 same found)) f (below_14 f) y)
      (pin_effect w t s n wide may.2 plan ps place 512 same u found changed.over changed.lines))

-- tell
module _ (w : ℕ) (plan : List ℕ → Type 0) (t : Table) (s : ℕ) where
  tell_above
      : (n : ℕ) → (5 < n → (view w t).begun ≡ true) → (10 < n → s < w) → (13 < n → (view w t).mark s ≡ true)
      → (f : SheetRefusal) → number_of f < n → Cause w plan (view w t) (tell s) f → ⊥
  tell_above n a b c _ l (tell_unbegun x) = both_ways (view w t).begun x (a l)
  tell_above n a b c _ l (tell_outside x) = let h : s < w = b l in omega arith
  tell_above n a b c _ l (tell_other x) = both_ways ((view w t).mark s) x (c l)

  below : (view w t).begun ≡ true → s < width_of t.over → s < w
  below b h = let e = tied t.over w b in omega arith

  tell_sent : (e : SheetRefusal) → MayTell w t s (Err e) → Sent w plan (view w t) (tell s) e
  tell_sent Unbegun x = record { cause = tell_unbegun x; first = tell_above 5 (λ h. absurd (omega arith)) (λ h. absurd (omega arith)) (λ h. absurd (omega arith)) }
  tell_sent Statement x =
      record {
        cause = tell_outside (let e = tied t.over w x.0 in let l : width_of t.over ≤ s = x.1 in omega arith);
        first = tell_above 10 (λ _. x.0) (λ h. absurd (omega arith)) (λ h. absurd (omega arith));
      }
  tell_sent Candidate x = record { cause = tell_other x.2; first = tell_above 13 (λ _. x.0) (λ _. below x.0 x.1) (λ h. absurd (omega arith)) }
  tell_sent Length x = absurd x
  tell_sent Value x = absurd x
  tell_sent Mark x = absurd x
  tell_sent Wide x = absurd x
  tell_sent Begun x = absurd x
  tell_sent NoneOpen x = absurd x
  tell_sent Group x = absurd x
  tell_sent Name x = absurd x
  tell_sent Pinned x = absurd x
  tell_sent NoPlan x = absurd x

  pub tell_step : (r : Result Word SheetRefusal) → MayTell w t s r → Step w plan (view w t) (tell s) (told_of r) (view w t)
  tell_step (Ok v) (b, h, c, e) =
      subst (λ y. Step w plan (view w t) (tell s) (told (word_number y)) (view w t)) (sym e)
      (taken (λ f x. tell_above 14 (λ _. b) (λ _. below b h) (λ _. c) f (below_14 f) x) tells)
  tell_step (Err e) x = sent (tell_sent e x)

-- tally
module _ (w : ℕ) (plan : List ℕ → Type 0) (t : Table) where
  tally_above
      : (n : ℕ) → (5 < n → (view w t).begun ≡ true) → (f : SheetRefusal) → number_of f < n → Cause w plan (view w t) tally f → ⊥
  tally_above n a _ l (tally_unbegun x) = both_ways (view w t).begun x (a l)

  tally_sent : (e : SheetRefusal) → MayTally w t (Err e) → Sent w plan (view w t) tally e
  tally_sent Unbegun x = record { cause = tally_unbegun x; first = tally_above 5 (λ h. absurd (omega arith)) }
  tally_sent Length x = absurd x
  tally_sent Value x = absurd x
  tally_sent Mark x = absurd x
  tally_sent Wide x = absurd x
  tally_sent Begun x = absurd x
  tally_sent NoneOpen x = absurd x
  tally_sent Group x = absurd x
  tally_sent Name x = absurd x
  tally_sent Statement x = absurd x
  tally_sent Pinned x = absurd x
  tally_sent NoPlan x = absurd x
  tally_sent Candidate x = absurd x

  counts
      : (a b c : ℕ) → a ≡ counted (view w t) Open w → b ≡ counted (view w t) Certain w → c ≡ counted (view w t) Loose w → (view w t).begun ≡ true
      → Step w plan (view w t) tally (tallied a b c) (view w t)
  counts a b c e f g h =
      subst (λ z. Step w plan (view w t) tally (tallied a b z) (view w t)) (sym g)
      (subst (λ y. Step w plan (view w t) tally (tallied a y (counted (view w t) Loose w)) (view w t)) (sym f)
      (subst (λ x. Step w plan (view w t) tally (tallied x (counted (view w t) Certain w) (counted (view w t) Loose w)) (view w t)) (sym e)
      (taken (λ f x. tally_above 14 (λ _. h) f (below_14 f) x) tallies)))

  pub tally_step : (r : Result Tally SheetRefusal) → MayTally w t r → Step w plan (view w t) tally (tallied_of r) (view w t)
  tally_step (Ok n) (b, o, c, l) =
      let x : width_of t.over ≡ w = tied t.over w b in
      counts n.open n.certain n.loose (o ∙ ap (counted (view w t) Open) x) (c ∙ ap (counted (view w t) Certain) x) (l ∙ ap (counted (view w t) Loose) x) b
  tally_step (Err e) x = sent (tally_sent e x)
