-- The law of whole uses of a sheet.
use Rattle.std.proofs.Common.{◌≡◌, ℕ, zero, suc, ◌<◌, ◌≤◌, Bool, true, false, cond, eqb, ltb, ◌⊎◌, List, [], ◌∷◌, ◌++◌, length, get_or, codes, sym, refl, ap, ◌∙◌, subst, inl, inr, ⊎_elim, arith, lt-ltb, eq-eqb, ne_eqb, eqb-true}
use borrow.Author.Tests.{both_ways}
use Rattle.std.proofs.lemmas.Bool.{cases_Bool, cases_eq, cases_lt, true_from_ne_false, false_from_ne_true}
use Rattle.std.proofs.lemmas.Bool.Decides.{nat_tests as tests}
use Rattle.std.proofs.lemmas.List.{get_or_past}
use Rattle.source.specs.Plans.{Whole, AgreesAt}
use Rattle.uses.specs.declared.SheetRefusal.{SheetRefusal}
use Rattle.uses.specs.declared.SheetRefusal.TheVariants.{Length, Unbegun, Begun, NoneOpen, Group, Pinned, Candidate}
use Rattle.uses.specs.declared.Word.{Word}
use Rattle.uses.specs.declared.Word.TheVariants.{Open, Certain, Loose}
use Rattle.uses.specs.Model.{word_number, State, Fresh, has, is_open, counted, lowest, Call, Reply, settle, tell, told}
use Rattle.uses.specs.Step.{pinned_at, after_pin, Technique, Cause, Settles, Rest, Step, over, under, chunk, begin_length, begin_begun, settle_empty, settle_other, by_closed, by_zero, pin_unbegun, pin_again, tell_unbegun, tell_outside, tell_other, none, some, begins, settles, settles_by, pins, tells, tallies, sent, taken}
use Rattle.uses.specs.Law.{AtStop, Between, Lowers, Kept, Starts, Continues}
use Rattle.uses.specs.Use.{Event, event, pins_by, candidates_by, begun_by, no_pin, is_pin, is_settling, accepted, Number, Calls, Use, Told, HoldsInAll, FailsInSome, nil, one, not, stop, next, from}

-- numbers and tests
stable : (a b : ℕ) → ((a ≡ b → ⊥) → ⊥) → a ≡ b
stable a b f = ⊎_elim (λ e. e) (λ n. absurd (f n)) (cases_eq a b)

begin_few : (b d : Bool) → cond b (cond d 2 0) 0 ≤ 2
begin_few b d = grind arith

begin_not : (b d : Bool) → ◌≡◌ {A = ℕ} (cond b (cond d 2 0) 0) 1 → ⊥
begin_not b d e = grind arith

begin_fails : (b d : Bool) → ◌≡◌ {A = ℕ} (cond b (cond d 2 0) 0) 2 → d ≡ true
begin_fails b d e = grind arith

-- words after a pin
pin_few : (s way k v b : ℕ) → after_pin s way k v b ≤ 2
pin_few s way k v b = grind (arith, tests)

pin_certain : (s way k v b : ℕ) → after_pin s way k v b ≡ 1 → ((k ≡ s) × (way ≡ 1)) ⊎ (v ≡ 1)
pin_certain s way k v b e = grind (arith, tests)

pin_fails : (s way k v b : ℕ) → after_pin s way k v b ≡ 2 → b ≡ 2
pin_fails s way k v b e = grind (arith, tests)

pin_keeps : (s way k v b : ℕ) → v ≡ 1 → after_pin s way k v b ≡ 1
pin_keeps s way k v b e = grind (arith, tests)

pub has_mark : (b d : Bool) → cond b d false ≡ true → b ≡ true
has_mark true d e = refl
has_mark false d e = e

has_test : (b d : Bool) → cond b d false ≡ true → d ≡ true
has_test true d e = e
has_test false d e = absurd (both_ways false refl e)

pub has_from : (b d : Bool) → b ≡ true → d ≡ true → cond b d false ≡ true
has_from true d e f = f
has_from false d e f = e

pins_rest : (a b x : Bool) → cond a (cond b false x) x ≡ true → x ≡ true
pins_rest a b x e = grind arith

pub limit_more : {name : List ℕ} {size w limit : ℕ} → Technique name size w limit → 0 < w → (name ≡ codes "chunk" → size ≡ 0 → ⊥) → 0 < limit
limit_more over h f = h
limit_more under h f = omega arith
limit_more {size = size} chunk h f = let ne : size ≡ 0 → ⊥ = f refl in omega arith

pub bit_one : (b : Bool) → b ≡ true → ◌≡◌ {A = ℕ} (cond b 1 0) 1
bit_one b e = ap (λ x. cond x 1 0) e

pub bit_none : (b : Bool) → b ≡ false → ◌≡◌ {A = ℕ} (cond b 1 0) 0
bit_none b e = ap (λ x. cond x 1 0) e

-- the lowest open candidate
low : (m : State) (n : ℕ) → (counted m Open n ≡ 0) ⊎ ((j : ℕ) × (is_open m j ≡ true) × (counted m Open j ≡ 0))
low m zero = inl refl
low m (suc n) = ⊎_elim (λ e. go e (cases_Bool (is_open m n))) inr (low m n)
  where
    go : counted m Open n ≡ 0 → (is_open m n ≡ true) ⊎ (is_open m n ≡ false) → (counted m Open (suc n) ≡ 0) ⊎ ((j : ℕ) × (is_open m j ≡ true) × (counted m Open j ≡ 0))
    go e (inl t) = inr (n, t, e)
    go e (inr f) = inl (let h = bit_none (is_open m n) f in omega arith)

-- the lowest open candidate below n, where there is one
pub first_open : (m : State) (n : ℕ) → (counted m Open n ≡ 0 → ⊥) → (j : ℕ) × (j < n) × (is_open m j ≡ true) × (counted m Open j ≡ 0)
first_open m zero h = absurd (h refl)
first_open m (suc n) h =
    ⊎_elim
    (λ (e : counted m Open n ≡ 0). (n, omega arith, true_from_ne_false (is_open m n) (λ f. h (let b = bit_none (is_open m n) f in omega arith)), e))
    (λ (f : counted m Open n ≡ 0 → ⊥). let o = first_open m n f in (o.0, (let l : o.0 < n = o.1 in omega arith), o.2, o.3))
    (cases_eq (counted m Open n) 0)

lowest_open : (m : State) (k : ℕ) → is_open m k ≡ true → (j : ℕ) × (is_open m j ≡ true) × (counted m Open j ≡ 0)
lowest_open m k o = ⊎_elim (λ e. (k, o, e)) (λ x. x) (low m k)

-- counts of two sheets
module _ (m n : State) (shrinks : (k : ℕ) → is_open n k ≡ true → is_open m k ≡ true) where
  one_le : (a b : Bool) → (a ≡ true → b ≡ true) → cond a 1 0 ≤ cond b 1 0
  one_le true b f = subst (λ x. 1 ≤ cond x 1 0) (sym (f refl)) (omega arith)
  one_le false b f = omega arith

  pub counted_le : (x : ℕ) → counted n Open x ≤ counted m Open x
  counted_le zero = omega arith
  counted_le (suc x) =
      let h : counted n Open x ≤ counted m Open x = counted_le x in
      let l : cond (is_open n x) 1 0 ≤ cond (is_open m x) 1 0 = one_le (is_open n x) (is_open m x) (shrinks x) in
      omega arith

  counted_lt : (j : ℕ) → is_open m j ≡ true → is_open n j ≡ false → (x : ℕ) → j < x → counted n Open x < counted m Open x
  counted_lt j t f zero l = omega arith
  counted_lt j t f (suc x) l =
      ⊎_elim
      (λ (e : j ≡ x).
      let h : counted n Open x ≤ counted m Open x = counted_le x in
      let a = bit_one (is_open m x) (ap (is_open m) (sym e) ∙ t) in
      let b = bit_none (is_open n x) (ap (is_open n) (sym e) ∙ f) in
      omega arith)
      (λ (ne : j ≡ x → ⊥).
      let h : counted n Open x < counted m Open x = counted_lt j t f x (omega arith) in
      let l : cond (is_open n x) 1 0 ≤ cond (is_open m x) 1 0 = one_le (is_open n x) (is_open m x) (shrinks x) in
      omega arith)
      (cases_eq j x)

numbered
    : (m : State) (v : Word) (P : ℕ → Type 0) → ((k : ℕ) → has m v k ≡ true → P k) → ((k : ℕ) → P k → has m v k ≡ true)
    → (n : ℕ) → Number P n (counted m v n)
numbered m v P f g zero = nil
numbered m v P f g (suc n) =
    ⊎_elim
    (λ (t : has m v n ≡ true). subst (λ x. Number P (suc n) x) (let e = bit_one (has m v n) t in omega arith) (one (f n t) (numbered m v P f g n)))
    (λ (t : has m v n ≡ false). subst (λ x. Number P (suc n) x) (let e = bit_none (has m v n) t in omega arith) (not (λ y. both_ways (has m v n) t (g n y)) (numbered m v P f g n)))
    (cases_Bool (has m v n))

module _ (w : ℕ) (plan : List ℕ → Type 0) where
  -- what tell gives is the word
  tell_word : {m n : State} {k v : ℕ} → Step w plan m (tell k) (told v) n → m.word k ≡ v
  tell_word (taken clear tells) = refl

  tell_mark : {m n : State} {k v : ℕ} → Step w plan m (tell k) (told v) n → m.mark k ≡ true
  tell_mark {m} {k = k} (taken clear e) = true_from_ne_false (m.mark k) (λ f. clear Candidate (tell_other f))

  tell_clear : {m : State} {k : ℕ} → m.begun ≡ true → k < w → m.mark k ≡ true → (e : SheetRefusal) → Cause w plan m (tell k) e → ⊥
  tell_clear {m} {k} b l t _ (tell_unbegun f) = both_ways m.begun f b
  tell_clear b l t _ (tell_outside f) = omega arith
  tell_clear {m} {k} b l t _ (tell_other f) = both_ways (m.mark k) f t

  tell_step : {m : State} {k v : ℕ} → m.begun ≡ true → k < w → m.mark k ≡ true → m.word k ≡ v → Step w plan m (tell k) (told v) m
  tell_step {m} {k} b l t e = subst (λ x. Step w plan m (tell k) (told x) m) e (taken (tell_clear b l t) tells)

  -- what holds of a sheet in any use
  pub record Good (m : State) : Type 0 where
    pub unmarked : m.begun ≡ false → (k : ℕ) → m.mark k ≡ false
    pub unpinned : m.begun ≡ false → (k : ℕ) → m.pin k ≡ 0
    pub inside : (k : ℕ) → m.mark k ≡ true → k < w
    pub few : (k : ℕ) → m.mark k ≡ true → m.word k ≤ 2
    pub certain : (k : ℕ) → m.mark k ≡ true → m.word k ≡ 1 → (p : List ℕ) → plan p → AgreesAt m.pin p → get_or p k 0 ≡ 1
    pub loose : (k : ℕ) → m.mark k ≡ true → m.word k ≡ 2 → (p : List ℕ) × plan p × AgreesAt m.pin p × (get_or p k 0 ≡ 2)

  -- the sheet has what the calls and answers say
  pub record Ties (es : List Event) (m : State) : Type 0 where
    pub begun : m.begun ≡ begun_by es
    pub mark : (k : ℕ) → m.mark k ≡ candidates_by es k
    pub pin : (k : ℕ) → m.pin k ≡ pins_by es k

  agrees_by : (f g : ℕ → ℕ) → ((k : ℕ) → f k ≡ g k) → (p : List ℕ) → AgreesAt f p → AgreesAt g p
  agrees_by f g e p a k h = a k (λ z. h (sym (e k) ∙ z)) ∙ e k

  fresh_good : {m : State} → Fresh m → Good m
  fresh_good {m} f = record {
    unmarked = λ _. f.mark;
    unpinned = λ _. f.pin;
    inside = λ k t. absurd (both_ways (m.mark k) (f.mark k) t);
    few = λ k t. absurd (both_ways (m.mark k) (f.mark k) t);
    certain = λ k t. absurd (both_ways (m.mark k) (f.mark k) t);
    loose = λ k t. absurd (both_ways (m.mark k) (f.mark k) t);
  }

  fresh_ties : {m : State} → Fresh m → Ties [] m
  fresh_ties f = record { begun = f.begun; mark = f.mark; pin = f.pin }

  -- a settling
  module _ (whole : (p : List ℕ) → plan p → Whole w p) where
    holds : (p : List ℕ) → plan p → (k : ℕ) → k < w → (get_or p k 0 ≡ 2 → ⊥) → get_or p k 0 ≡ 1
    holds p q k l f = ⊎_elim (λ e. e) (λ e. absurd (f e)) ((whole p q).1 k l)

    -- certain and loose words at a settling
    settle_keeps : {m n : State} (g : ℕ → Bool) (k : ℕ) → Settles w plan m g n → m.word k ≡ 1 → n.word k ≡ 1
    settle_keeps {m} g k (none f e) h = e k ∙ same (g k) (m.word k) h
      where
        same : (b : Bool) (x : ℕ) → x ≡ 1 → cond b 1 x ≡ 1
        same b x e = grind arith
    settle_keeps {m} g k (some s sq sa j gj fj e) h = e k ∙ same (m.mark k) (eqb (get_or s k 0) 2) (m.word k) h
      where
        same : (b d : Bool) (x : ℕ) → x ≡ 1 → cond (cond b (eqb x 0) false) (cond d 2 x) x ≡ 1
        same b d x e = grind (arith, tests)

    settle_leaves
        : {m n : State} (g : ℕ → Bool) → ((k : ℕ) → g k ≡ true → is_open m k ≡ true)
        → (k : ℕ) → Settles w plan m g n → m.word k ≡ 2 → n.word k ≡ 2
    settle_leaves {m} g o k (none f e) h = e k ∙ same (g k) (m.mark k) (m.word k) (o k) h
      where
        same : (b d : Bool) (x : ℕ) → (b ≡ true → cond d (eqb x 0) false ≡ true) → x ≡ 2 → cond b 1 x ≡ 2
        same b d x f e = grind (arith, tests)
    settle_leaves {m} g o k (some s sq sa j gj fj e) h = e k ∙ same (is_open m k) (eqb (get_or s k 0) 2) (m.word k) h
      where
        same : (b d : Bool) (x : ℕ) → x ≡ 2 → cond b (cond d 2 x) x ≡ 2
        same b d x e = grind arith

    settle_certain
        : {m n : State} (g : ℕ → Bool) → Good m → Rest w plan m n → Settles w plan m g n
        → (k : ℕ) → n.mark k ≡ true → n.word k ≡ 1 → (p : List ℕ) → plan p → AgreesAt n.pin p → get_or p k 0 ≡ 1
    settle_certain {m} {n} g i r (none f e) k t u p q a =
        go (g k) refl
      where
        old : m.mark k ≡ true
        old = sym (r.mark k) ∙ t

        a' : AgreesAt m.pin p
        a' = agrees_by n.pin m.pin r.pin p a

        go : (b : Bool) → g k ≡ b → get_or p k 0 ≡ 1
        go true h = holds p q k (i.inside k old) (f p q a' k h)
        go false h = i.certain k old (sym (ap (λ b. cond b 1 (m.word k)) h) ∙ sym (e k) ∙ u) p q a'
    settle_certain {m} {n} g i r (some s sq sa j gj fj e) k t u p q a =
        i.certain k old (was (is_open m k) (eqb (get_or s k 0) 2) (sym (e k) ∙ u)) p q (agrees_by n.pin m.pin r.pin p a)
      where
        old : m.mark k ≡ true
        old = sym (r.mark k) ∙ t

        was : (b d : Bool) → cond b (cond d 2 (m.word k)) (m.word k) ≡ 1 → m.word k ≡ 1
        was b d h = grind arith

    settle_loose
        : {m n : State} (g : ℕ → Bool) → Good m → Rest w plan m n → Settles w plan m g n
        → (k : ℕ) → n.mark k ≡ true → n.word k ≡ 2 → (p : List ℕ) × plan p × AgreesAt n.pin p × (get_or p k 0 ≡ 2)
    settle_loose {m} {n} g i r (none f e) k t u =
        let o = i.loose k (sym (r.mark k) ∙ t) (was (g k) (sym (e k) ∙ u)) in
        (o.0, o.1, agrees_by m.pin n.pin (λ x. sym (r.pin x)) o.0 o.2, o.3)
      where
        was : (b : Bool) → cond b 1 (m.word k) ≡ 2 → m.word k ≡ 2
        was b h = grind arith
    settle_loose {m} {n} g i r (some s sq sa j gj fj e) k t u =
        ⊎_elim
        (λ h. (s, sq, agrees_by m.pin n.pin (λ x. sym (r.pin x)) s sa, h))
        (λ h. let o = i.loose k (sym (r.mark k) ∙ t) h in (o.0, o.1, agrees_by m.pin n.pin (λ x. sym (r.pin x)) o.0 o.2, o.3))
        (was (is_open m k) (get_or s k 0) (sym (e k) ∙ u))
      where
        was : (b : Bool) (x : ℕ) → cond b (cond (eqb x 2) 2 (m.word k)) (m.word k) ≡ 2 → (x ≡ 2) ⊎ (m.word k ≡ 2)
        was b x h = grind (arith, tests)

    settle_few
        : {m n : State} (g : ℕ → Bool) → Good m → Rest w plan m n → Settles w plan m g n
        → (k : ℕ) → n.mark k ≡ true → n.word k ≤ 2
    settle_few {m} {n} g i r (none f e) k t =
        let l : m.word k ≤ 2 = i.few k (sym (r.mark k) ∙ t) in
        subst (λ x. x ≤ 2) (sym (e k)) (bound (g k) (m.word k) l)
      where
        bound : (b : Bool) (x : ℕ) → x ≤ 2 → cond b 1 x ≤ 2
        bound b x l = grind arith
    settle_few {m} {n} g i r (some s sq sa j gj fj e) k t =
        subst (λ x. x ≤ 2) (sym (e k)) (bound (is_open m k) (eqb (get_or s k 0) 2) (m.word k) (i.few k (sym (r.mark k) ∙ t)))
      where
        bound : (b d : Bool) (x : ℕ) → x ≤ 2 → cond b (cond d 2 x) x ≤ 2
        bound b d x l = grind arith

    settle_good : {m n : State} (g : ℕ → Bool) → Good m → Rest w plan m n → Settles w plan m g n → Good n
    settle_good {m} {n} g i r s = record {
      unmarked = λ b k. r.mark k ∙ i.unmarked (sym r.begun ∙ b) k;
      unpinned = λ b k. r.pin k ∙ i.unpinned (sym r.begun ∙ b) k;
      inside = λ k t. i.inside k (sym (r.mark k) ∙ t);
      few = settle_few g i r s;
      certain = settle_certain g i r s;
      loose = settle_loose g i r s;
    }

    -- begin
    begin_good
        : {n : State} (c p : List ℕ) → plan p → length c ≡ w
        → n.begun ≡ true
        → ((k : ℕ) → n.mark k ≡ eqb (get_or c k 0) 1)
        → ((k : ℕ) → n.pin k ≡ 0)
        → ((k : ℕ) → n.word k ≡ cond (eqb (get_or c k 0) 1) (cond (eqb (get_or p k 0) 2) 2 0) 0)
        → Good n
    begin_good {n} c p q l b mk pn wd = record {
      unmarked = λ f. absurd (both_ways n.begun f b);
      unpinned = λ f. absurd (both_ways n.begun f b);
      inside = inside;
      few = λ k t. subst (λ x. x ≤ 2) (sym (wd k)) (begin_few (eqb (get_or c k 0) 1) (eqb (get_or p k 0) 2));
      certain = λ k t u. absurd (begin_not (eqb (get_or c k 0) 1) (eqb (get_or p k 0) 2) (sym (wd k) ∙ u));
      loose = λ k t u. (p, q, (λ j h. absurd (h (pn j))), eqb-true (get_or p k 0) 2 (begin_fails (eqb (get_or c k 0) 1) (eqb (get_or p k 0) 2) (sym (wd k) ∙ u)));
    }
      where
        inside : (k : ℕ) → n.mark k ≡ true → k < w
        inside k t =
            let e : get_or c k 0 ≡ 1 = eqb-true (get_or c k 0) 1 (sym (mk k) ∙ t) in
            ⊎_elim (λ (x : k < w). x) (λ (x : w ≤ k). let z : get_or c k 0 ≡ 0 = get_or_past c k 0 (omega arith) in omega arith) (cases_lt k w)

    -- pin
    weaker : (f : ℕ → ℕ) (s way : ℕ) → f s ≡ 0 → (p : List ℕ) → AgreesAt (pinned_at f s way) p → AgreesAt f p
    weaker f s way z p a k h =
        let ne : k ≡ s → ⊥ = λ e. h (ap f e ∙ z) in
        let same : pinned_at f s way k ≡ f k = ap (λ b. cond b way (f k)) (ne_eqb k s ne) in
        a k (λ y. h (sym same ∙ y)) ∙ same

    at_pin : (f : ℕ → ℕ) (s way : ℕ) → pinned_at f s way s ≡ way
    at_pin f s way = ap (λ b. cond b way (f s)) (eq-eqb s s refl)

    pin_good
        : {m n : State} (s way : ℕ) → Good m → m.begun ≡ true → m.pin s ≡ 0
        → (p : List ℕ) → plan p → AgreesAt (pinned_at m.pin s way) p
        → n.begun ≡ m.begun
        → ((k : ℕ) → n.mark k ≡ m.mark k)
        → ((k : ℕ) → n.pin k ≡ pinned_at m.pin s way k)
        → ((k : ℕ) → n.word k ≡ cond (m.mark k) (after_pin s way k (m.word k) (get_or p k 0)) (m.word k))
        → Good n
    pin_good {m} {n} s way i b z p q a nb mk pn wd = record {
      unmarked = λ f. absurd (both_ways n.begun f (nb ∙ b));
      unpinned = λ f. absurd (both_ways n.begun f (nb ∙ b));
      inside = λ k t. i.inside k (sym (mk k) ∙ t);
      few = λ k t. subst (λ x. x ≤ 2) (sym (word k t)) (pin_few s way k (m.word k) (get_or p k 0));
      certain = certain;
      loose = λ k t u. (p, q, agrees_by (pinned_at m.pin s way) n.pin (λ x. sym (pn x)) p a, pin_fails s way k (m.word k) (get_or p k 0) (sym (word k t) ∙ u));
    }
      where
        word : (k : ℕ) → n.mark k ≡ true → n.word k ≡ after_pin s way k (m.word k) (get_or p k 0)
        word k t = wd k ∙ ap (λ x. cond x (after_pin s way k (m.word k) (get_or p k 0)) (m.word k)) (sym (mk k) ∙ t)

        certain : (k : ℕ) → n.mark k ≡ true → n.word k ≡ 1 → (o : List ℕ) → plan o → AgreesAt n.pin o → get_or o k 0 ≡ 1
        certain k t u o oq oa =
            let a' : AgreesAt (pinned_at m.pin s way) o = agrees_by n.pin (pinned_at m.pin s way) pn o oa in
            ⊎_elim
            (λ (h : (k ≡ s) × (way ≡ 1)).
            let y : pinned_at m.pin s way k ≡ 1 = ap (λ x. pinned_at m.pin s way x) h.0 ∙ at_pin m.pin s way ∙ h.1 in
            a' k (λ x. let bad : ◌≡◌ {A = ℕ} 0 1 = sym x ∙ y in omega arith) ∙ y)
            (λ (h : m.word k ≡ 1). i.certain k (sym (mk k) ∙ t) h o oq (weaker m.pin s way z o a'))
            (pin_certain s way k (m.word k) (get_or p k 0) (sym (word k t) ∙ u))

    -- one call
    step_good : {m n : State} {c : Call} {r : Reply} → Good m → Step w plan m c r n → Good n
    step_good i (sent x) = i
    step_good i (taken clear (begins {c = c} p q b mk pn wd)) =
        begin_good c p q (stable (length c) w (λ f. clear Length (begin_length f))) b mk pn wd
    step_good i (taken clear (settles {g = g} x y t)) = settle_good (λ k. eqb (get_or g k 0) 1) i y x
    step_good {m} i (taken clear (settles_by l d x y t)) = settle_good (lowest m l) i y x
    step_good {m} i (taken clear (pins {s = s} {way = way} p q a b mk pn wd)) =
        pin_good s way i (true_from_ne_false m.begun (λ f. clear Unbegun (pin_unbegun f))) (stable (m.pin s) 0 (λ f. clear Pinned (pin_again f))) p q a b mk pn wd
    step_good i (taken clear tells) = i
    step_good i (taken clear tallies) = i

    step_ties : {es : List Event} {m n : State} {c : Call} {r : Reply} → Good m → Ties es m → Step w plan m c r n → Ties (event c r ∷ es) n
    step_ties i t (sent x) = record { begun = t.begun; mark = t.mark; pin = t.pin }
    step_ties {es} {m} i t (taken clear (begins p q b mk pn wd)) =
        record { begun = b; mark = mk; pin = λ k. pn k ∙ sym (i.unpinned (false_from_ne_true m.begun (λ f. clear Begun (begin_begun f))) k) ∙ t.pin k }
    step_ties i t (taken clear (settles x y e)) =
        record { begun = y.begun ∙ t.begun; mark = λ k. y.mark k ∙ t.mark k; pin = λ k. y.pin k ∙ t.pin k }
    step_ties i t (taken clear (settles_by l d x y e)) =
        record { begun = y.begun ∙ t.begun; mark = λ k. y.mark k ∙ t.mark k; pin = λ k. y.pin k ∙ t.pin k }
    step_ties i t (taken clear (pins {s = s} {way = way} p q a b mk pn wd)) =
        record { begun = b ∙ t.begun; mark = λ k. mk k ∙ t.mark k; pin = λ k. pn k ∙ ap (λ x. cond (eqb k s) way x) (t.pin k) }
    step_ties i t (taken clear tells) = record { begun = t.begun; mark = t.mark; pin = t.pin }
    step_ties i t (taken clear tallies) = record { begun = t.begun; mark = t.mark; pin = t.pin }

    calls_good : {m n : State} {es : List Event} → Good m → Calls w plan m es n → Good n
    calls_good i stop = i
    calls_good i (next s x) = step_good (calls_good i s) x

    calls_ties : {m n : State} {es later : List Event} → Good m → Ties es m → Calls w plan m later n → Ties (later ++ es) n
    calls_ties i t stop = t
    calls_ties i t (next s x) = step_ties (calls_good i s) (calls_ties i t s) x

    use_good : {es : List Event} {m : State} → Use w plan es m → Good m
    use_good (from f s) = calls_good (fresh_good f) s

    made_ties : {m n : State} {es : List Event} → Good m → Ties [] m → Calls w plan m es n → Ties es n
    made_ties i t stop = t
    made_ties i t (next s x) = step_ties (calls_good i s) (made_ties i t s) x

    use_ties : {es : List Event} {m : State} → Use w plan es m → Ties es m
    use_ties (from f s) = made_ties (fresh_good f) (fresh_ties f) s

    -- what is told, in terms of the sheet
    has_told : {es : List Event} {m : State} → Good m → Ties es m → (v : Word) (k : ℕ) → m.mark k ≡ true → m.word k ≡ word_number v → Told w plan es m v k
    has_told {es} {m} i t v k a e =
        record {
          candidate = sym (t.mark k) ∙ a;
          answer = tell_step (true_from_ne_false m.begun (λ f. both_ways (m.mark k) (i.unmarked f k) a)) (i.inside k a) a e;
        }

    -- certain stays certain
    keep_certain
        : {m n : State} {c : Call} {r : Reply} → Good m → (k : ℕ) → Step w plan m c r n
        → m.mark k ≡ true → m.word k ≡ 1 → (n.mark k ≡ true) × (n.word k ≡ 1)
    keep_certain i k (sent x) t e = (t, e)
    keep_certain {m} i k (taken clear (begins p q b mk pn wd)) t e =
        absurd (both_ways (m.mark k) (i.unmarked (false_from_ne_true m.begun (λ f. clear Begun (begin_begun f))) k) t)
    keep_certain {m} i k (taken clear (settles {g = g} x y z)) t e = (y.mark k ∙ t, settle_keeps (λ k. eqb (get_or g k 0) 1) k x e)
    keep_certain {m} i k (taken clear (settles_by l d x y z)) t e = (y.mark k ∙ t, settle_keeps (lowest m l) k x e)
    keep_certain {m} i k (taken clear (pins {s = s} {way = way} p q a b mk pn wd)) t e =
        (mk k ∙ t, wd k ∙ ap (λ x. cond x (after_pin s way k (m.word k) (get_or p k 0)) (m.word k)) t ∙ pin_keeps s way k (m.word k) (get_or p k 0) e)
    keep_certain i k (taken clear tells) t e = (t, e)
    keep_certain i k (taken clear tallies) t e = (t, e)

    -- loose stays loose where no pin is accepted
    inside_open : {m : State} {g : List ℕ} → ((e : SheetRefusal) → Cause w plan m (settle g) e → ⊥) → (k : ℕ) → eqb (get_or g k 0) 1 ≡ true → is_open m k ≡ true
    inside_open {m} {g} clear k t = true_from_ne_false (is_open m k) (λ f. clear Group (settle_other k (eqb-true (get_or g k 0) 1 t) f))

    keep_loose
        : {m n : State} {c : Call} {r : Reply} (es : List Event) → Good m → (k : ℕ) → Step w plan m c r n → no_pin (event c r ∷ es) ≡ true
        → m.mark k ≡ true → m.word k ≡ 2 → (n.mark k ≡ true) × (n.word k ≡ 2)
    keep_loose es i k (sent x) h t e = (t, e)
    keep_loose {m} es i k (taken clear (begins p q b mk pn wd)) h t e =
        absurd (both_ways (m.mark k) (i.unmarked (false_from_ne_true m.begun (λ f. clear Begun (begin_begun f))) k) t)
    keep_loose {m} es i k (taken clear (settles {g = g} x y z)) h t e =
        (y.mark k ∙ t, settle_leaves (λ k. eqb (get_or g k 0) 1) (inside_open {g = g} clear) k x e)
    keep_loose {m} es i k (taken clear (settles_by l d x y z)) h t e =
        (y.mark k ∙ t, settle_leaves (lowest m l) (λ j. has_mark (is_open m j) (ltb (counted m Open j) l)) k x e)
    keep_loose es i k (taken clear (pins p q a b mk pn wd)) h t e = absurd (both_ways false refl h)
    keep_loose es i k (taken clear tells) h t e = (t, e)
    keep_loose es i k (taken clear tallies) h t e = (t, e)

    all_certain : {m n : State} {es : List Event} → Good m → (k : ℕ) → Calls w plan m es n → m.mark k ≡ true → m.word k ≡ 1 → (n.mark k ≡ true) × (n.word k ≡ 1)
    all_certain i k stop t e = (t, e)
    all_certain i k (next s x) t e = let h = all_certain i k s t e in keep_certain (calls_good i s) k x h.0 h.1

    all_loose
        : {m n : State} {es : List Event} → Good m → (k : ℕ) → Calls w plan m es n → no_pin es ≡ true
        → m.mark k ≡ true → m.word k ≡ 2 → (n.mark k ≡ true) × (n.word k ≡ 2)
    all_loose i k stop f t e = (t, e)
    all_loose i k (next {es = es} {c = c} {r = r} s x) f t e =
        let h = all_loose i k s (pins_rest (accepted r) (is_pin c) (no_pin es) f) t e in
        keep_loose es (calls_good i s) k x f h.0 h.1

    between : (es : List Event) (m : State) (later : List Event) (n : State) → Use w plan es m → Calls w plan m later n → Between w plan es m later n
    unfolding HoldsInAll
    between es m later n u s = record {
      certain = λ k t.
          let h = all_certain i k s (tell_mark t.answer) (tell_word t.answer) in
          (has_told i' t' Certain k h.0 h.1, always' k h.0 h.1);
      loose = λ f k t.
          let h = all_loose i k s f (tell_mark t.answer) (tell_word t.answer) in
          has_told i' t' Loose k h.0 h.1;
    }
      where
        i : Good m
        i = use_good u

        i' : Good n
        i' = calls_good i s

        t' : Ties (later ++ es) n
        t' = calls_ties i (use_ties u) s

        always' : (k : ℕ) → n.mark k ≡ true → n.word k ≡ 1 → HoldsInAll w plan (later ++ es) k
        always' k a e p q ag = i'.certain k a e p q (agrees_by (pins_by (later ++ es)) n.pin (λ x. sym (t'.pin x)) p ag)

    -- at a stop
    pub at_stop : (es : List Event) (m : State) → Use w plan es m → AtStop w plan es m
    unfolding HoldsInAll FailsInSome
    at_stop es m u = record {
      certain = λ k t. always k (tell_mark t.answer) (tell_word t.answer);
      loose = λ k t.
          let o = i.loose k (tell_mark t.answer) (tell_word t.answer) in
          (o.0, o.1, agrees_by m.pin (pins_by es) t'.pin o.0 o.2, o.3);
      complete = λ b f k c.
          let a : m.mark k ≡ true = t'.mark k ∙ c in
          ((λ t. always k a (tell_word t.answer)), λ h. has_told i t' Certain k a (settled_word_lem f k a h));
    }
      where
        i : Good m
        i = use_good u

        t' : Ties es m
        t' = use_ties u

        always : (k : ℕ) → m.mark k ≡ true → m.word k ≡ 1 → HoldsInAll w plan es k
        always k a e p q ag = i.certain k a e p q (agrees_by (pins_by es) m.pin (λ x. sym (t'.pin x)) p ag)

        settled_word_lem : ((k : ℕ) → Told w plan es m Open k → ⊥) → (k : ℕ) → m.mark k ≡ true → HoldsInAll w plan es k → m.word k ≡ 1
        settled_word_lem f k a h =
            let few : m.word k ≤ 2 = i.few k a in
            let open' : m.word k ≡ 0 → ⊥ = λ e. f k (has_told i t' Open k a e) in
            let loose' : m.word k ≡ 2 → ⊥ = λ e.
            let o = i.loose k a e in
            let x : get_or o.0 k 0 ≡ 1 = h o.0 o.1 (agrees_by m.pin (pins_by es) t'.pin o.0 o.2) in
            let y : get_or o.0 k 0 ≡ 2 = o.3 in
            omega arith in
            omega arith

    -- a settling lowers the number of open candidates
    closes
        : {m n : State} → Rest w plan m n → (k : ℕ) → (n.word k ≡ 0 → ⊥) → is_open n k ≡ false
    closes {m} {n} r k h = false_from_ne_true (is_open n k) (λ o. h (eqb-true (n.word k) 0 (has_test (n.mark k) (eqb (n.word k) 0) o)))

    pub settle_shrinks
        : {m n : State} (g : ℕ → Bool) → Rest w plan m n → Settles w plan m g n
        → (k : ℕ) → is_open n k ≡ true → is_open m k ≡ true
    settle_shrinks {m} {n} g r s k o =
        has_from (m.mark k) (eqb (m.word k) 0) (sym (r.mark k) ∙ has_mark (n.mark k) (eqb (n.word k) 0) o)
        (eq-eqb (m.word k) 0 (was s))
      where
        z : n.word k ≡ 0
        z = eqb-true (n.word k) 0 (has_test (n.mark k) (eqb (n.word k) 0) o)

        one' : (b : Bool) (x : ℕ) → cond b 1 x ≡ 0 → x ≡ 0
        one' b x e = grind arith

        two' : (b d : Bool) (x : ℕ) → cond b (cond d 2 x) x ≡ 0 → x ≡ 0
        two' b d x e = grind arith

        was : Settles w plan m g n → m.word k ≡ 0
        was (none f e) = one' (g k) (m.word k) (sym (e k) ∙ z)
        was (some p pq pa j gj fj e) = two' (is_open m k) (eqb (get_or p k 0) 2) (m.word k) (sym (e k) ∙ z)

    settle_lowers
        : {m n : State} (g : ℕ → Bool) → Good m → ((k : ℕ) → g k ≡ true → is_open m k ≡ true)
        → (((k : ℕ) → g k ≡ true → ⊥) → ⊥)
        → Rest w plan m n → Settles w plan m g n → counted n Open w < counted m Open w
    settle_lowers {m} {n} g i o ne r (none f e) =
        ⊎_elim (λ (x : counted n Open w < counted m Open w). x) (λ (x : counted m Open w ≤ counted n Open w). absurd (ne (λ k gk.
        let op : is_open m k ≡ true = o k gk in
        let l : counted n Open w < counted m Open w = counted_lt m n (settle_shrinks g r (none f e)) k op (closes r k (shut k gk)) w (i.inside k (has_mark (m.mark k) (eqb (m.word k) 0) op)) in
        omega arith)))
        (cases_lt (counted n Open w) (counted m Open w))
      where
        shut : (k : ℕ) → g k ≡ true → n.word k ≡ 0 → ⊥
        shut k gk z = let h : n.word k ≡ 1 = e k ∙ ap (λ b. cond b 1 (m.word k)) gk in omega arith
    settle_lowers {m} {n} g i o ne r (some p pq pa j gj fj e) =
        counted_lt m n (settle_shrinks g r (some p pq pa j gj fj e)) j op (closes r j shut) w (i.inside j (has_mark (m.mark j) (eqb (m.word j) 0) op))
      where
        op : is_open m j ≡ true
        op = o j gj

        shut : n.word j ≡ 0 → ⊥
        shut z =
            let h : n.word j ≡ 2 = e j ∙ ap (λ b. cond b (cond (eqb (get_or p j 0) 2) 2 (m.word j)) (m.word j)) op ∙ ap (λ b. cond b 2 (m.word j)) (eq-eqb (get_or p j 0) 2 fj) in
            omega arith

    lowered
        : {m n : State} {c : Call} {r : Reply} → Good m → Step w plan m c r n → is_settling c ≡ true → accepted r ≡ true
        → counted n Open w < counted m Open w
    lowered i (sent x) s a = absurd (both_ways false refl a)
    lowered i (taken clear (begins p q b mk pn wd)) s a = absurd (both_ways false refl s)
    lowered i (taken clear (settles {g = g} x y z)) s a =
        settle_lowers (λ k. eqb (get_or g k 0) 1) i (inside_open {g = g} clear) (λ f. clear Group (settle_empty (λ k e. f k (eq-eqb (get_or g k 0) 1 e)))) y x
    lowered {m} i (taken clear (settles_by {size = size} l d x y z)) s a =
        settle_lowers (lowest m l) i (λ j. has_mark (is_open m j) (ltb (counted m Open j) l))
        (λ f. clear NoneOpen (by_closed (λ k o.
        let j = lowest_open m k o in
        let in' : j.0 < w = i.inside j.0 (has_mark (m.mark j.0) (eqb (m.word j.0) 0) j.1) in
        let pos : 0 < l = limit_more d (omega arith) (λ e h. clear Group (by_zero e h)) in
        let zero' : counted m Open j.0 ≡ 0 = j.2 in
        f j.0 (has_from (is_open m j.0) (ltb (counted m Open j.0) l) j.1 (lt-ltb (counted m Open j.0) l (omega arith))))))
        y x
    lowered i (taken clear (pins p q b c mk pn wd)) s a = absurd (both_ways false refl s)
    lowered i (taken clear tells) s a = absurd (both_ways false refl s)
    lowered i (taken clear tallies) s a = absurd (both_ways false refl s)

    told_has : {es : List Event} {m : State} (v : Word) (k : ℕ) → Told w plan es m v k → has m v k ≡ true
    told_has {m = m} v k t = has_from (m.mark k) (eqb (m.word k) (word_number v)) (tell_mark t.answer) (eq-eqb (m.word k) (word_number v) (tell_word t.answer))

    from_has : {es : List Event} {m : State} → Good m → Ties es m → (v : Word) (k : ℕ) → has m v k ≡ true → Told w plan es m v k
    from_has {m = m} i t v k h =
        has_told i t v k (has_mark (m.mark k) (eqb (m.word k) (word_number v)) h) (eqb-true (m.word k) (word_number v) (has_test (m.mark k) (eqb (m.word k) (word_number v)) h))

    lowers
        : (es : List Event) (m : State) (c : Call) (r : Reply) (n : State)
        → Use w plan es m → Step w plan m c r n → is_settling c ≡ true → accepted r ≡ true → Lowers w plan es m c r n
    unfolding Lowers
    lowers es m c r n u s a b =
        let i = use_good u in
        let t = use_ties u in
        let i' = step_good i s in
        let t' = step_ties i t s in (
          counted m Open w,
          counted n Open w,
          numbered m Open (Told w plan es m Open) (from_has i t Open) (told_has Open) w,
          numbered n Open (Told w plan (event c r ∷ es) n Open) (from_has i' t' Open) (told_has Open) w,
          lowered i s a b,
        )

    pub kept : (es : List Event) (n : State) → Kept w plan es n
    kept es n = record {
      stops = λ older m later x. at_stop older m x.before;
      moments = λ older m middle o later u s x. between older m middle o u s;
      settlings = λ older m c r o later u s x a b. lowers older m c r o u s a b;
    }

    -- a use goes on by one call
    use_more : {es : List Event} {m n : State} {c : Call} {r : Reply} → Use w plan es m → Step w plan m c r n → Use w plan (event c r ∷ es) n
    use_more (from f s) x = from f (next s x)

    pub starts : (n : State) → Fresh n → Starts w plan n
    unfolding Starts
    starts n f = (from f stop, kept [] n)

    pub continues : {m n : State} {c : Call} {r : Reply} → Step w plan m c r n → Continues w plan m c r n
    unfolding Continues
    continues {n = n} {c = c} {r = r} x es u = (record { parts = refl; before = u; after = next stop x }, use_more u x, kept (event c r ∷ es) n)
