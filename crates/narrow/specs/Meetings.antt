-- The laws of the plans that meet a group, from the laws of the base below: the cut drops no plan that meets the group.
use Rattle.std.specs.Prelude.{◌≡◌, ℕ, zero, suc, ◌<◌, Bool, true, false, cond, not, ◌&&◌, ◌||◌, ◌≢◌, ◌⊎◌, List, length, ◌==◌, slice_index, slice_set, refl}
use Rattle.std.proofs.Common.{sym, ap, ◌∙◌, inl, inr, arith}
use Rattle.std.proofs.lemmas.Bool.{eq-eqb, eqb-true, and_from, and_parts, true≢false, cases_eq, cases_lt, cases_Bool, or_cases, or_left, or_right, not_from_false}
use Rattle.std.proofs.lemmas.List.{get_or_past, get_or-set_same, get_or-set_other, length-set}
use Rattle.source.specs.Plans.{Partial, Whole, Agrees, FailsMarked, Meets}
use Rattle.base.specs.Laws.{Out, clash, fits, Lawful}
use Rattle.base.proofs.Partials.{small, partial_from}
use Rattle.narrow.specs.Meeting.{MeetingPlan, CanFail, MayMeet, some_below, fitting, may_meet, narrowed}

some_at : (n : ℕ) (f : ℕ → Bool) → some_below n f ≡ true → (k : ℕ) × (k < n) × (f k ≡ true)
some_at zero f e = absurd (true≢false (sym e))
some_at (suc n) f e = elim (or_cases (f n) (some_below n f) e) [
  | inl x ↦ (n, omega arith, x)
  | inr x ↦ (let r = some_at n f x in (r.0, omega (arith, r.1), r.2))
]

some_from : (n : ℕ) (f : ℕ → Bool) (k : ℕ) → k < n → f k ≡ true → some_below n f ≡ true
some_from zero f k l e = absurd (omega arith)
some_from (suc n) f k l e = elim (cases_eq k n) [
  | inl q ↦ or_left (f n) (some_below n f) (ap f (sym q) ∙ e)
  | inr q ↦ or_right (f n) (some_below n f) (some_from n f k (omega arith) e)
]

-- a byte that is not 0 stands within the list
within : (xs : List ℕ) (k v : ℕ) → 0 < v → slice_index xs k ≡ v → k < length xs
within xs k v h e = elim (cases_lt k (length xs)) [ inl l ↦ l | inr l ↦ (let z = get_or_past xs k 0 l in absurd (omega arith)) ]

-- a partial with one statement failing
pub fails_partial : (w : ℕ) (r : List ℕ) (k : ℕ) → Partial w r → k < length r → Partial w (slice_set r k 2)
fails_partial w r k p l = partial_from w (slice_set r k 2) (length-set r k 2 ∙ p.0) (λ i. elim (cases_eq i k) [
  | inl q ↦ omega (arith, ap (λ j. slice_index (slice_set r k 2) j) q ∙ get_or-set_same r k 2 0 l)
  | inr q ↦ omega (arith, get_or-set_other r k i 2 0 q, small w r p i)
])

-- what agrees with r and fails at k agrees with r where k fails
fails_agrees : (r x : List ℕ) (k : ℕ) → k < length r → Agrees r x → slice_index x k ≡ 2 → Agrees (slice_set r k 2) x
fails_agrees r x k l ag e i n = elim (cases_eq i k) [
  | inl q ↦ ap (λ j. slice_index x j) q ∙ e ∙ sym (ap (λ j. slice_index (slice_set r k 2) j) q ∙ get_or-set_same r k 2 0 l)
  | inr q ↦ (let o = get_or-set_other r k i 2 0 q in ag i (λ z. n (o ∙ z)) ∙ sym o)
]

fitting_from : (x : Out) → (x ≢ clash) → fitting x ≡ true
fitting_from clash n = absurd (n refl)
fitting_from (fits r) n = refl

fitting_to : (x : Out) → fitting x ≡ true → x ≢ clash
fitting_to clash e c = true≢false (sym e)
fitting_to (fits r) e c = let t : ◌≡◌ {A = ℕ} 0 1 = cc in omega arith

-- the test tells whether the group may be met
module _ (o : List ℕ → Out) (g r : List ℕ) where
  abbrev mark : ℕ → Bool
  mark k = slice_index g k == 1

  abbrev fail : ℕ → Bool
  fail k = slice_index g k == 1 && slice_index r k == 2

  abbrev can : ℕ → Bool
  can k = slice_index g k == 1 && (slice_index r k == 0 && fitting (o (slice_set r k 2)))

  pub may_to : may_meet o g r ≡ true → MayMeet o g r
  may_to e m = go (or_cases (not (some_below (length g) mark)) _ e)
    where
      go : (not (some_below (length g) mark) ≡ true) ⊎ ((some_below (length g) fail || some_below (length r) can) ≡ true)
          → FailsMarked g r ⊎ ((k : ℕ) × (k < length r) × (slice_index g k ≡ 1) × CanFail o r k)
      go (inl x) = absurd (true≢false (sym x ∙ ap not (some_from (length g) mark m.0 (within g m.0 1 (omega arith) m.1) (eq-eqb _ 1 m.1))))
      go (inr x) = elim (or_cases (some_below (length g) fail) (some_below (length r) can) x) [
        | inl y ↦ (let a = some_at (length g) fail y in let b = and_parts (slice_index g a.0 == 1) _ a.2 in
            inl (a.0, eqb-true _ 1 b.0, eqb-true _ 2 b.1))
        | inr y ↦ (let a = some_at (length r) can y in let b = and_parts (slice_index g a.0 == 1) _ a.2 in let c = and_parts (slice_index r a.0 == 0) _ b.1 in
            inr (a.0, a.1, eqb-true _ 1 b.0, (eqb-true _ 0 c.0, fitting_to _ c.1)))
      ]

  pub may_from : MayMeet o g r → may_meet o g r ≡ true
  may_from h = elim (cases_Bool (some_below (length g) mark)) [
    | inl t ↦ or_right (not (some_below (length g) mark)) _ (go (h (let a = some_at (length g) mark t in (a.0, eqb-true _ 1 a.2))))
    | inr t ↦ or_left (not (some_below (length g) mark)) _ (not_from_false _ t)
  ]
    where
      go : FailsMarked g r ⊎ ((k : ℕ) × (k < length r) × (slice_index g k ≡ 1) × CanFail o r k) → (some_below (length g) fail || some_below (length r) can) ≡ true
      go (inl f) = or_left (some_below (length g) fail) _ (some_from (length g) fail f.0 (within g f.0 1 (omega arith) f.1) (and_from _ _ (eq-eqb _ 1 f.1) (eq-eqb _ 2 f.2)))
      go (inr f) = or_right (some_below (length g) fail) _ (some_from (length r) can f.0 f.1
          (and_from _ _ (eq-eqb _ 1 f.2) (and_from _ _ (eq-eqb _ 0 f.3.0) (fitting_from _ f.3.1))))

kept : (b : Bool) (r s : List ℕ) → cond b (fits r) clash ≡ fits s → (b ≡ true) × (r ≡ s)
kept true r s e = (refl, cc)
kept false r s e = let t : ◌≡◌ {A = ℕ} 0 1 = cc in absurd (omega arith)

lost : (b : Bool) (r : List ℕ) → cond b (fits r) clash ≡ clash → b ≡ false
lost true r e = let t : ◌≡◌ {A = ℕ} 0 1 = cc in absurd (omega arith)
lost false r e = refl

fits_below : (o : List ℕ → Out) (g : List ℕ) (x : Out) (s : List ℕ) → narrowed o g x ≡ fits s → (x ≡ fits s) × (may_meet o g s ≡ true)
fits_below o g clash s e = let t : ◌≡◌ {A = ℕ} 0 1 = cc in absurd (omega arith)
fits_below o g (fits r) s e = let f = kept (may_meet o g r) r s e in (ap fits f.1, ap (may_meet o g) (sym f.1) ∙ f.0)

clash_below : (o : List ℕ → Out) (g : List ℕ) (x : Out) → narrowed o g x ≡ clash → (x ≡ clash) ⊎ ((r : List ℕ) × (x ≡ fits r) × (may_meet o g r ≡ false))
clash_below o g clash e = inl refl
clash_below o g (fits r) e = inr (r, refl, lost (may_meet o g r) r e)

module _ (w : ℕ) (plan : List ℕ → Type 0) (o : List ℕ → Out) (g : List ℕ) (laws : Lawful w plan o) where
  -- where a plan that meets the group agrees with r, the group may still be met: a cut drops no such plan
  pub in_sight : (r : List ℕ) → Partial w r → (x : List ℕ) → plan x → Agrees r x → Meets g x → MayMeet o g r
  in_sight r pr x px ag meets m = let f = meets m in at f.0 f.1 f.2 (cases_eq (slice_index r f.0) 0)
    where
      at : (k : ℕ) → slice_index g k ≡ 1 → slice_index x k ≡ 2 → (slice_index r k ≡ 0) ⊎ (slice_index r k ≢ 0)
          → FailsMarked g r ⊎ ((k : ℕ) × (k < length r) × (slice_index g k ≡ 1) × CanFail o r k)
      at k mk two (inr d) = inl (k, mk, sym (ag k d) ∙ two)
      at k mk two (inl z) =
          let l : k < length r = omega (arith, within x k 2 (omega arith) two, (laws.shaped x px).0, pr.0) in
          inr (k, l, mk, (z, λ c. laws.clashes (slice_set r k 2) (fails_partial w r k pr l) c x px (fails_agrees r x k l ag two)))

  -- a whole partial in which the group may be met meets it
  is_met : (r : List ℕ) → Whole w r → MayMeet o g r → Meets g r
  is_met r wh may m = elim (may m) [
    | inl f ↦ f
    | inr f ↦ (let l = wh.0 in absurd (elim (wh.1 f.0 (omega (arith, f.1))) [ inl e ↦ omega (arith, f.3.0) | inr e ↦ omega (arith, f.3.0) ]))
  ]

  pub meeting_lawful : Lawful w (λ p. MeetingPlan plan g p) (λ q. narrowed o g (o q))
  meeting_lawful = record {
    narrow = laws.narrow;
    shaped = λ p a. laws.shaped p a.0;
    written = λ q r p e. laws.written q r p (fits_below o g (o q) r e).0;
    stay = λ q r p e. laws.stay q r p (fits_below o g (o q) r e).0;
    keeps = λ q r p e x a ag. laws.keeps q r p (fits_below o g (o q) r e).0 x a.0 ag;
    clashes = λ q p e x a ag. elim (clash_below o g (o q) e) [
      | inl c ↦ laws.clashes q p c x a.0 ag
      | inr f ↦ true≢false (sym (may_from o g f.0 (in_sight f.0 (laws.written q f.0 p f.1) x a.0 (laws.keeps q f.0 p f.1 x a.0 ag) a.1)) ∙ f.2)
    ];
    wholes = λ q r p e d. let f = fits_below o g (o q) r e in (laws.wholes q r p f.0 d, is_met r d (may_to o g r f.1));
  }
