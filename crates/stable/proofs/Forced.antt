-- A rulebook as rules that force decisions: one for each row (forward, contraposition), one for each statement (all cancelled, backchain), and one for all unfounded sets (unfounded).
use Rattle.std.proofs.Common.{◌≡◌, ℕ, ◌+◌, ◌-◌, ◌*◌, ◌/◌, ◌%◌, ◌<◌, ◌≤◌, Bool, true, false, not, ◌&&◌, eqb, ltb, ◌≢◌, ◌⊎◌, List, [], length, sym, refl, ap, ◌∙◌, subst, inl, inr, arith}
use Rattle.std.proofs.Math.Option.{Option, some, none}
use Rattle.std.proofs.lemmas.Bool.{false_from_ne_true, eqb-true, eqb-false, cases_Bool, cases_eq, cases_lt, both_ways, and_parts, and_from, not-true, not_from_false, eq-eqb, ne_eqb, or_cases, or_left, or_right, lt-ltb, le-ltb, cond-true, cond-false}
use Rattle.std.proofs.lemmas.List.{nil_from_length}
use Rattle.source.specs.Plans.{Whole}
use Rattle.base.proofs.Partials.{whole_long}
use Rattle.closing.specs.Sets.{contrary, holds, In, Within, Sub, imp, every, all_sets, imp_to, imp_from, every_to, every_from, some_to, some_from, some_below_to, some_below_from, below_to, below_from, sets_to, sets_from, move, holds_once}
use Rattle.closing.specs.Forces.{Forces, KeptAt, Free, Barred, Based}
use Rattle.closing.specs.Forces as forcing
use Rattle.closing.specs.Closures.{holds_within, either}
use Rattle.stable.specs.Books.{stmt, negated, Rule, Book, rows, row, Sound, Cancelled, HeadFails, Unfounded, Kept, Total, BookPlan}
use Rattle.stable.specs.Decide.{on_head, cancelled, unfounded, heads, some_below, some_in, row_forces, all_cancelled, others_cancelled, only_row, statement_forces, unfounded_forces, empties, kind, book_forces}
use Rattle.stable.proofs.Bridge.{heads_to, heads_from, fails_to, fails_from, cancelled_to, cancelled_from, unf_to, unf_from}
use Rattle.stable.proofs.Theory.{plans_are_kept, kept_are_plans}

-- THE TESTS, OPENED
abbrev Row : Rule → (ℕ → Bool) → ℕ → Type 0
Row r D e =
    ((h : ℕ) × (r.head ≡ some h) × (e ≡ 2 * h) × ((f : ℕ) → In f r.body → D f ≡ true)) ⊎
    ((f : ℕ) × HeadFails D r.head × In f r.body × (e ≡ contrary f) × ((g : ℕ) → In g r.body → g ≢ f → D g ≡ true))

pub row_to : (r : Rule) (D : ℕ → Bool) (e : ℕ) → row_forces r D e ≡ true → Row r D e
row_to r D e x = elim (or_cases _ _ x) [
  | inl a ↦ inl (at r.head refl a)
  | inr a ↦ (let t = and_parts (on_head r.head true (λ h. D (2 * h + 1))) _ a in let s = some_to _ r.body t.1 in
      let u = and_parts (eqb e (contrary s.0)) _ s.2 in
      inr (s.0, fails_to D r.head t.0, s.1, eqb-true _ _ u.0, (λ g m n. elim (or_cases (eqb g s.0) (D g) (every_to _ r.body u.1 g m)) [ inl q ↦ absurd (n (eqb-true _ _ q)) | inr q ↦ q ])))
]
  where
    at : (o : Option ℕ) → r.head ≡ o → on_head o false (λ h. eqb e (2 * h) && every D r.body) ≡ true → (h : ℕ) × (r.head ≡ some h) × (e ≡ 2 * h) × ((f : ℕ) → In f r.body → D f ≡ true)
    at none q a = absurd (both_ways _ refl a)
    at (some h) q a = let t = and_parts (eqb e (2 * h)) (every D r.body) a in (h, q, eqb-true _ _ t.0, every_to D r.body t.1)

pub row_from : (r : Rule) (D : ℕ → Bool) (e : ℕ) → Row r D e → row_forces r D e ≡ true
row_from r D e (inl (h, hd, q, all)) = or_left _ _ (subst (λ o. on_head o false (λ h. eqb e (2 * h) && every D r.body) ≡ true) (sym hd) (and_from _ _ (eq-eqb _ _ q) (every_from D r.body all)))
row_from r D e (inr (f, hf, m, q, others)) = or_right (on_head r.head false (λ h. eqb e (2 * h) && every D r.body)) _ (and_from _ _ (fails_from D r.head hf)
    (some_from _ r.body f m (and_from _ _ (eq-eqb _ _ q) (every_from _ r.body (λ g mg. elim (cases_eq g f) [ inl z ↦ or_left (eqb g f) _ (eq-eqb g f z) | inr z ↦ or_right (eqb g f) _ (others g mg z) ])))))

abbrev Stated : Book → ℕ → (ℕ → Bool) → ℕ → Type 0
Stated rb s D e =
    ((e ≡ 2 * s + 1) × ((i : ℕ) → i < rows rb → (row rb i).head ≡ some s → Cancelled D (row rb i))) ⊎
    ((i : ℕ) × (D (2 * s) ≡ true) × (i < rows rb) × ((row rb i).head ≡ some s) × ((j : ℕ) → j < rows rb → j ≢ i → (row rb j).head ≡ some s → Cancelled D (row rb j)) × In e (row rb i).body)

pub stated_to : (rb : Book) (s : ℕ) (D : ℕ → Bool) (e : ℕ) → statement_forces rb s D e ≡ true → Stated rb s D e
stated_to rb s D e x = elim (or_cases (eqb e (2 * s + 1) && all_cancelled rb s D) (D (2 * s) && some_below (rows rb) (only_row rb s D e)) x) [
  | inl a ↦ (let t = and_parts (eqb e (2 * s + 1)) (all_cancelled rb s D) a in
      inl (eqb-true _ _ t.0, (λ i l hd. cancelled_to D (row rb i) (imp_to (heads s (row rb i)) _ (below_to (rows rb) (λ k. imp (heads s (row rb k)) (cancelled D (row rb k))) t.1 i l) (heads_from s (row rb i) hd)))))
  | inr a ↦ (let t = and_parts (D (2 * s)) (some_below (rows rb) (only_row rb s D e)) a in let k = some_below_to (rows rb) (only_row rb s D e) t.1 in inr (only k.0 t.0 k.1 k.2))
]
  where
    only : (i : ℕ) → D (2 * s) ≡ true → i < rows rb → only_row rb s D e i ≡ true →
        (i : ℕ) × (D (2 * s) ≡ true) × (i < rows rb) × ((row rb i).head ≡ some s) × ((j : ℕ) → j < rows rb → j ≢ i → (row rb j).head ≡ some s → Cancelled D (row rb j)) × In e (row rb i).body
    only i d l h =
        let u = and_parts (heads s (row rb i)) (others_cancelled rb s i D && some_in (λ f. eqb f e) (row rb i).body) h in
        let v = and_parts (others_cancelled rb s i D) (some_in (λ f. eqb f e) (row rb i).body) u.1 in
        let m = some_to (λ f. eqb f e) (row rb i).body v.1 in (
          i,
          d,
          l,
          heads_to s (row rb i) u.0,
          (λ j lj ne hj. cancelled_to D (row rb j) (imp_to (not (eqb j i) && heads s (row rb j)) _ (below_to (rows rb) (λ k. imp (not (eqb k i) && heads s (row rb k)) (cancelled D (row rb k))) v.0 j lj) (and_from (not (eqb j i)) _ (not_from_false _ (ne_eqb _ _ ne)) (heads_from s (row rb j) hj)))),
          subst (λ z. In z (row rb i).body) (eqb-true _ _ m.2) m.1,
        )

pub stated_from : (rb : Book) (s : ℕ) (D : ℕ → Bool) (e : ℕ) → Stated rb s D e → statement_forces rb s D e ≡ true
stated_from rb s D e (inl (q, all)) = or_left (eqb e (2 * s + 1) && all_cancelled rb s D) _ (and_from _ _ (eq-eqb _ _ q) (below_from (rows rb) _ (λ i l. imp_from (heads s (row rb i)) _ (λ p. cancelled_from D (row rb i) (all i l (heads_to s (row rb i) p))))))
stated_from rb s D e (inr (i, d, l, hd, others, m)) = or_right (eqb e (2 * s + 1) && all_cancelled rb s D) _ (and_from _ _ d (some_below_from (rows rb) (only_row rb s D e) i l
    (and_from _ _ (heads_from s (row rb i) hd) (and_from _ _
    (below_from (rows rb) _ (λ j lj. imp_from (not (eqb j i) && heads s (row rb j)) _ (λ p. cancelled_from D (row rb j) (others j lj (eqb-false j i (not-true _ (and_parts (not (eqb j i)) _ p).0)) (heads_to s (row rb j) (and_parts (not (eqb j i)) _ p).1)))))
    (some_from (λ f. eqb f e) (row rb i).body e m (eq-eqb e e refl))))))

-- unfounded fails: an unfounded set is not found by a test, so it is spoken of by what its absence would say
pub unf_from_set : (rb : Book) (D : ℕ → Bool) (e : ℕ) → negated e ≡ true → (U : ℕ → Bool) → Within rb.width U → Unfounded rb D U → U (stmt e) ≡ true → unfounded_forces rb D e ≡ true
unf_from_set rb D e n U w u h = and_from (negated e) _ n (elim (cases_Bool (all_sets rb.width (λ V. not (unfounded rb D V && V (stmt e))))) [
  | inl q ↦ absurd (both_ways _ (not-true _ (sets_to rb.width (λ V. not (unfounded rb D V && V (stmt e))) q U w)) (and_from _ _ (unf_from rb D U u) h))
  | inr q ↦ not_from_false _ q
])

pub unf_to_all : (rb : Book) (D : ℕ → Bool) (e : ℕ) → unfounded_forces rb D e ≡ true → (b : Bool) → ((U : ℕ → Bool) → Within rb.width U → Unfounded rb D U → U (stmt e) ≡ true → b ≡ true) → (negated e ≡ true) × (b ≡ true)
unf_to_all rb D e x b f = let t = and_parts (negated e) _ x in (
  t.0,
  elim (cases_Bool b) [
    | inl q ↦ q
    | inr q ↦ absurd (both_ways _ (not-true _ t.1) (sets_from rb.width _ (λ U w. not_from_false _ (no (unfounded rb D U) (U (stmt e)) (λ u h. both_ways _ q (f U w (unf_to rb D U u) h))))))
  ],
)
  where
    no : (x y : Bool) → (x ≡ true → y ≡ true → ⊥) → (x && y) ≡ false
    no true true k = absurd (k refl refl)
    no true false k = refl
    no false y k = refl

-- WHICH KIND
pub which : (n w k : ℕ) → (k < n) ⊎ (((s : ℕ) × (k ≡ n + s) × (s < w)) ⊎ (n + w ≤ k))
which n w k = elim (cases_lt k n) [
  | inl l ↦ inl l
  | inr l ↦ elim (cases_lt k (n + w)) [ inl m ↦ inr (inl (k - n, omega arith, omega arith)) | inr m ↦ inr (inr m) ]
]

module _ {A : Type 0} (rb : Book) (x z : A) (y : ℕ → A) where
  kind_row : (k : ℕ) → k < rows rb → kind rb k x (y (k - rows rb)) z ≡ x
  kind_row k l = cond-true (ltb k (rows rb)) x _ (lt-ltb _ _ l)

  kind_statement : (s : ℕ) → s < rb.width → kind rb (rows rb + s) x (y (rows rb + s - rows rb)) z ≡ y s
  kind_statement s l = cond-false (ltb (rows rb + s) (rows rb)) x _ (le-ltb _ _ (omega arith)) ∙ cond-true (ltb (rows rb + s) (rows rb + rb.width)) _ z (lt-ltb _ _ (omega arith))
      ∙ (let e : rows rb + s - rows rb ≡ s = omega arith in ap y e)

  kind_last : (k : ℕ) → rows rb + rb.width ≤ k → kind rb k x (y (k - rows rb)) z ≡ z
  kind_last k l = cond-false (ltb k (rows rb)) x _ (le-ltb _ _ (omega arith)) ∙ cond-false (ltb k (rows rb + rb.width)) _ z (le-ltb _ _ l)

module _ (rb : Book) (D : ℕ → Bool) (e : ℕ) where
  pub force_row : (k : ℕ) → k < rows rb → (book_forces rb).force k D e ≡ row_forces (row rb k) D e
  force_row k l = kind_row rb (row_forces (row rb k) D e) (unfounded_forces rb D e) (λ s. statement_forces rb s D e) k l

  pub force_statement : (s : ℕ) → s < rb.width → (book_forces rb).force (rows rb + s) D e ≡ statement_forces rb s D e
  force_statement s l = kind_statement rb (row_forces (row rb (rows rb + s)) D e) (unfounded_forces rb D e) (λ t. statement_forces rb t D e) s l

  pub force_last : (k : ℕ) → rows rb + rb.width ≤ k → (book_forces rb).force k D e ≡ unfounded_forces rb D e
  force_last k l = kind_last rb (row_forces (row rb k) D e) (unfounded_forces rb D e) (λ s. statement_forces rb s D e) k l

module _ (rb : Book) (D : ℕ → Bool) where
  pub bar_row : (k : ℕ) → k < rows rb → (book_forces rb).bar k D ≡ empties (row rb k)
  bar_row k l = kind_row rb (empties (row rb k)) false (λ s. D (2 * s) && D (2 * s + 1)) k l

  pub bar_statement : (s : ℕ) → s < rb.width → (book_forces rb).bar (rows rb + s) D ≡ (D (2 * s) && D (2 * s + 1))
  bar_statement s l = kind_statement rb (empties (row rb (rows rb + s))) false (λ t. D (2 * t) && D (2 * t + 1)) s l

  pub bar_last : (k : ℕ) → rows rb + rb.width ≤ k → (book_forces rb).bar k D ≡ false
  bar_last k l = kind_last rb (empties (row rb k)) false (λ s. D (2 * s) && D (2 * s + 1)) k l

-- MORE DECISIONS FORCE MORE
cancelled_mono : (C D : ℕ → Bool) (r : Rule) → Sub C D → Cancelled C r → Cancelled D r
cancelled_mono C D r m c = (c.0, c.1, m _ c.2)

fails_mono : (C D : ℕ → Bool) (o : Option ℕ) → Sub C D → HeadFails C o → HeadFails D o
fails_mono C D none m h = tt
fails_mono C D (some g) m h = m _ h

row_mono : (r : Rule) (C D : ℕ → Bool) (e : ℕ) → Sub C D → Row r C e → Row r D e
row_mono r C D e m (inl (h, hd, q, all)) = inl (h, hd, q, (λ f i. m f (all f i)))
row_mono r C D e m (inr (f, hf, i, q, others)) = inr (f, fails_mono C D r.head m hf, i, q, (λ g j n. m g (others g j n)))

stated_mono : (rb : Book) (s : ℕ) (C D : ℕ → Bool) (e : ℕ) → Sub C D → Stated rb s C e → Stated rb s D e
stated_mono rb s C D e m (inl (q, all)) = inl (q, (λ i l hd. cancelled_mono C D (row rb i) m (all i l hd)))
stated_mono rb s C D e m (inr (i, d, l, hd, others, x)) = inr (i, m _ d, l, hd, (λ j lj ne hj. cancelled_mono C D (row rb j) m (others j lj ne hj)), x)

unfounded_mono : (rb : Book) (C D U : ℕ → Bool) → Sub C D → Unfounded rb C U → Unfounded rb D U
unfounded_mono rb C D U m u i h l hd uh = elim (u i h l hd uh) [ inl x ↦ inl (cancelled_mono C D (row rb i) m x) | inr x ↦ inr x ]

force_mono : (rb : Book) (k : ℕ) (C D : ℕ → Bool) → Sub C D → Sub ((book_forces rb).force k C) ((book_forces rb).force k D)
force_mono rb k C D m e x = elim (which (rows rb) rb.width k) [
  | inl l ↦ force_row rb D e k l ∙ row_from (row rb k) D e (row_mono (row rb k) C D e m (row_to (row rb k) C e (sym (force_row rb C e k l) ∙ x)))
  | inr y ↦ elim y [
    | inl s ↦ subst (λ j. (book_forces rb).force j D e ≡ true) (sym s.1) (force_statement rb D e s.0 s.2 ∙ stated_from rb s.0 D e (stated_mono rb s.0 C D e m (stated_to rb s.0 C e
        (sym (force_statement rb C e s.0 s.2) ∙ subst (λ j. (book_forces rb).force j C e ≡ true) s.1 x))))
    | inr l ↦ (let u = sym (force_last rb C e k l) ∙ x in
        force_last rb D e k l ∙ (unf_to_all rb C e u (unfounded_forces rb D e) (λ U w f h. unf_from_set rb D e (and_parts (negated e) _ u).0 U w (unfounded_mono rb C D U m f) h)).1)
  ]
]

bar_mono : (rb : Book) (k : ℕ) (C D : ℕ → Bool) → Sub C D → (book_forces rb).bar k C ≡ true → (book_forces rb).bar k D ≡ true
bar_mono rb k C D m x = elim (which (rows rb) rb.width k) [
  | inl l ↦ bar_row rb D k l ∙ (sym (bar_row rb C k l) ∙ x)
  | inr y ↦ elim y [
    | inl s ↦ (let u = and_parts (C (2 * s.0)) (C (2 * s.0 + 1)) (sym (bar_statement rb C s.0 s.2) ∙ subst (λ j. (book_forces rb).bar j C ≡ true) s.1 x) in
        subst (λ j. (book_forces rb).bar j D ≡ true) (sym s.1) (bar_statement rb D s.0 s.2 ∙ and_from _ _ (m _ u.0) (m _ u.1)))
    | inr l ↦ absurd (both_ways _ (bar_last rb C k l) x)
  ]
]

pub both_values : (D : ℕ → Bool) (e : ℕ) → D e ≡ true → D (contrary e) ≡ true → (D (2 * (e / 2)) && D (2 * (e / 2) + 1)) ≡ true
both_values D e a b = elim (cases_eq (e % 2) 0) [
  | inl z ↦ and_from _ _ (move D _ _ (omega arith) a) (move D _ _ (omega arith) b)
  | inr z ↦ and_from _ _ (move D _ _ (omega arith) b) (move D _ _ (omega arith) a)
]

pub book_sound : (rb : Book) → Sound rb → forcing.Sound (book_forces rb)
book_sound rb n = record {
  narrow = n.narrow;
  more = force_mono rb;
  bars = bar_mono rb;
  conflict = λ k e D l m f a b. (rows rb + e / 2, omega arith, bar_statement rb D (e / 2) (omega arith) ∙ both_values D e a b);
}

-- THE FIVE RULES KEEP A SET EXACTLY IF THESE RULES DO
pub kept_five : (rb : Book) → Sound rb → (D : ℕ → Bool) → forcing.Kept (book_forces rb) D → Kept rb D
kept_five rb sound D k = record {
  forward = λ i h l hd all. k i (omega arith) (2 * h) (let b = sound.heads i h l hd in omega arith) (force_row rb D (2 * h) i l ∙ row_from (row rb i) D (2 * h) (inl (h, hd, refl, all)));
  contraposition = λ i e l hf m others. k i (omega arith) (contrary e) (let b = sound.entries i e l m in omega arith) (force_row rb D (contrary e) i l ∙ row_from (row rb i) D (contrary e) (inr (e, hf, m, refl, others)));
  all_cancelled = λ s l all. k (rows rb + s) (omega arith) (2 * s + 1) (omega arith) (force_statement rb D (2 * s + 1) s l ∙ stated_from rb s D (2 * s + 1) (inl (refl, all)));
  backchain = λ i s l hd d others e m. let ls = sound.heads i s l hd in
      k (rows rb + s) (omega arith) e (sound.entries i e l m) (force_statement rb D e s ls ∙ stated_from rb s D e (inr (i, d, l, hd, others, m)));
  unfounded_fails = λ U w unf s us.
      let ls : s < rb.width = elim (cases_lt s rb.width) [ inl a ↦ a | inr b ↦ absurd (both_ways _ (w s b) us) ] in
      let half : stmt (2 * s + 1) ≡ s = omega arith in
      k (rows rb + rb.width) (omega arith) (2 * s + 1) (omega arith) (force_last rb D (2 * s + 1) (rows rb + rb.width) (omega arith)
      ∙ unf_from_set rb D (2 * s + 1) (eq-eqb _ _ (omega arith)) U w unf (ap U half ∙ us));
}

pub five_kept : (rb : Book) (D : ℕ → Bool) → Kept rb D → forcing.Kept (book_forces rb) D
five_kept rb D d k lk e le x = elim (which (rows rb) rb.width k) [
  | inl l ↦ by_row k l (row_to (row rb k) D e (sym (force_row rb D e k l) ∙ x))
  | inr y ↦ elim y [
    | inl s ↦ by_statement s.0 s.2 (stated_to rb s.0 D e (sym (force_statement rb D e s.0 s.2) ∙ subst (λ j. (book_forces rb).force j D e ≡ true) s.1 x))
    | inr l ↦ (let u = sym (force_last rb D e k l) ∙ x in
        let n = eqb-true _ _ (and_parts (negated e) _ u).0 in let odd : 2 * stmt e + 1 ≡ e = omega arith in
        (unf_to_all rb D e u (D e) (λ U w f h. move D _ _ odd (d.unfounded_fails U w f (stmt e) h))).1)
  ]
]
  where
    by_row : (i : ℕ) → i < rows rb → Row (row rb i) D e → D e ≡ true
    by_row i l (inl (h, hd, q, all)) = move D _ _ (sym q) (d.forward i h l hd all)
    by_row i l (inr (f, hf, m, q, others)) = move D _ _ (sym q) (d.contraposition i f l hf m others)

    by_statement : (s : ℕ) → s < rb.width → Stated rb s D e → D e ≡ true
    by_statement s l (inl (q, all)) = move D _ _ (sym q) (d.all_cancelled s l all)
    by_statement s l (inr (i, ds, li, hd, others, m)) = d.backchain i s li hd ds others e m

-- PLANS
pub whole_bytes : (n : ℕ) (P : List ℕ) → Whole n P → Total n (holds P)
whole_bytes n P pp = record {
  within = holds_within n P (whole_long n P pp);
  total = λ e l. elim (cases_Bool (holds P (contrary e))) [ inl q ↦ inr q | inr q ↦ inl (either n P pp e l q) ];
  consistent = λ e a b. holds_once P e a b;
}

pub empties_to : (r : Rule) → empties r ≡ true → (r.head ≡ none) × (r.body ≡ [])
empties_to r x = go r.head refl x
  where
    go : (o : Option ℕ) → r.head ≡ o → on_head o (eqb (length r.body) 0) (λ h. false) ≡ true → (r.head ≡ none) × (r.body ≡ [])
    go none q a = (q, nil_from_length _ (eqb-true _ _ a))
    go (some h) q a = absurd (both_ways _ refl a)

pub empties_from : (r : Rule) → r.head ≡ none → r.body ≡ [] → empties r ≡ true
empties_from r hd nil = subst (λ o. on_head o (eqb (length r.body) 0) (λ h. false) ≡ true) (sym hd) (eq-eqb _ _ (ap length nil))

pub book_based : (rb : Book) → Sound rb → Based (book_forces rb) (λ p. BookPlan rb p)
book_based rb sound = record {
  shaped = λ x p. p.whole;
  kept_by = λ x p. five_kept rb (holds x) (plans_are_kept rb sound (holds x) (whole_bytes rb.width x p.whole) p.plan);
  free = λ x p k l. false_from_ne_true ((book_forces rb).bar k (holds x)) (λ b. elim (which (rows rb) rb.width k) [
    | inl lk ↦ (let t = empties_to (row rb k) (sym (bar_row rb (holds x) k lk) ∙ b) in
        p.plan.allowed k lk t.0 (λ e m. absurd (subst (In e) t.1 m)) (λ e m. absurd (subst (In e) t.1 m)))
    | inr y ↦ elim y [
      | inl s ↦ (let u = and_parts (holds x (2 * s.0)) (holds x (2 * s.0 + 1)) (sym (bar_statement rb (holds x) s.0 s.2) ∙ subst (λ j. (book_forces rb).bar j (holds x) ≡ true) s.1 b) in
          let c : contrary (2 * s.0) ≡ 2 * s.0 + 1 = omega arith in holds_once x (2 * s.0) u.0 (move (holds x) _ _ (sym c) u.1))
      | inr lk ↦ both_ways _ (bar_last rb (holds x) k lk) b
    ]
  ]);
  wholes = λ x pp k free. record {
    whole = pp;
    plan = kept_are_plans rb sound (holds x) (whole_bytes rb.width x pp) (kept_five rb sound (holds x) k)
        (λ b. both_ways _ (free b.0 (let l = b.1 in omega arith)) (bar_row rb (holds x) b.0 b.1 ∙ empties_from (row rb b.0) b.2 b.3));
  };
}
