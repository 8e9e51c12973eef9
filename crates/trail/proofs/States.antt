-- The agenda that the marks and choices stand for, under an extension, a split and a step back.
use Rattle.std.proofs.Common.{◌≡◌, ℕ, zero, suc, ◌<◌, ◌≤◌, cond, ltb, min, ◌≢◌, ◌⊎◌, List, [], ◌∷◌, length, get_or, set, sym, refl, ap, ◌∙◌, subst, inl, inr, ⊎_elim, arith}
use Rattle.std.proofs.lemmas.List.{ext_get_or, get_or-set_same, get_or-set_other, length-set}
use Rattle.std.proofs.lemmas.Bool.{cases_eq, cases_lt, cond-true, cond-false, lt-ltb, le-ltb}
use Rattle.source.specs.Plans.{Partial, Agrees}
use Rattle.first.specs.Tree.{lowest, unset, with}
use Rattle.first.specs.Agenda.{Low}
use Rattle.trail.specs.Walks.{keep_b, keep_m, note_m, note_one, waits, Marked, Walk}
use Rattle.first.proofs.Zeros.{low_zero, low_within, unset_with, unset_less}
use Rattle.first.proofs.Firsts.{partial_with}

-- a byte over 0 is not 0
pub decided : (n : ℕ) → 0 < n → n ≡ 0 → ⊥
decided n h z = omega arith

pub keep_b_long : (d : ℕ) (ms bs : List ℕ) → length bs ≤ length ms → length (keep_b d ms bs) ≡ length bs
keep_b_long d ms [] e = refl
keep_b_long d [] (b ∷ bs) e = let z : ⊥ = omega arith in absurd z
keep_b_long d (m ∷ ms) (b ∷ bs) e = ap suc (keep_b_long d ms bs (omega arith))

pub keep_b_at : (d : ℕ) (ms bs : List ℕ) (k : ℕ) → length bs ≤ length ms → k < length bs → get_or (keep_b d ms bs) k 0 ≡ cond (ltb d (get_or ms k 0)) 0 (get_or bs k 0)
keep_b_at d ms [] k e h = let z : ⊥ = omega arith in absurd z
keep_b_at d [] (b ∷ bs) k e h = let z : ⊥ = omega arith in absurd z
keep_b_at d (m ∷ ms) (b ∷ bs) zero e h = refl
keep_b_at d (m ∷ ms) (b ∷ bs) (suc k) e h = keep_b_at d ms bs k (omega arith) (omega arith)

keep_b_in : (d : ℕ) (ms bs : List ℕ) (k : ℕ) → length bs ≤ length ms → k < length bs → get_or ms k 0 ≤ d → get_or (keep_b d ms bs) k 0 ≡ get_or bs k 0
keep_b_in d ms bs k e h le = keep_b_at d ms bs k e h ∙ cond-false _ _ _ (le-ltb d (get_or ms k 0) le)

keep_b_out : (d : ℕ) (ms bs : List ℕ) (k : ℕ) → length bs ≤ length ms → k < length bs → d < get_or ms k 0 → get_or (keep_b d ms bs) k 0 ≡ 0
keep_b_out d ms bs k e h lt = keep_b_at d ms bs k e h ∙ cond-true _ _ _ (lt-ltb d (get_or ms k 0) lt)

pub keep_m_long : (d : ℕ) (bs ms : List ℕ) → length (keep_m d bs ms) ≡ length ms
keep_m_long d bs [] = refl
keep_m_long d [] (m ∷ ms) = refl
keep_m_long d (b ∷ bs) (m ∷ ms) = ap suc (keep_m_long d bs ms)

pub keep_m_at : (d : ℕ) (bs ms : List ℕ) (k : ℕ) → length bs ≤ length ms → k < length bs → get_or (keep_m d bs ms) k 0 ≡ min (get_or ms k 0) d
keep_m_at d [] ms k e h = let z : ⊥ = omega arith in absurd z
keep_m_at d (b ∷ bs) [] k e h = let z : ⊥ = omega arith in absurd z
keep_m_at d (b ∷ bs) (m ∷ ms) zero e h = refl
keep_m_at d (b ∷ bs) (m ∷ ms) (suc k) e h = keep_m_at d bs ms k (omega arith) (omega arith)

-- what is past the statements stays
pub keep_m_past : (d : ℕ) (bs ms : List ℕ) (k : ℕ) → length bs ≤ k → get_or (keep_m d bs ms) k 0 ≡ get_or ms k 0
keep_m_past d bs [] k h = refl
keep_m_past d [] (m ∷ ms) k h = refl
keep_m_past d (b ∷ bs) (m ∷ ms) zero h = let z : ⊥ = omega arith in absurd z
keep_m_past d (b ∷ bs) (m ∷ ms) (suc k) h = keep_m_past d bs ms k (omega arith)

pub note_m_long : (d : ℕ) (bs ms : List ℕ) → length (note_m d bs ms) ≡ length ms
note_m_long d bs [] = refl
note_m_long d [] (m ∷ ms) = refl
note_m_long d (b ∷ bs) (m ∷ ms) = ap suc (note_m_long d bs ms)

pub note_m_at : (d : ℕ) (bs ms : List ℕ) (k : ℕ) → length bs ≤ length ms → k < length bs → get_or (note_m d bs ms) k 0 ≡ note_one d (get_or bs k 0) (get_or ms k 0)
note_m_at d [] ms k e h = let z : ⊥ = omega arith in absurd z
note_m_at d (b ∷ bs) [] k e h = let z : ⊥ = omega arith in absurd z
note_m_at d (b ∷ bs) (m ∷ ms) zero e h = refl
note_m_at d (b ∷ bs) (m ∷ ms) (suc k) e h = note_m_at d bs ms k (omega arith) (omega arith)

pub note_m_past : (d : ℕ) (bs ms : List ℕ) (k : ℕ) → length bs ≤ k → get_or (note_m d bs ms) k 0 ≡ get_or ms k 0
note_m_past d bs [] k h = refl
note_m_past d [] (m ∷ ms) k h = refl
note_m_past d (b ∷ bs) (m ∷ ms) zero h = let z : ⊥ = omega arith in absurd z
note_m_past d (b ∷ bs) (m ∷ ms) (suc k) h = note_m_past d bs ms k (omega arith)

-- an undecided statement gets d, a decided one keeps its mark
pub note_open : (d b m : ℕ) → b ≡ 0 → note_one d b m ≡ d
note_open d zero m e = refl
note_open d (suc b) m e = let z : ⊥ = omega arith in absurd z

pub note_decided : (d b m : ℕ) → b ≢ 0 → note_one d b m ≡ m
note_decided d zero m n = absurd (n refl)
note_decided d (suc b) m n = refl

-- alike up to d
abbrev Similar : (w d : ℕ) (ms bs ms' bs' : List ℕ) → Type 0
Similar w d ms bs ms' bs' = (k : ℕ) → k < w →
    ((get_or ms k 0 ≡ get_or ms' k 0) × (get_or bs k 0 ≡ get_or bs' k 0)) ⊎ ((d ≤ get_or ms k 0) × (d ≤ get_or ms' k 0))

module _ (w : ℕ) (ms bs ms' bs' : List ℕ) (lm : w ≤ length ms) (lb : length bs ≡ w) (lm' : w ≤ length ms') (lb' : length bs' ≡ w) where
  same_keep : (d : ℕ) → Similar w (suc d) ms bs ms' bs' → keep_b d ms bs ≡ keep_b d ms' bs'
  same_keep d s =
      let e : length bs ≤ length ms = omega arith in
      let e' : length bs' ≤ length ms' = omega arith in
      let l = keep_b_long d ms bs e in
      let l' = keep_b_long d ms' bs' e' in
      ext_get_or 0 (keep_b d ms bs) (keep_b d ms' bs') (l ∙ lb ∙ sym (l' ∙ lb'))
      (λ k h. let kb : k < length bs = omega arith in let kb' : k < length bs' = omega arith in
      ⊎_elim (λ t. keep_b_at d ms bs k e kb ∙ ap (λ m. cond (ltb d m) 0 (get_or bs k 0)) t.0 ∙ ap (λ b. cond (ltb d (get_or ms' k 0)) 0 b) t.1 ∙ sym (keep_b_at d ms' bs' k e' kb'))
      (λ t. keep_b_out d ms bs k e kb (omega (arith, t.0)) ∙ sym (keep_b_out d ms' bs' k e' kb' (omega (arith, t.1))))
      (s k (omega arith)))

  same_waits : (cs cs' : List ℕ) (d : ℕ) → ((i : ℕ) → i < d → get_or cs i 0 ≡ get_or cs' i 0) → Similar w d ms bs ms' bs' → waits d ms cs bs ≡ waits d ms' cs' bs'
  same_waits cs cs' zero c s = refl
  same_waits cs cs' (suc d) c s =
      let a = same_keep d s in
      let b = c d (omega arith) in
      let r = same_waits cs cs' d (λ i h. c i (omega arith))
      (λ k h. ⊎_elim (λ t. inl t) (λ t. inr (omega (arith, t.0), omega (arith, t.1))) (s k h)) in
      cc

pub waits_length : (d : ℕ) (ms cs bs : List ℕ) → length (waits d ms cs bs) ≡ d
waits_length zero ms cs bs = refl
waits_length (suc d) ms cs bs = ap suc (waits_length d ms cs bs)

-- an extension
module _ (w d : ℕ) (ms cs q r : List ℕ) (pr : Partial w r) (ag : Agrees q r) (x : Walk w d ms cs q) where
  -- a statement that was decided below d keeps its byte
  pub extended_waits : waits d ms cs q ≡ waits d ms cs r
  extended_waits = same_waits w ms q ms r x.marks_long x.low.0.0 x.marks_long pr.0 cs cs d (λ i h. refl)
      (λ k h. ⊎_elim (λ z. inr (omega (arith, (x.marked k h).1 z), omega (arith, (x.marked k h).1 z))) (λ n. inl (refl, sym (ag k n))) (cases_eq (get_or q k 0) 0))

  pub extended : Walk w d ms cs r
  extended =
      let ew = extended_waits in
      record {
        marks_long = x.marks_long;
        choices_long = x.choices_long;
        marked = λ k h. ((x.marked k h).0, λ z. (x.marked k h).1 (⊎_elim (λ e. e) (λ n. sym (ag k n) ∙ z) (cases_eq (get_or q k 0) 0)));
        chosen = λ i h. let a = x.chosen i h in (a.0, a.1, omega (arith, a.2, ag (get_or cs i 0) (decided _ a.2)));
        low = (
          pr,
          omega (arith, x.low.1, unset_less q r (pr.0 ∙ sym x.low.0.0) (λ k h. ag k (decided _ h)), ap length ew),
          subst (Low w) ew x.low.2,
        );
      }

-- a split
module _ (w d : ℕ) (ms cs r : List ℕ) (m : ℕ) (u : unset r ≡ suc m) (x : Walk w d ms cs r) where
  split_low : lowest r < w
  split_low = omega (arith, low_within r (omega arith), x.low.0.0)

  split_room : d < w
  split_room = omega (arith, x.low.1, waits_length d ms cs r)

  lr : length r ≡ w
  lr = x.low.0.0

  after_long : w ≤ length (note_m (suc d) r ms)
  after_long = omega (arith, note_m_long (suc d) r ms, x.marks_long)

  noted_at : (k : ℕ) → k < w → get_or (note_m (suc d) r ms) k 0 ≡ note_one (suc d) (get_or r k 0) (get_or ms k 0)
  noted_at k h = note_m_at (suc d) r ms k (omega (arith, x.marks_long, lr)) (omega (arith, lr))

  open_at : (k : ℕ) → k < w → get_or r k 0 ≡ 0 → get_or (note_m (suc d) r ms) k 0 ≡ suc d
  open_at k h z = noted_at k h ∙ note_open (suc d) (get_or r k 0) (get_or ms k 0) z

  decided_at : (k : ℕ) → k < w → get_or r k 0 ≢ 0 → get_or (note_m (suc d) r ms) k 0 ≡ get_or ms k 0
  decided_at k h n = noted_at k h ∙ note_decided (suc d) (get_or r k 0) (get_or ms k 0) n

  bytes_long : length (with r 2) ≡ w
  bytes_long = length-set r (lowest r) 2 ∙ lr

  low_at : (k : ℕ) → k ≡ lowest r → get_or r k 0 ≡ 0
  low_at k y = ap (λ j. get_or r j 0) y ∙ low_zero r

  -- a decided statement is another than the lowest undecided one
  other : (k : ℕ) → get_or r k 0 ≢ 0 → get_or (with r 2) k 0 ≡ get_or r k 0
  other k n = get_or-set_other r (lowest r) k 2 0 (λ y. n (low_at k y))

  kept : keep_b d (note_m (suc d) r ms) (with r 2) ≡ r
  kept =
      let e : length (with r 2) ≤ length (note_m (suc d) r ms) = omega (arith, after_long, bytes_long) in
      let l = keep_b_long d (note_m (suc d) r ms) (with r 2) e in
      ext_get_or 0 (keep_b d (note_m (suc d) r ms) (with r 2)) r (l ∙ bytes_long ∙ sym lr)
      (λ k h. let kb : k < length (with r 2) = omega arith in let kw : k < w = omega (arith, l, bytes_long) in
      ⊎_elim
      (λ z. keep_b_out d (note_m (suc d) r ms) (with r 2) k e kb (omega (arith, open_at k kw z)) ∙ sym z)
      (λ n. keep_b_in d (note_m (suc d) r ms) (with r 2) k e kb (omega (arith, decided_at k kw n, (x.marked k kw).0)) ∙ other k n)
      (cases_eq (get_or r k 0) 0))

  choice_here : get_or (set cs d (lowest r)) d 0 ≡ lowest r
  choice_here = get_or-set_same cs d (lowest r) 0 (omega (arith, x.choices_long, split_room))

  rest : waits d (note_m (suc d) r ms) (set cs d (lowest r)) (with r 2) ≡ waits d ms cs r
  rest = same_waits w (note_m (suc d) r ms) (with r 2) ms r after_long bytes_long x.marks_long lr (set cs d (lowest r)) cs d
      (λ i h. get_or-set_other cs d i (lowest r) 0 (omega arith))
      (λ k h. ⊎_elim
      (λ z. inr (omega (arith, open_at k h z), omega (arith, (x.marked k h).1 z)))
      (λ n. inl (decided_at k h n, other k n))
      (cases_eq (get_or r k 0) 0))

  pub split_waits : waits (suc d) (note_m (suc d) r ms) (set cs d (lowest r)) (with r 2) ≡ with r 1 ∷ waits d ms cs r
  split_waits = let a = kept in let b = choice_here in let c = rest in cc

  split_marked : (k : ℕ) → k < w → Marked (suc d) (get_or (note_m (suc d) r ms) k 0) (get_or (with r 2) k 0)
  split_marked k h = ⊎_elim
      (λ z. (omega (arith, open_at k h z), λ _. open_at k h z))
      (λ n. (omega (arith, decided_at k h n, (x.marked k h).0), λ z. absurd (n (sym (other k n) ∙ z))))
      (cases_eq (get_or r k 0) 0)

  split_chosen : (i : ℕ) (s : ℕ) → get_or cs i 0 ≡ s → i < d → (s < w) × (get_or (note_m (suc d) r ms) s 0 ≡ suc i) × (0 < get_or (with r 2) s 0)
  split_chosen i s e h =
      let a = subst (λ y. (y < w) × (get_or ms y 0 ≡ suc i) × (0 < get_or r y 0)) e (x.chosen i h) in
      let n = decided (get_or r s 0) a.2 in
      (a.0, decided_at s a.0 n ∙ a.1, omega (arith, other s n, a.2))

  pub split_walk : Walk w (suc d) (note_m (suc d) r ms) (set cs d (lowest r)) (with r 2)
  split_walk = record {
    marks_long = after_long;
    choices_long = omega (arith, length-set cs d (lowest r), x.choices_long);
    marked = split_marked;
    chosen = λ i h. ⊎_elim
        (λ y. subst (λ s. (s < w) × (get_or (note_m (suc d) r ms) s 0 ≡ suc i) × (0 < get_or (with r 2) s 0))
        (sym (ap (λ j. get_or (set cs d (lowest r)) j 0) y ∙ choice_here))
        (split_low, open_at (lowest r) split_low (low_zero r) ∙ ap suc (sym y), omega (arith, get_or-set_same r (lowest r) 2 0 (omega (arith, lr, split_low)))))
        (λ ne. split_chosen i (get_or (set cs d (lowest r)) i 0) (sym (get_or-set_other cs d i (lowest r) 0 ne)) (omega arith))
        (cases_eq i d);
    low = (
      partial_with r 2 (omega arith) (omega arith) x.low.0,
      omega (arith, unset_with r 1 m u, x.low.1, waits_length d ms cs r, waits_length (suc d) (note_m (suc d) r ms) (set cs d (lowest r)) (with r 2)),
      subst (Low w) (sym split_waits) (
        partial_with r 1 (omega arith) (omega arith) x.low.0,
        omega (arith, unset_with r 0 m u, x.low.1),
        x.low.2,
      ),
    );
  }

-- a step back
module _ (w d : ℕ) (ms cs r : List ℕ) (x : Walk w (suc d) ms cs r) where
  here : (get_or cs d 0 < w) × (get_or ms (get_or cs d 0) 0 ≡ suc d) × (0 < get_or r (get_or cs d 0) 0)
  here = x.chosen d (omega arith)

  short : length r ≤ length ms
  short = omega (arith, x.marks_long, x.low.0.0)

  in_r : (k : ℕ) → k < w → k < length r
  in_r k h = omega (arith, x.low.0.0)

  kb_long : length (keep_b d ms r) ≡ w
  kb_long = keep_b_long d ms r short ∙ x.low.0.0

  km_long : w ≤ length (keep_m d r ms)
  km_long = omega (arith, keep_m_long d r ms, x.marks_long)

  km_at : (k : ℕ) → k < w → get_or (keep_m d r ms) k 0 ≡ min (get_or ms k 0) d
  km_at k h = keep_m_at d r ms k short (in_r k h)

  byte_other : (k : ℕ) → k ≢ get_or cs d 0 → get_or (set (keep_b d ms r) (get_or cs d 0) 1) k 0 ≡ get_or (keep_b d ms r) k 0
  byte_other k ne = get_or-set_other (keep_b d ms r) (get_or cs d 0) k 1 0 ne

  byte_in : (k : ℕ) → k < w → k ≢ get_or cs d 0 → get_or ms k 0 ≤ d → get_or (set (keep_b d ms r) (get_or cs d 0) 1) k 0 ≡ get_or r k 0
  byte_in k h ne le = byte_other k ne ∙ keep_b_in d ms r k short (in_r k h) le

  mark_here : (k : ℕ) → k ≡ get_or cs d 0 → get_or ms k 0 ≡ suc d
  mark_here k y = ap (λ j. get_or ms j 0) y ∙ here.1

  pub back_waits : waits d ms cs r ≡ waits d (keep_m d r ms) cs (set (keep_b d ms r) (get_or cs d 0) 1)
  back_waits = same_waits w ms r (keep_m d r ms) (set (keep_b d ms r) (get_or cs d 0) 1)
      x.marks_long x.low.0.0 km_long (length-set (keep_b d ms r) (get_or cs d 0) 1 ∙ kb_long)
      cs cs d (λ i h. refl)
      (λ k h. ⊎_elim
      (λ y. inr (omega (arith, mark_here k y), omega (arith, mark_here k y, km_at k h)))
      (λ ne. ⊎_elim
      (λ lt. inr (omega arith, omega (arith, km_at k h)))
      (λ le. inl (omega (arith, km_at k h), sym (byte_in k h ne le)))
      (cases_lt d (get_or ms k 0)))
      (cases_eq k (get_or cs d 0)))

  back_marked : (k : ℕ) → k < w → Marked d (get_or (keep_m d r ms) k 0) (get_or (set (keep_b d ms r) (get_or cs d 0) 1) k 0)
  back_marked k h = ⊎_elim
      (λ y. (omega (arith, km_at k h), λ _. omega (arith, mark_here k y, km_at k h)))
      (λ ne. ⊎_elim
      (λ lt. (omega (arith, km_at k h), λ _. omega (arith, km_at k h)))
      (λ le. (omega (arith, km_at k h), λ z. let t : ⊥ = omega (arith, (x.marked k h).1 (sym (byte_in k h ne le) ∙ z)) in absurd t))
      (cases_lt d (get_or ms k 0)))
      (cases_eq k (get_or cs d 0))

  pub back_walk : Walk w d (keep_m d r ms) cs (set (keep_b d ms r) (get_or cs d 0) 1)
  back_walk = record {
    marks_long = km_long;
    choices_long = x.choices_long;
    marked = back_marked;
    chosen = λ i h.
        let a = x.chosen i (omega arith) in
        let ne : get_or cs i 0 ≢ get_or cs d 0 = (λ y. let z : ⊥ = omega (arith, mark_here (get_or cs i 0) y, a.1) in z) in
        (a.0, omega (arith, km_at (get_or cs i 0) a.0, a.1), omega (arith, byte_in (get_or cs i 0) a.0 ne (omega (arith, a.1)), a.2));
    low = (
      x.low.2.0,
      omega (arith, x.low.2.1, ap length back_waits),
      subst (Low w) back_waits x.low.2.2,
    );
  }
