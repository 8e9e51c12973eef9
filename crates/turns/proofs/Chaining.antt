-- Chains of rows: one row more, and a walk down a chain.
use Rattle.std.proofs.Common.{◌≡◌, ℕ, zero, suc, ◌+◌, ◌<◌, ◌≤◌, cond, eqb, true, false, ◌≢◌, List, length, get_or, set, replicate, Option, Some, None, sym, refl, ap, ◌∙◌, subst, inl, inr, arith, add-one}
use Rattle.std.proofs.lemmas.Bool.{cases_eq, cases_lt, ne_eqb, eq-eqb}
use Rattle.std.specs.Option.{option_map_or, is_some}
use Rattle.closing.specs.declared.Few.TheVariants.{Nothing, Only, Several}
use Rattle.std.proofs.lemmas.List.{get_or-set_same, get_or-set_other, get_or-replicate, get_or_past, length-set, length-replicate}
use Rattle.rulebook.specs.declared.row.RuleRow.{RuleRow}
use Rattle.rulebook.specs.Rows.{blank}
use Rattle.turns.proofs.Steps.{has_head, no_head}
use Rattle.turns.specs.Chain.{head_at, newest_row, Links, Chained, Walked}
use Rattle.turns.specs.Table.{Hit, Supports, SupportIs, body_of}

module _ (rs : List RuleRow) (s n : ℕ) where
  same_head : head_at rs n ≡ s → newest_row rs s (n + 1) ≡ Some n
  same_head e = rw add-one (ap (λ b. cond b (Some n) (newest_row rs s n)) (eq-eqb _ _ e))

  other_head : head_at rs n ≢ s → newest_row rs s (n + 1) ≡ newest_row rs s n
  other_head e = rw add-one (ap (λ b. cond b (Some n) (newest_row rs s n)) (ne_eqb _ _ e))

module _ (rs : List RuleRow) (n : ℕ) (ns os : List (Option ℕ)) (c : Chained rs n ns os) where
  -- a row with a head
  pub chain_more : (h : ℕ) → head_at rs n ≡ h → h < length ns → n < length os → Chained rs (n + 1) (set ns h (Some n)) (set os n (get_or ns h None))
  chain_more h hd lh lo = record {
    tops = λ s l. elim (cases_eq s h) [
      | inl e ↦ subst (λ z. get_or (set ns h (Some n)) z None ≡ newest_row rs z (n + 1)) (sym e) (get_or-set_same ns h (Some n) None lh ∙ sym (same_head rs h n hd))
      | inr e ↦ get_or-set_other ns h s (Some n) None e ∙ c.tops s (let x = length-set ns h (Some n) in omega arith) ∙ sym (other_head rs s n (λ q. e (sym q ∙ hd)))
    ];
    links = λ i l li. let li' : head_at rs i < length ns = (let x = length-set ns h (Some n) in omega arith) in elim (cases_eq i n) [
      | inl e ↦ subst (λ z. get_or (set os n (get_or ns h None)) z None ≡ newest_row rs (head_at rs z) z) (sym e)
          (get_or-set_same os n (get_or ns h None) None lo ∙ c.tops h lh ∙ ap (λ z. newest_row rs z n) (sym hd))
      | inr e ↦ get_or-set_other os n i (get_or ns h None) None e ∙ c.links i (omega arith) li'
    ];
    ends = λ i l li. let x = length-set ns h (Some n) in let ne : i ≢ n = (λ q. let y = ap (head_at rs) q in omega arith) in
        get_or-set_other os n i (get_or ns h None) None ne ∙ c.ends i (omega arith) (omega arith);
  }

  -- a row without
  pub chain_skip : length ns ≤ head_at rs n → get_or os n None ≡ None → Chained rs (n + 1) ns os
  chain_skip past free = record {
    tops = λ s l. c.tops s l ∙ sym (other_head rs s n (λ q. omega arith));
    links = λ i l li. c.links i (let ne : i ≢ n = (λ q. let x = ap (head_at rs) q in omega arith) in omega arith) li;
    ends = λ i l li. elim (cases_eq i n) [ inl e ↦ ap (λ z. get_or os z None) e ∙ free | inr e ↦ c.ends i (omega arith) li ];
  }

pub chain_none : (rs : List RuleRow) (ns os : List (Option ℕ)) → ((s : ℕ) → s < length ns → get_or ns s None ≡ None) → Chained rs 0 ns os
chain_none rs ns os z = record { tops = z; links = λ i l li. absurd (omega arith); ends = λ i l li. absurd (omega arith) }

pub none_at : (n k : ℕ) → ◌≡◌ {A = Option ℕ} (get_or (replicate n None) k None) None
none_at n k = elim (cases_lt k n) [
  | inl a ↦ get_or-replicate n k None None a
  | inr b ↦ get_or_past (replicate n None) k None (rw length-replicate b)
]

-- the chains of the rows below n, as the loop over the rows keeps them: nothing is written for the others
pub record ChainedTo (rs : List RuleRow) (n : ℕ) (ns os : List (Option ℕ)) : Type 0 where
  pub heads : length ns ≡ 512
  pub rows : length os ≡ 2048
  pub chained : Chained rs n ns os
  pub free : (k : ℕ) → n ≤ k → get_or os k None ≡ None

module _ (rs : List RuleRow) (n : ℕ) (ns os : List (Option ℕ)) (c : ChainedTo rs n ns os) where
  pub chain_head : (w s : ℕ) (ns' os' : List (Option ℕ)) → n < 2048 → s < w → w ≤ 512 → Some s ≡ cond (eqb (head_at rs n) 65535) None (Some (head_at rs n)) →
      ns' ≡ set ns s (Some n) → os' ≡ set os n (get_or ns s None) → ChainedTo rs (n + 1) ns' os'
  chain_head w s ns' os' ln ls lw h e f = record {
    heads = ap length e ∙ length-set ns s (Some n) ∙ c.heads;
    rows = ap length f ∙ length-set os n (get_or ns s None) ∙ c.rows;
    chained = subst (λ z. Chained rs (n + 1) z os') (sym e) (subst (Chained rs (n + 1) (set ns s (Some n))) (sym f)
        (chain_more rs n ns os c.chained s (has_head (head_at rs n) s h).1 (let x = c.heads in omega arith) (let x = c.rows in omega arith)));
    free = λ k l. ap (λ z. get_or z k None) f ∙ get_or-set_other os n k (get_or ns s None) None (λ q. absurd (omega arith)) ∙ c.free k (omega arith);
  }

  pub chain_headless : None ≡ cond (eqb (head_at rs n) 65535) None (Some (head_at rs n)) → ChainedTo rs (n + 1) ns os
  chain_headless h = record {
    heads = c.heads;
    rows = c.rows;
    chained = chain_skip rs n ns os c.chained (let x = c.heads in let y = no_head (head_at rs n) h in omega arith) (c.free n (omega arith));
    free = λ k l. c.free k (omega arith);
  }

-- what a chain's place says of the rows
newest_some : (rs : List RuleRow) (s n i : ℕ) → newest_row rs s n ≡ Some i → (i < n) × (head_at rs i ≡ s) × ((k : ℕ) → i < k → k < n → head_at rs k ≢ s)
newest_some rs s zero i e = absurd (cc)
newest_some rs s (suc n) i e = elim (cases_eq (head_at rs n) s) [
  | inl q ↦ (let x = ap (λ b. cond b (Some n) (newest_row rs s n)) (eq-eqb _ _ q) in let y : n ≡ i = cc in
      (omega arith, ap (head_at rs) (sym y) ∙ q, λ k l m. absurd (omega arith)))
  | inr q ↦ (let x = ap (λ b. cond b (Some n) (newest_row rs s n)) (ne_eqb _ _ q) in let r = newest_some rs s n i (sym x ∙ e) in let l = r.0 in (
    omega arith,
    r.1,
    λ k lk m. elim (cases_eq k n) [
      | inl z ↦ (λ w. q (ap (head_at rs) (sym z) ∙ w))
      | inr z ↦ r.2 k lk (omega arith)
    ],
  ))
]

newest_none : (rs : List RuleRow) (s n : ℕ) → newest_row rs s n ≡ None → (k : ℕ) → k < n → head_at rs k ≢ s
newest_none rs s zero e k l = absurd (omega arith)
newest_none rs s (suc n) e k l = elim (cases_eq (head_at rs n) s) [
  | inl q ↦ (let x = ap (λ b. cond b (Some n) (newest_row rs s n)) (eq-eqb _ _ q) in absurd (cc))
  | inr q ↦ (let x = ap (λ b. cond b (Some n) (newest_row rs s n)) (ne_eqb _ _ q) in elim (cases_eq k n) [
    | inl z ↦ (λ w. q (ap (head_at rs) (sym z) ∙ w))
    | inr z ↦ newest_none rs s n (sym x ∙ e) k (omega arith)
  ])
]

-- from each row a chain leads to an earlier row with the same head, or ends
pub chain_down : (rs : List RuleRow) (n : ℕ) (ns os : List (Option ℕ)) → Chained rs n ns os → (i j : ℕ) → i < n → get_or os i None ≡ Some j → (j < i) × (head_at rs j ≡ head_at rs i)
chain_down rs n ns os c i j l e = elim (cases_lt (head_at rs i) (length ns)) [
  | inl a ↦ (let w = newest_some rs (head_at rs i) i j (sym (c.links i l a) ∙ e) in (w.0, w.1))
  | inr b ↦ (let z = sym (c.ends i l b) ∙ e in absurd (cc))
]

pub some_of : (o : Option ℕ) → is_some o ≡ true → (j : ℕ) × (o ≡ Some j)
some_of None e = absurd (cc)
some_of (Some j) e = (j, refl)

pub none_of : (o : Option ℕ) → is_some o ≡ false → o ≡ None
none_of None e = refl
none_of (Some j) e = absurd (cc)

-- a walk down the chain of s
module _ (p : List ℕ) (rs : List RuleRow) (es : List ℕ) (s : ℕ) where
  pub walk_start : (next : Option ℕ) → next ≡ newest_row rs s (length rs) → Walked p rs es s next None
  walk_start next e = record {
    n = length rs;
    here = omega arith;
    left = e;
    seen = λ k l m ne. absurd (omega arith);
    found = λ k e. absurd (cc);
  }

  pub walk_end : (here only : Option ℕ) → here ≡ None → Walked p rs es s here only → SupportIs p rs es s (option_map_or Only only Nothing)
  walk_end here None is w = λ k l. elim (cases_lt k w.n) [
    | inl a ↦ (λ h. absurd (newest_none rs s w.n (sym w.left ∙ is) k a h))
    | inr a ↦ w.seen k l a (λ q. cc)
  ]
  walk_end here (Some j) is w = let f = w.found j refl in (
    f.0,
    f.2,
    λ k l ne. elim (cases_lt k w.n) [
      | inl a ↦ (λ h. absurd (newest_none rs s w.n (sym w.left ∙ is) k a h))
      | inr a ↦ w.seen k l a (λ q. ne (let z : k ≡ j = cc in z))
    ],
  )

  module _ (i : ℕ) (here only : Option ℕ) (is : here ≡ Some i) (w : Walked p rs es s here only) where
    at : (i < w.n) × (head_at rs i ≡ s) × ((k : ℕ) → i < k → k < w.n → head_at rs k ≢ s)
    at = newest_some rs s w.n i (sym w.left ∙ is)

    pub walk_in : i < length rs
    walk_in = let a = at.0 in let b = w.here in omega arith

    pub walk_head : head_at rs i ≡ s
    walk_head = at.1

    -- the rows above i
    above : (k : ℕ) → k < length rs → i < k → only ≢ Some k → Supports p (get_or rs k blank) es s false
    above k l m ne = elim (cases_lt k w.n) [
      | inl a ↦ (λ h. absurd (at.2 k m a h))
      | inr a ↦ w.seen k l a ne
    ]

    pub walk_cancelled : (next : Option ℕ) → next ≡ newest_row rs s i → Hit p (body_of es (get_or rs i blank)) true → Walked p rs es s next only
    walk_cancelled next e h = record {
      n = i;
      here = (let a = walk_in in omega arith);
      left = e;
      seen = λ k l m ne. elim (cases_eq k i) [
        | inl q ↦ subst (λ z. Supports p (get_or rs z blank) es s false) (sym q) (λ _. h)
        | inr q ↦ above k l (omega arith) ne
      ];
      found = λ k q. let f = w.found k q in let a = at.0 in let b = f.1 in (f.0, omega arith, f.2);
    }

    pub walk_only : (next : Option ℕ) → next ≡ newest_row rs s i → only ≡ None → Hit p (body_of es (get_or rs i blank)) false → Walked p rs es s next (Some i)
    walk_only next e first h = record {
      n = i;
      here = (let a = walk_in in omega arith);
      left = e;
      seen = λ k l m ne. above k l (let d : k ≢ i = (λ q. ne (ap Some (sym q))) in omega arith) (λ q. cc);
      found = λ k q. let z : i ≡ k = cc in subst (λ x. (x < length rs) × (i ≤ x) × Supports p (get_or rs x blank) es s true) z (walk_in, omega arith, (walk_head, h));
    }

    pub walk_several : (j : ℕ) → only ≡ Some j → Hit p (body_of es (get_or rs i blank)) false → SupportIs p rs es s Several
    walk_several j q h = let f = w.found j q in let a = at.0 in let b = f.1 in (i, j, walk_in, f.0, (λ z. absurd (omega arith)), (walk_head, h), f.2)

    -- the next row of the chain
    pub walk_next : (os : List (Option ℕ)) → Links rs (length rs) 512 os → s < 512 → get_or os i None ≡ newest_row rs s i
    walk_next os l ls = l i walk_in (let h = walk_head in omega arith) ∙ ap (λ z. newest_row rs z i) walk_head

    pub walk_down : (next : Option ℕ) → next ≡ newest_row rs s i → option_map_or (λ k. k + 1) next 0 < option_map_or (λ k. k + 1) here 0
    walk_down next e = rw is (below next e)
      where
        below : (o : Option ℕ) → o ≡ newest_row rs s i → option_map_or (λ k. k + 1) o 0 < i + 1
        below None q = omega arith
        below (Some k) q = let l = (newest_some rs s i k (sym q)).0 in omega arith
