-- Marking founded statements.
use Rattle.std.proofs.Common.{◌≡◌, ℕ, zero, suc, ◌+◌, ◌/◌, ◌%◌, ◌<◌, ◌≤◌, Bool, true, false, not, cond, Result, ◌&&◌, ◌||◌, eqb, ltb, ◌≢◌, ◌⊎◌, List, length, get_or, take, drop, set, replicate, Some, None, sym, refl, ap, ◌∙◌, subst, inl, inr, arith, below_more}
use Rattle.std.proofs.Math.Option.{some}
use Rattle.std.specs.List.{Contains}
use Rattle.std.proofs.lemmas.Bool.{eqb-false, cases_Bool, cases_eq, both_ways, cases_lt, ne_eqb, and_parts, and_from, and_left, lt-ltb, le-ltb, not-true}
use Rattle.std.proofs.lemmas.List.{get_or-set_other, length-map, get_or-map}
use Rattle.std.proofs.lemmas.List.Sums.{sum_by-set}
use Rattle.closing.specs.Sets.{contrary, In, holds, Codes, Under, in_to, in_from, part_codes}
use Rattle.stable.specs.Books.{stmt, negated, Rule, Cancelled, Unfounded, no_rule}
use Rattle.turns.specs.Table.{marked, unmarked, rule_at, body_of, BodyFounded, Never, RowDone, MarkTurn, MarkedTo, MarkPass, TableOk, LawTurn, AllOf, FailAt, UnfoundedFail}
use Rattle.turns.specs.Meaning.{rule_of, book_of, head_of}
use Rattle.rulebook.specs.Rows.{blank}
use Rattle.closing.specs.declared.Clash.{Clash}
use Rattle.turns.proofs.Loops.{turn_by}
use Rattle.rulebook.specs.declared.row.RuleRow.{RuleRow}
use Rattle.turns.proofs.Steps.{head_some, head_none, some_same, rule_of_lem, has_head}

Support : (ℕ → Bool) → (ℕ → Bool) → Rule → Type 0
Support D U r = Cancelled D r ⊎ ((e : ℕ) × In e r.body × (negated e ≡ false) × (U (stmt e) ≡ true))

plain_of : (e : ℕ) → negated e ≡ false → e % 2 ≡ 0
plain_of e h = let k = eqb-false (e % 2) 1 h in omega arith

unmarked_set : (m : List Bool) (s : ℕ) → s < length m → marked m s ≡ false → unmarked (set m s true) < unmarked m
unmarked_set m s l z = let e = sum_by-set (λ x. cond (not x) 1 0) m s true false l in let g : ◌≡◌ {A = ℕ} (cond (not (get_or m s false)) 1 0) 1 = ap (λ b. cond (not b) 1 0) z in omega (arith, e, g)

module _ (p : List ℕ) (m : List Bool) (rs : List RuleRow) (es : List ℕ) (r : RuleRow) (at : Contains rs r) where
  pub mark_row : (h : ℕ) → Some h ≡ cond (eqb r.head 65535) None (Some r.head) → h < length m → marked m h ≡ false → BodyFounded p m (body_of es r) true →
      (unmarked (set m h true) < unmarked m) × (Never (book_of (length p) rs es) (holds p) m → Never (book_of (length p) rs es) (holds p) (set m h true))
  unfolding Support
  mark_row h hd lm z ok = (unmarked_set m h lm z, never)
    where
      b : List ℕ
      b = body_of es r

      rule_is : rule_at rs es at.0 ≡ rule_of es r
      rule_is = rule_of_lem rs es at.0 r at.1 ∙ ap (rule_of es) at.2

      head_is : (rule_at rs es at.0).head ≡ some h
      head_is = let k = has_head r.head h hd in ap (λ z. z.head) rule_is ∙ head_some r.head k.0 ∙ ap some k.1

      out : (U : ℕ → Bool) → ((s : ℕ) → marked m s ≡ true → U s ≡ false) → Support (holds p) U (rule_of es r) → ⊥
      out U nv (inl c) = let k = in_to b c.0 c.1 in
          both_ways _ (subst (λ e. holds p (contrary e) ≡ false) k.2 (ok k.0 k.1).0) c.2
      out U nv (inr c) = let k = in_to b c.0 c.1 in
          both_ways _ (nv (stmt c.0) (subst (λ e. e % 2 ≡ 0 → marked m (e / 2) ≡ true) k.2 (ok k.0 k.1).1 (plain_of c.0 c.2))) c.3

      never : Never (book_of (length p) rs es) (holds p) m → Never (book_of (length p) rs es) (holds p) (set m h true)
      never nv U w unf s nz = elim (cases_eq s h) [
        | inr q ↦ nv U w unf s (sym (get_or-set_other m h s true false q) ∙ nz)
        | inl q ↦ elim (cases_Bool (U h)) [
          | inr f ↦ ap U q ∙ f
          | inl t ↦ absurd (out U (nv U w unf) (subst (Support (holds p) U) rule_is
              (unf at.0 h (let y = length-map rs (rule_of es) in let l = at.1 in omega arith) head_is t)))
        ]
      ]

-- one row more
module _ (p : List ℕ) (m : List Bool) (rs : List RuleRow) (es : List ℕ) (i : ℕ) where
  pub marked_more : (q q' : List Bool) (f b : Bool) → MarkedTo p rs es m i q f → MarkTurn p rs es (get_or rs i blank) q q' b → MarkedTo p rs es m (i + 1) q' (f || b)
  marked_more q q' true true u t = let l = t.0 in omega arith
  marked_more q q' false true u t = subst (λ z. unmarked q' < unmarked z) u.0 t.0
  marked_more q q' true false u t = subst (λ z. unmarked z < unmarked m) (sym t.0) u
  marked_more q q' false false u t = (t.0 ∙ u.0, below_more (λ k. RowDone p m (get_or rs k blank) es) i u.1 (subst (λ z. RowDone p z (get_or rs i blank) es) u.0 t.1))

  pub never_more : (r : RuleRow) (q q' : List Bool) (b : Bool) → Never (book_of (length p) rs es) (holds p) q → MarkTurn p rs es r q q' b → Never (book_of (length p) rs es) (holds p) q'
  never_more r q q' true n t = t.1 n
  never_more r q q' false n t = subst (Never (book_of (length p) rs es) (holds p)) (sym t.0) n

  pub marked_all : (q : List Bool) (f : Bool) → length rs ≤ i → Never (book_of (length p) rs es) (holds p) q → MarkedTo p rs es m i q f → MarkPass p rs es m q f
  marked_all q true l nv u = (u, nv)
  marked_all q false l nv u = (u.0, λ k lk. u.1 k (omega arith))

-- what is not marked when every row is done is an unfounded set
rest : ℕ → List Bool → ℕ → Bool
rest n m s = ltb s n && not (marked m s)

pub head_of_lem : (h g : ℕ) → head_of h ≡ some g → (h ≢ 65535) × (h ≡ g)
head_of_lem h g e = go (cases_eq h 65535)
  where
    go : (h ≡ 65535) ⊎ (h ≢ 65535) → (h ≢ 65535) × (h ≡ g)
    go (inl q) = let x = sym (head_none h q) ∙ e in let z : ◌≡◌ {A = ℕ} 0 1 = cc in absurd (omega arith)
    go (inr q) = (q, some_same h g (sym (head_some h q) ∙ e))

module _ (p : List ℕ) (m : List Bool) (rs : List RuleRow) (es : List ℕ) (wide : length m ≡ length p) (ok : TableOk (length p) rs es)
    (done : (k : ℕ) → k < length rs → RowDone p m (get_or rs k blank) es) where
  rest_unfounded : (C : ℕ → Bool) → Under C p → Unfounded (book_of (length p) rs es) C (rest (length p) m)
  unfolding rest Support
  rest_unfounded C u i h l hd uh = subst (Support C (rest (length p) m)) (sym at) (go (done i li))
    where
      li : i < length rs
      li = let y = length-map rs (rule_of es) in omega arith

      r : RuleRow
      r = get_or rs i blank

      at : rule_at rs es i ≡ rule_of es r
      at = get_or-map (rule_of es) rs i blank no_rule li

      hh : (r.head ≢ 65535) × (r.head ≡ h)
      hh = head_of_lem r.head h (ap (λ z. z.head) (sym at) ∙ hd)

      free : marked m h ≡ false
      free = not-true (marked m h) (and_parts (ltb h (length p)) _ uh).1

      codes : Codes (length p) (take r.count (drop r.first es))
      codes = part_codes (length p) es r.first r.count ok.codes (ok.runs i blank li)

      go : ((r.head ≢ 65535) → (marked m r.head ≡ true) ⊎ BodyFounded p m (body_of es r) false) → Support C (rest (length p) m) (rule_of es r)
      go f = elim (f hh.0) [
        | inl nz ↦ absurd (both_ways _ free (sym (ap (marked m) hh.1) ∙ nz))
        | inr b ↦ elim b.2 [
          | inl c ↦ inl (_, in_from (take r.count (drop r.first es)) b.0 b.1, u _ c)
          | inr c ↦ inr (
            _,
            in_from (take r.count (drop r.first es)) b.0 b.1,
            ne_eqb _ 1 (λ q. let z = c.0 in omega arith),
            and_from _ _ (lt-ltb _ _ (let z = codes b.0 b.1 in omega arith)) (ap not c.1),
          )
        ]
      ]

  pub unfounded_turn : Never (book_of (length p) rs es) (holds p) m → (q : List ℕ) (s : Result Bool Clash) →
      LawTurn (AllOf (FailAt m) (length m)) p q s → LawTurn (UnfoundedFail (book_of (length p) rs es)) p q s
  unfolding rest
  unfounded_turn never q s t = turn_by (AllOf (FailAt m) (length m)) (UnfoundedFail (book_of (length p) rs es)) p q s
      (λ C law u k l z. law (rest (length p) m) (λ j le. and_left _ _ (le-ltb j (length p) le)) (rest_unfounded C u) k
      (and_from _ _ (lt-ltb k (length p) (omega arith)) (ap not z)))
      (λ all U w unf j uj. all j (elim (cases_lt j (length p)) [ inl a ↦ omega arith | inr b ↦ absurd (both_ways (U j) (w j b) uj) ])
      (elim (cases_Bool (marked m j)) [ inl t ↦ absurd (both_ways (U j) (never U w unf j t) uj) | inr f ↦ f ]))
      t

pub no_marks : (n k s : ℕ) → marked (take k (replicate n false)) s ≡ false
no_marks zero zero s = refl
no_marks zero (suc k) s = refl
no_marks (suc n) zero s = refl
no_marks (suc n) (suc k) zero = refl
no_marks (suc n) (suc k) (suc s) = no_marks n k s
