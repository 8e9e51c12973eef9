-- A turn over the tables is the turn of a rule of the rulebook.
use Rattle.std.proofs.Common.{◌≡◌, ℕ, ◌+◌, ◌*◌, ◌/◌, ◌<◌, ◌≤◌, Bool, true, false, Ok, Err, Result, eqb, List, [], length, get_or, take, drop, sym, refl, ap, ◌∙◌, subst, inl, inr, arith}
use Rattle.std.proofs.Math.Option.{none}
use Rattle.std.proofs.lemmas.Bool.{cases_lt, both_ways, and_parts, and_from, eqb-true, eq-eqb, cases_eq}
use Rattle.std.proofs.lemmas.List.{length-take, length-drop}
use Rattle.closing.specs.Sets.{holds, contrary, move, holds_once}
use Rattle.closing.specs.Forces.{Forces, KeptAt, Barred}
use Rattle.closing.specs.Turns.{Turn}
use Rattle.closing.specs.declared.Clash.{Clash}
use Rattle.stable.specs.Books.{stmt, negated, Book, rows, row}
use Rattle.stable.specs.Decide.{book_forces}
use Rattle.stable.proofs.Forced.{row_to, row_from, stated_to, stated_from, unf_from_set, unf_to_all, force_row, force_statement, force_last, bar_row, bar_statement, bar_last, both_values, empties_to, empties_from}
use Rattle.rulebook.specs.declared.row.RuleRow.{RuleRow}
use Rattle.rulebook.specs.Rows.{blank}
use Rattle.bases.specs.Bodiless.{bodiless}
use Rattle.rulebook.specs.declared.sealed.Rulebook.{Rulebook}
use Rattle.turns.specs.declared.table.Table.{Table}
use Rattle.turns.specs.Meaning.{head_of, book_of, book_at, book_in, Tables}
use Rattle.turns.specs.Table.{LawTurn, RowKept, StatementKept, UnfoundedFail, TableOk, rule_at}
use Rattle.turns.proofs.Sealed.{many, rule_of_lem, table_sound}
use Rattle.turns.proofs.Steps.{head_some, head_none}

-- a turn under a law is the turn of a rule that keeps the same sets
pub law_turn : (R : Forces) (k : ℕ) (L : (ℕ → Bool) → Type 0) (p q : List ℕ) (step : Result Bool Clash) →
    ((C : ℕ → Bool) → KeptAt R k C → L C) → (L (holds p) → KeptAt R k (holds p)) → R.bar k (holds p) ≡ false →
    ((C : ℕ → Bool) (e : ℕ) → e < 2 * length p → C e ≡ true → C (contrary e) ≡ true → Barred R C) → LawTurn L p q step → Turn R k p q step
law_turn R k L p q (Ok false) to from bar both t = (t.0, from t.1, bar)
law_turn R k L p q (Ok true) to from bar both t = record { long = t.long; small = t.small; fewer = t.fewer; forced = λ C h u. t.forced C (to C h) u; grows = t.grows }
law_turn R k L p q (Err c) to from bar both t = λ C h u. let r = t C (to C h) u in both C r.0 r.1 r.2 r.3

-- a head is missing only at 65,535
headless : (h : ℕ) → head_of h ≡ none → h ≡ 65535
headless h e = elim (cases_eq h 65535) [ inl q ↦ q | inr q ↦ (let x = sym (head_some h q) ∙ e in let z : ◌≡◌ {A = ℕ} 0 1 = cc in absurd (omega arith)) ]

none_of : (b : Bool) → (b ≡ true → ⊥) → b ≡ false
none_of true f = absurd (f refl)
none_of false f = refl

module _ (n : ℕ) (rs : List RuleRow) (es : List ℕ) (ok : TableOk n rs es) where
  both : (C : ℕ → Bool) (e : ℕ) → e < 2 * n → C e ≡ true → C (contrary e) ≡ true → Barred (book_forces (book_of n rs es)) C
  both C e l a b = (rows (book_of n rs es) + e / 2, omega arith, bar_statement (book_of n rs es) C (e / 2) (omega arith) ∙ both_values C e a b)

  -- forward and contraposition
  row_law : (i : ℕ) → i < length rs → (C : ℕ → Bool) → KeptAt (book_forces (book_of n rs es)) i C → RowKept C (rule_at rs es i)
  row_law i l C k =
      let rb = book_of n rs es in let li : i < rows (book_of n rs es) = omega (arith, many n rs es) in
      record {
        forward = λ h hd all. k (2 * h) (let b = (table_sound n rs es ok).heads i h li hd in omega arith) (force_row rb C (2 * h) i li ∙ row_from (row rb i) C (2 * h) (inl (h, hd, refl, all)));
        contraposition = λ e hf m others. k (contrary e) (let b = (table_sound n rs es ok).entries i e li m in omega arith) (force_row rb C (contrary e) i li ∙ row_from (row rb i) C (contrary e) (inr (e, hf, m, refl, others)));
      }

  row_back : (i : ℕ) → i < length rs → (C : ℕ → Bool) → RowKept C (rule_at rs es i) → KeptAt (book_forces (book_of n rs es)) i C
  row_back i l C d e le x = elim (row_to (row rb i) C e (sym (force_row rb C e i (omega (arith, many n rs es))) ∙ x)) [
    | inl r ↦ move C _ _ (sym r.2) (d.forward r.0 r.1 r.3)
    | inr r ↦ move C _ _ (sym r.3) (d.contraposition r.0 r.1 r.2 r.4)
  ]
    where
      rb : Book
      rb = book_of n rs es

  -- all cancelled and backchain
  statement_law : (s : ℕ) → s < n → (C : ℕ → Bool) → KeptAt (book_forces (book_of n rs es)) (rows (book_of n rs es) + s) C → StatementKept rs es s C
  statement_law s l C k =
      let rb = book_of n rs es in
      record {
        all_cancelled = λ all. k (2 * s + 1) (omega arith) (force_statement rb C (2 * s + 1) s l ∙ stated_from rb s C (2 * s + 1) (inl (refl, λ i li hd. all i (omega (arith, many n rs es)) hd)));
        backchain = λ i li hd d others e m. let lr : i < rows (book_of n rs es) = omega (arith, many n rs es) in
            k e ((table_sound n rs es ok).entries i e lr m) (force_statement rb C e s l ∙ stated_from rb s C e (inr (i, d, lr, hd, (λ j lj ne hj. others j (omega (arith, many n rs es)) ne hj), m)));
      }

  statement_back : (s : ℕ) → s < n → (C : ℕ → Bool) → StatementKept rs es s C → KeptAt (book_forces (book_of n rs es)) (rows (book_of n rs es) + s) C
  statement_back s l C d e le x = elim (stated_to rb s C e (sym (force_statement rb C e s l) ∙ x)) [
    | inl r ↦ move C _ _ (sym r.0) (d.all_cancelled (λ i li hd. r.1 i (omega (arith, many n rs es)) hd))
    | inr r ↦ d.backchain r.0 (let lr = r.2 in omega (arith, many n rs es)) r.3 r.1 (λ j lj ne hj. r.4 j (omega (arith, many n rs es)) ne hj) e r.5
  ]
    where
      rb : Book
      rb = book_of n rs es

  -- unfounded
  last_law : (k : ℕ) → rows (book_of n rs es) + n ≤ k → (C : ℕ → Bool) → KeptAt (book_forces (book_of n rs es)) k C → UnfoundedFail (book_of n rs es) C
  last_law k lk C kept U w unf s us =
      let ls : s < n = elim (cases_lt s n) [ inl a ↦ a | inr b ↦ absurd (both_ways _ (w s b) us) ] in
      let half : stmt (2 * s + 1) ≡ s = omega arith in
      kept (2 * s + 1) (omega arith) (force_last (book_of n rs es) C (2 * s + 1) k lk ∙ unf_from_set (book_of n rs es) C (2 * s + 1) (eq-eqb _ _ (omega arith)) U w unf (ap U half ∙ us))

  last_back : (k : ℕ) → rows (book_of n rs es) + n ≤ k → (C : ℕ → Bool) → UnfoundedFail (book_of n rs es) C → KeptAt (book_forces (book_of n rs es)) k C
  last_back k lk C d e le x =
      let u = sym (force_last (book_of n rs es) C e k lk) ∙ x in
      let m = eqb-true _ _ (and_parts (negated e) _ u).0 in let odd : 2 * stmt e + 1 ≡ e = omega arith in
      (unf_to_all (book_of n rs es) C e u (C e) (λ U w f h. move C _ _ odd (d U w f (stmt e) h))).1

module _ (p : List ℕ) (rs : List RuleRow) (es : List ℕ) (ok : TableOk (length p) rs es) (q : List ℕ) (step : Result Bool Clash) where
  -- a row that is not headless with an empty body
  pub row_turns : (i : ℕ) → i < length rs → bodiless (get_or rs i blank) ≡ false →
      LawTurn (λ C. RowKept C (rule_at rs es i)) p q step → Turn (book_forces (book_of (length p) rs es)) i p q step
  row_turns i l has t = law_turn (book_forces (book_of (length p) rs es)) i (λ C. RowKept C (rule_at rs es i)) p q step
      (row_law (length p) rs es ok i l) (row_back (length p) rs es ok i l (holds p))
      (bar_row (book_of (length p) rs es) (holds p) i (omega (arith, many (length p) rs es)) ∙ none_of _ (λ h. full (empties_to (rule_at rs es i) h)))
      (both (length p) rs es ok) t
    where
      r : RuleRow
      r = get_or rs i blank

      full : ((rule_at rs es i).head ≡ none) × ((rule_at rs es i).body ≡ []) → ⊥
      full (hd, nil) =
          let h = headless r.head (ap (λ z. z.head) (sym (rule_of_lem rs es i l)) ∙ hd) in
          let b = ap length (ap (λ z. z.body) (sym (rule_of_lem rs es i l)) ∙ nil) in
          let x = length-take r.count (drop r.first es) in let y = length-drop r.first es in
          let z = ok.runs i blank l in both_ways _ has (and_from _ _ (eq-eqb _ _ h) (eq-eqb _ _ (omega arith)))

  pub statement_turns : (k s : ℕ) → k ≡ length rs + s → s < length p → LawTurn (StatementKept rs es s) p q step → Turn (book_forces (book_of (length p) rs es)) k p q step
  statement_turns k s e l t = subst (λ j. Turn (book_forces (book_of (length p) rs es)) j p q step) (ap (λ m. m + s) (many (length p) rs es) ∙ sym e)
      (law_turn (book_forces (book_of (length p) rs es)) (rows (book_of (length p) rs es) + s) (StatementKept rs es s) p q step
      (statement_law (length p) rs es ok s l) (statement_back (length p) rs es ok s l (holds p))
      (bar_statement (book_of (length p) rs es) (holds p) s l ∙ none_of _ (λ h. let u = and_parts (holds p (2 * s)) (holds p (2 * s + 1)) h in
      let c : contrary (2 * s) ≡ 2 * s + 1 = omega arith in holds_once p (2 * s) u.0 (move (holds p) _ _ (sym c) u.1)))
      (both (length p) rs es ok) t)

  pub last_turns : (k : ℕ) → length rs + length p ≤ k → LawTurn (UnfoundedFail (book_of (length p) rs es)) p q step → Turn (book_forces (book_of (length p) rs es)) k p q step
  last_turns k l t = let lk : rows (book_of (length p) rs es) + length p ≤ k = omega (arith, many (length p) rs es) in
      law_turn (book_forces (book_of (length p) rs es)) k (UnfoundedFail (book_of (length p) rs es)) p q step
      (last_law (length p) rs es ok k lk) (last_back (length p) rs es ok k lk (holds p)) (bar_last (book_of (length p) rs es) (holds p) k lk) (both (length p) rs es ok) t

-- a headless rule with an empty body bars every set
pub bodiless_turn : (p : List ℕ) (rs : List RuleRow) (es : List ℕ) → TableOk (length p) rs es → (i : ℕ) → i < length rs → bodiless (get_or rs i blank) ≡ true →
    (c : Clash) → Turn (book_forces (book_of (length p) rs es)) i p p (Err c)
bodiless_turn p rs es ok i l b c C k u =
    let t = and_parts (eqb (get_or rs i blank).head 65535) (eqb (get_or rs i blank).count 0) b in
    let li : i < rows (book_of (length p) rs es) = omega (arith, many (length p) rs es) in (
      i,
      omega arith,
      bar_row (book_of (length p) rs es) C i li ∙ empties_from (rule_at rs es i)
          (ap (λ z. z.head) (rule_of_lem rs es i l) ∙ head_none (get_or rs i blank).head (eqb-true _ _ t.0))
          (ap (λ z. z.body) (rule_of_lem rs es i l) ∙ ap (λ m. take m (drop (get_or rs i blank).first es)) (eqb-true _ _ t.1)),
    )

-- the table of a sealed rulebook says what the rulebook says
pub tied_book : (b : Rulebook) (t : Table) → Tables b t → book_at t ≡ book_in b
tied_book b t e = ap (λ n. book_of n t.rows.now t.entries.now) e.width ∙ ap (λ rs. book_of b.width rs t.entries.now) e.rows ∙ ap (λ es. book_of b.width (take b.rules b.rows) es) e.entries

pub tied_turn : (b : Rulebook) (t : Table) → Tables b t → (p q : List ℕ) (k : ℕ) (step : Result Bool Clash) → length p ≡ t.width →
    Turn (book_forces (book_of (length p) t.rows.now t.entries.now)) k p q step → Turn (book_forces (book_in b)) k p q step
tied_turn b t e p q k step w d = subst (λ rb. Turn (book_forces rb) k p q step) (ap (λ n. book_of n t.rows.now t.entries.now) w ∙ tied_book b t e) d
