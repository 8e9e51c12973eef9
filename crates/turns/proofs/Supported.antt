-- All cancelled and backchain: the turn of one statement, by the rows that support it.
use Rattle.std.proofs.Common.{◌≡◌, ℕ, ◌+◌, ◌*◌, ◌/◌, ◌<◌, Bool, true, false, Ok, Result, ◌≢◌, List, length, get_or, sym, refl, ap, ◌∙◌, subst, inl, inr, arith}
use Rattle.std.proofs.Math.Option.{some}
use Rattle.std.proofs.lemmas.Bool.{eqb-true, cases_eq, both_ways, eq-eqb}
use Rattle.std.proofs.lemmas.List.{get_or-map}
use Rattle.closing.specs.Sets.{contrary, In, holds, Under, in_to, in_from, holds_once}
use Rattle.stable.specs.Books.{Cancelled, no_rule}
use Rattle.turns.specs.Table.{rule_at, LawTurn, AllOf, Supports, SupportIs, HoldAt, StatementKept, body_of}
use Rattle.turns.specs.Meaning.{rule_of}
use Rattle.rulebook.specs.Rows.{blank}
use Rattle.closing.specs.Turns.{Made}
use Rattle.source.specs.Plans.{UpTo}
use Rattle.rulebook.specs.declared.row.RuleRow.{RuleRow}
use Rattle.closing.specs.declared.Clash.{Clash}
use Rattle.closing.specs.declared.Few.TheVariants.{Nothing, Only, Several}
use Rattle.stable.proofs.Theory.{contrary_twice}
use Rattle.turns.proofs.Steps.{head_some, decided_turn}
use Rattle.turns.proofs.Marks.{head_of_lem}
use Rattle.turns.proofs.Loops.{turn_by}

module _ (p : List ℕ) (rs : List RuleRow) (es : List ℕ) (s : ℕ) (small : s < 65535) where
  at : (i : ℕ) → i < length rs → rule_at rs es i ≡ rule_of es (get_or rs i blank)
  at i l = get_or-map (rule_of es) rs i blank no_rule l

  -- a row that has the head and does not support it is cancelled
  cancels : (C : ℕ → Bool) → Under C p → (i : ℕ) → i < length rs → Supports p (get_or rs i blank) es s false → (rule_at rs es i).head ≡ some s → Cancelled C (rule_at rs es i)
  cancels C u i l f hd = let h = f (head_of_lem (get_or rs i blank).head s (ap (λ z. z.head) (sym (at i l)) ∙ hd)).1 in
      subst (Cancelled C) (sym (at i l)) (_, in_from (body_of es (get_or rs i blank)) h.0 h.1, u _ h.2)

  -- one that supports it is not
  uncancelled : (i : ℕ) → i < length rs → Supports p (get_or rs i blank) es s true → Cancelled (holds p) (rule_at rs es i) → ⊥
  uncancelled i l t c = let d = subst (Cancelled (holds p)) (at i l) c in let k = in_to (body_of es (get_or rs i blank)) d.0 d.1 in
      both_ways _ (subst (λ e. holds p (contrary e) ≡ false) k.2 (t.1 k.0 k.1)) d.2

  headed : (i : ℕ) → i < length rs → Supports p (get_or rs i blank) es s true → (rule_at rs es i).head ≡ some s
  headed i l t = ap (λ z. z.head) (at i l) ∙ head_some (get_or rs i blank).head (let z = t.0 in λ q. omega arith) ∙ ap some t.0

  pub several_turn : SupportIs p rs es s Several → LawTurn (StatementKept rs es s) p p (Ok false)
  several_turn (i, j, li, lj, ne, si, sj) = (
    refl,
    record {
      all_cancelled = λ all. absurd (uncancelled i li si (all i li (headed i li si)));
      backchain = λ k lk hk d others e m. elim (cases_eq i k) [
        | inl q ↦ absurd (uncancelled j lj sj (others j lj (λ z. ne (q ∙ sym z)) (headed j lj sj)))
        | inr q ↦ absurd (uncancelled i li si (others i li q (headed i li si)))
      ];
    },
  )

  pub nobody_turn : (q : List ℕ) (t : Result Bool Clash) → s < length p → UpTo 2 p → SupportIs p rs es s Nothing → Made p (2 * s + 1) q t → LawTurn (StatementKept rs es s) p q t
  nobody_turn q t l by none' d = decided_turn (StatementKept rs es s) p q (2 * s + 1) t (omega arith) by d
      (λ C k u. k.all_cancelled (λ i li hd. cancels C u i li (none' i li) hd))
      (λ h. record { all_cancelled = λ _. h; backchain = λ k lk hk ds others e m. absurd (holds_once p (2 * s) ds (subst (λ z. holds p z ≡ true) (sym (contrary_twice s)) h)) })

  -- s holds and only row i supports it
  pub only_turn : (q : List ℕ) (t : Result Bool Clash) (i : ℕ) → get_or p s 0 ≡ 1 → SupportIs p rs es s (Only i) →
      LawTurn (AllOf (HoldAt (body_of es (get_or rs i blank))) (length (body_of es (get_or rs i blank)))) p q t → LawTurn (StatementKept rs es s) p q t
  only_turn q t i one (li, si, others) = turn_by (AllOf (HoldAt b) (length b)) (StatementKept rs es s) p q t
      (λ C k u j lj. k.backchain i li (headed i li si) (u (2 * s) (eq-eqb _ _ (let hf : (2 * s) / 2 ≡ s = omega arith in let x = ap (λ z. get_or p z 0) hf in omega arith)))
      (λ g lg ng hg. cancels C u g lg (others g lg ng) hg) (get_or b j 0) (subst (λ r. In (get_or b j 0) r.body) (sym (at i li)) (in_from b j lj)))
      (λ all. record {
        all_cancelled = λ c. absurd (uncancelled i li si (c i li (headed i li si)));
        backchain = λ k lk hk d oth e m. elim (cases_eq i k) [
          | inl z ↦ (let r = in_to b e (subst (λ y. In e y.body) (at i li) (subst (λ y. In e (rule_at rs es y).body) (sym z) m)) in subst (λ y. holds p y ≡ true) r.2 (all r.0 r.1))
          | inr z ↦ absurd (uncancelled i li si (oth i li z (headed i li si)))
        ];
      })
    where
      b : List ℕ
      b = body_of es (get_or rs i blank)

  pub only_idle : (i : ℕ) → get_or p s 0 ≢ 1 → SupportIs p rs es s (Only i) → LawTurn (StatementKept rs es s) p p (Ok false)
  only_idle i ne (li, si, others) = (
    refl,
    record {
      all_cancelled = λ c. absurd (uncancelled i li si (c i li (headed i li si)));
      backchain = λ k lk hk d oth e m. absurd (ne (let x = eqb-true _ _ d in let hf : (2 * s) / 2 ≡ s = omega arith in let y = ap (λ z. get_or p z 0) hf in omega arith));
    },
  )
