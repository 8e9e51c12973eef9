-- One turn of a rule, over lists alone.
use Rattle.std.proofs.Common.{◌≡◌, ℕ, ◌+◌, ◌*◌, ◌<◌, Bool, true, false, Ok, Err, Result, cond, eqb, ◌≢◌, List, length, get_or, Option as Maybe, Some, None, sym, refl, ap, ◌∙◌, subst, inl, inr, arith}
use Rattle.std.proofs.Math.Option.{some, none}
use Rattle.rulebook.specs.declared.row.RuleRow.{RuleRow}
use Rattle.std.proofs.lemmas.Bool.{cases_eq, both_ways, ne_eqb, eq-eqb, cond-true, cond-false}
use Rattle.std.proofs.lemmas.List.{get_or-map}
use Rattle.std.specs.List.{Contains}
use Rattle.closing.specs.Sets.{contrary, In, holds, Under, holds_once, Codes, in_to, in_from}
use Rattle.stable.specs.Books.{HeadFails, no_rule}
use Rattle.turns.specs.Table.{LawTurn, RowKept, rule_from, rule_at, body_of}
use Rattle.closing.specs.Turns.{Made}
use Rattle.source.specs.Plans.{UpTo}
use Rattle.closing.proofs.Deciding.{made_further}
use Rattle.turns.specs.Meaning.{head_of, lifted, rule_of}
use Rattle.closing.specs.Fews.{Lacks}
use Rattle.closing.specs.declared.Few.TheVariants.{Nothing, Only, Several}
use Rattle.closing.specs.declared.Clash.{Clash}
use Rattle.stable.proofs.Theory.{contrary_twice}

-- an entry that the law forces, made to hold
pub decided_turn : (L : (ℕ → Bool) → Type 0) (p q : List ℕ) (e : ℕ) (step : Result Bool Clash) → e < 2 * length p → UpTo 2 p → Made p e q step →
    ((C : ℕ → Bool) → L C → Under C p → C e ≡ true) → (holds p e ≡ true → L (holds p)) → LawTurn L p q step
decided_turn L p q e (Ok false) l by d force same = (d.0, same d.1)
decided_turn L p q e (Err c) l by d force same = λ C lc u. (e, l, force C lc u, u (contrary e) d.1)
decided_turn L p q e (Ok true) l by d force same = made_further L p q e l by d force

pub head_none : (h : ℕ) → h ≡ 65535 → head_of h ≡ none
head_none h p = cond-true (eqb h 65535) none (some h) (eq-eqb h 65535 p)

pub head_some : (h : ℕ) → h ≢ 65535 → head_of h ≡ some h
head_some h p = cond-false (eqb h 65535) none (some h) (ne_eqb h 65535 p)

pub some_same : (a b : ℕ) → some a ≡ some b → a ≡ b
some_same a b p = cc

-- a head that fails in a part fails in the whole
fails_in : (p : List ℕ) (h : Maybe ℕ) (C : ℕ → Bool) → Under C p → HeadFails (holds p) (lifted h) → HeadFails C (lifted h)
fails_in p None C u f = tt
fails_in p (Some h) C u f = u (2 * h + 1) f

module _ (p : List ℕ) (h : Maybe ℕ) (b : List ℕ) where
  abbrev L : (ℕ → Bool) → Type 0
  L C = RowKept C (rule_from h b)

  -- the whole body holds in C where it holds in p
  all_in : (C : ℕ → Bool) → Under C p → ((k : ℕ) → k < length b → holds p (get_or b k 0) ≡ true) → (e : ℕ) → In e b → C e ≡ true
  all_in C u all e m = let r = in_to b e m in u e (subst (λ z. holds p z ≡ true) r.2 (all r.0 r.1))

  pub turn_many : Lacks (holds p) b Several → LawTurn L p p (Ok false)
  turn_many (j, k, lj, lk, ne, fj, fk) = (
    refl,
    record {
      forward = λ g hd all. absurd (both_ways _ fj (all _ (in_from b j lj)));
      contraposition = λ e hf m others. elim (cases_eq (get_or b j 0) e) [
        | inl q ↦ absurd (both_ways _ fk (others _ (in_from b k lk) (λ z. ne (q ∙ sym z))))
        | inr q ↦ absurd (both_ways _ fj (others _ (in_from b j lj) q))
      ];
    },
  )

  pub turn_one : (q : List ℕ) (step : Result Bool Clash) (e : ℕ) → Lacks (holds p) b (Only e) → HeadFails (holds p) (lifted h) → e < 2 * length p → UpTo 2 p → Made p (contrary e) q step → LawTurn L p q step
  turn_one q step e (at, lack, rest) hf l by d = decided_turn L p q (contrary e) step (omega arith) by d
      (λ C lc u. lc.contraposition e (fails_in p h C u hf) inb (λ f mf ne. let r = in_to b f mf in u f (subst (λ z. holds p z ≡ true) r.2 (rest r.0 r.1 (λ z. ne (sym r.2 ∙ z))))))
      (λ hh. record {
        forward = λ g hd all. absurd (both_ways _ lack (all e inb));
        contraposition = λ f _ mf others. elim (cases_eq f e) [
          | inl z ↦ subst (λ w. holds p (contrary w) ≡ true) (sym z) hh
          | inr z ↦ absurd (both_ways _ lack (others e inb (λ w. z (sym w))))
        ];
      })
    where
      inb : In e b
      inb = subst (λ z. In z b) at.2 (in_from b at.0 at.1)

  pub turn_idle : (e : ℕ) → Lacks (holds p) b (Only e) → (HeadFails (holds p) (lifted h) → ⊥) → LawTurn L p p (Ok false)
  turn_idle e (at, lack, rest) n = (
    refl,
    record {
      forward = λ g hd all. absurd (both_ways _ lack (all e inb));
      contraposition = λ f hf mf others. absurd (n hf);
    },
  )
    where
      inb : In e b
      inb = subst (λ z. In z b) at.2 (in_from b at.0 at.1)

-- the whole body holds
module _ (p b : List ℕ) (all : Lacks (holds p) b Nothing) where
  pub turn_empty : length b ≡ 0 → LawTurn (λ C. RowKept C (rule_from None b)) p p (Ok false)
  turn_empty z = (
    refl,
    record {
      forward = λ g hd a. let y : ◌≡◌ {A = ℕ} 0 1 = cc in absurd (omega arith);
      contraposition = λ e hf m others. let r = in_to b e m in let l = r.1 in absurd (omega arith);
    },
  )

  pub turn_bar : (c : Clash) → Codes (length p) b → length b ≢ 0 → LawTurn (λ C. RowKept C (rule_from None b)) p p (Err c)
  turn_bar c ok nz C lc u = (get_or b 0 0, ok 0 (omega arith), all_in p None b C u all _ first, lc.contraposition (get_or b 0 0) tt first (λ f mf ne. all_in p None b C u all f mf))
    where
      first : In (get_or b 0 0) b
      first = in_from b 0 (omega arith)

  pub turn_head : (h : ℕ) (q : List ℕ) (step : Result Bool Clash) → h < length p → UpTo 2 p → Made p (2 * h) q step → LawTurn (λ C. RowKept C (rule_from (Some h) b)) p q step
  turn_head h q step l by d = decided_turn (λ C. RowKept C (rule_from (Some h) b)) p q (2 * h) step (omega arith) by d
      (λ C lc u. lc.forward h refl (all_in p (Some h) b C u all))
      (λ hh. record {
        forward = λ g hd a. subst (λ z. holds p (2 * z) ≡ true) (some_same h g hd) hh;
        contraposition = λ e hf m others. absurd (holds_once p (2 * h) hh (subst (λ z. holds p z ≡ true) (sym (contrary_twice h)) hf));
      })

-- THE TABLE

pub rule_of_lem : (rs : List RuleRow) (es : List ℕ) (i : ℕ) (d : RuleRow) → i < length rs → rule_at rs es i ≡ rule_of es (get_or rs i d)
rule_of_lem rs es i d l = get_or-map (rule_of es) rs i d no_rule l

-- the head of a row that has one
pub has_head : (h s : ℕ) → Some s ≡ cond (eqb h 65535) None (Some h) → (h ≢ 65535) × (h ≡ s)
has_head h s e = elim (cases_eq h 65535) [
  | inl q ↦ (let x = ap (λ b. cond b None (Some h)) (eq-eqb h 65535 q) in let z : ◌≡◌ {A = ℕ} 0 1 = cc in absurd (omega arith))
  | inr q ↦ (q, let x = ap (λ b. cond b None (Some h)) (ne_eqb h 65535 q) in cc)
]

-- a row that has none
pub no_head : (h : ℕ) → None ≡ cond (eqb h 65535) None (Some h) → h ≡ 65535
no_head h e = elim (cases_eq h 65535) [
  | inl q ↦ q
  | inr q ↦ (let x = ap (λ b. cond b None (Some h)) (ne_eqb h 65535 q) in let z : ◌≡◌ {A = ℕ} 0 1 = cc in absurd (omega arith))
]

-- the rule of a row by its head and body as code has them
pub row_rule : (rs : List RuleRow) (es : List ℕ) (r : RuleRow) (h : Maybe ℕ) (b : List ℕ) (at : Contains rs r) → h ≡ cond (eqb r.head 65535) None (Some r.head) → b ≡ body_of es r →
    rule_from h b ≡ rule_at rs es at.0
row_rule rs es r h b at e f = ap (λ x. rule_from x b) e ∙ ap (rule_from (cond (eqb r.head 65535) None (Some r.head))) f
    ∙ ap (λ x. record { head = x; body = body_of es r }) (lift_head r.head) ∙ sym (rule_of_lem rs es at.0 r at.1 ∙ ap (rule_of es) at.2)
  where
    lift_head : (n : ℕ) → lifted (cond (eqb n 65535) None (Some n)) ≡ head_of n
    lift_head n = elim (cases_eq n 65535) [
      | inl q ↦ ap (λ v. lifted (cond v None (Some n))) (eq-eqb n 65535 q) ∙ sym (head_none n q)
      | inr q ↦ ap (λ v. lifted (cond v None (Some n))) (ne_eqb n 65535 q) ∙ sym (head_some n q)
    ]
