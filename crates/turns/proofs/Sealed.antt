-- A table within its counts is a rulebook within its width.
use Rattle.std.proofs.Common.{◌≡◌, ℕ, ◌*◌, ◌<◌, List, length, get_or, take, drop, sym, ap, ◌∙◌, subst, inl, inr, arith}
use Rattle.std.proofs.lemmas.List.{get_or-map, length-map}
use Rattle.closing.specs.Sets.{In, in_to, part_codes}
use Rattle.stable.specs.Books.{rows, Sound, no_rule}
use Rattle.rulebook.specs.declared.row.RuleRow.{RuleRow}
use Rattle.rulebook.specs.Rows.{blank}
use Rattle.turns.specs.Meaning.{rule_of, book_of}
use Rattle.turns.specs.Table.{TableOk, rule_at}
use Rattle.turns.proofs.Marks.{head_of_lem}

pub many : (n : ℕ) (rs : List RuleRow) (es : List ℕ) → rows (book_of n rs es) ≡ length rs
many n rs es = length-map rs (rule_of es)

pub rule_of_lem : (rs : List RuleRow) (es : List ℕ) (i : ℕ) → i < length rs → rule_at rs es i ≡ rule_of es (get_or rs i blank)
rule_of_lem rs es i l = get_or-map (rule_of es) rs i blank no_rule l

pub table_sound : (n : ℕ) (rs : List RuleRow) (es : List ℕ) → TableOk n rs es → Sound (book_of n rs es)
table_sound n rs es ok = record {
  narrow = ok.narrow;
  heads = λ i h l hd. let li : i < length rs = omega (arith, many n rs es) in let k = head_of_lem (get_or rs i blank).head h (ap (λ z. z.head) (sym (rule_of_lem rs es i li)) ∙ hd) in
      elim (ok.heads i blank li) [ inl x ↦ subst (λ z. z < n) k.1 x | inr x ↦ absurd (k.0 x) ];
  entries = λ i e l m. let li : i < length rs = omega (arith, many n rs es) in let r = get_or rs i blank in
      let k = in_to (take r.count (drop r.first es)) e (subst (λ y. In e y.body) (rule_of_lem rs es i li) m) in
      subst (λ y. y < 2 * n) k.2 (part_codes n es r.first r.count ok.codes (ok.runs i blank li) k.0 k.1);
}
