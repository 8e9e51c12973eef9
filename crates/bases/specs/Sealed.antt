-- A sealed rulebook is a table within its counts, so it makes a base.
use Rattle.std.specs.Prelude.{◌≡◌, ℕ, ◌+◌, ◌*◌, ◌<◌, ◌≤◌, true, ◌||◌, length, get_or, take, ◌==◌, nat_le, nat_lt, slice_index_or}
use Rattle.std.proofs.Common.{sym, ap, ◌∙◌, subst, inl, inr, arith}
use Rattle.std.proofs.lemmas.Bool.{and_parts, or_cases, ltb-true, leb-true, eqb-true}
use Rattle.std.proofs.lemmas.List.{length-take-le, get_or-take, get_or_default, length-map}
use Rattle.closing.specs.Forces.{Based}
use Rattle.closing.specs.Forces as forcing
use Rattle.stable.specs.Books.{rows, Sound, BookPlan}
use Rattle.stable.specs.Decide.{book_forces}
use Rattle.stable.proofs.Forced.{book_sound, book_based}
use Rattle.rulebook.specs.declared.row.RuleRow.{RuleRow}
use Rattle.rulebook.specs.declared.sealed.Rulebook.{Rulebook}
use Rattle.rulebook.specs.Rows.{blank, row_in}
use Rattle.turns.specs.Meaning.{rule_of, book_in}
use Rattle.turns.specs.Table.{TableOk}
use Rattle.turns.proofs.Sealed.{table_sound}

-- heads, runs and entries stay within the counts
pub sealed_table : (b : Rulebook) → TableOk b.width (take b.rules b.rows) (take b.used b.entries)
sealed_table b = record {
  narrow = b.limits.0;
  runs = λ k d l. let r = at k d l in subst (λ m. (get_or (take b.rules b.rows) k d).first + (get_or (take b.rules b.rows) k d).count ≤ m) (sym many_entries) (leb-true _ _ (and_parts ((get_or (take b.rules b.rows) k d).head == 65535 || nat_lt (get_or (take b.rules b.rows) k d).head b.width) _ r).1);
  heads = λ k d l. let r = at k d l in elim (or_cases ((get_or (take b.rules b.rows) k d).head == 65535) (nat_lt (get_or (take b.rules b.rows) k d).head b.width) (and_parts ((get_or (take b.rules b.rows) k d).head == 65535 || nat_lt (get_or (take b.rules b.rows) k d).head b.width) (nat_le ((get_or (take b.rules b.rows) k d).first + (get_or (take b.rules b.rows) k d).count) b.used) r).0) [
    | inl x ↦ inr (eqb-true _ _ x)
    | inr x ↦ inl (ltb-true _ _ x)
  ];
  codes = λ k l. let lk : k < b.used = omega (arith, many_entries) in subst (λ e. e < 2 * b.width) (sym (get_or-take b.used b.entries k 0 lk)) (b.entered k lk);
}
  where
    many_entries : length (take b.used b.entries) ≡ b.used
    many_entries = length-take-le b.used b.entries (let x = b.whole.1 in let y = b.limits.2 in omega arith)

    many_rows : length (take b.rules b.rows) ≡ b.rules
    many_rows = length-take-le b.rules b.rows (let x = b.whole.0 in let y = b.limits.1 in omega arith)

    at : (k : ℕ) (d : RuleRow) → k < length (take b.rules b.rows) → row_in b.width b.used (slice_index_or (take b.rules b.rows) k d) ≡ true
    at k d l = let lk : k < b.rules = omega (arith, many_rows) in
        ap (row_in b.width b.used) (get_or_default (take b.rules b.rows) k d blank l ∙ get_or-take b.rules b.rows k blank lk) ∙ b.sound k lk

-- as many rules as are counted
pub many_sealed : (b : Rulebook) → rows (book_in b) ≡ b.rules
many_sealed b = length-map (take b.rules b.rows) (rule_of (take b.used b.entries)) ∙ length-take-le b.rules b.rows (let x = b.whole.0 in let y = b.limits.1 in omega arith)

pub sealed_sound : (b : Rulebook) → Sound (book_in b)
sealed_sound b = table_sound b.width (take b.rules b.rows) (take b.used b.entries) (sealed_table b)

pub sealed_forces : (b : Rulebook) → forcing.Sound (book_forces (book_in b))
sealed_forces b = book_sound (book_in b) (sealed_sound b)

pub sealed_based : (b : Rulebook) → Based (book_forces (book_in b)) (λ p. BookPlan (book_in b) p)
sealed_based b = book_based (book_in b) (sealed_sound b)
