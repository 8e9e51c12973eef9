-- What the fields of a table keep, as the turns cite it.
use Rattle.std.proofs.Common.{◌≡◌, ℕ, ◌+◌, eqb, ltb, leb, ◌||◌, length, get_or, sym, subst, inl, inr}
use Rattle.std.proofs.lemmas.Bool.{and_parts, or_cases, ltb-true, leb-true, eqb-true}
use Rattle.turns.specs.declared.table.Table.{Table}
use Rattle.turns.specs.Table.{TableOk}

pub table_ok : (t : Table) → TableOk t.width t.rows.now t.entries.now
table_ok t = record {
  narrow = t.narrow;
  runs = λ k d l. let r = get_or t.rows.now k d in
      leb-true _ _ (and_parts (eqb r.head 65535 || ltb r.head t.width) (leb (r.first + r.count) (length t.entries.now)) (t.within k d l)).1;
  heads = λ k d l. let r = get_or t.rows.now k d in
      elim (or_cases (eqb r.head 65535) (ltb r.head t.width) (and_parts (eqb r.head 65535 || ltb r.head t.width) (leb (r.first + r.count) (length t.entries.now)) (t.within k d l)).0) [
        | inl x ↦ inr (eqb-true _ _ x)
        | inr x ↦ inl (ltb-true _ _ x)
      ];
  codes = t.codes;
}

-- over a partial of its width
pub table_over : (t : Table) (n : ℕ) → n ≡ t.width → TableOk n t.rows.now t.entries.now
table_over t n e = subst (λ m. TableOk m t.rows.now t.entries.now) (sym e) (table_ok t)
