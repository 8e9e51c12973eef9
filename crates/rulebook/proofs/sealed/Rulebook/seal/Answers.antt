use Rattle.std.proofs.Common.{refl, ap, ◌∙◌}
use Rattle.rulebook.specs.Rows.{blank, padded}
use Rattle.rulebook.specs.Sealing.{done, refused}
use Rattle.rulebook.proofs.Cut.{few_rows, few_entries, cut, refusal}
use Rattle.rulebook.proofs.sealed.Rulebook.seal.Goals as goal

pub returns-in_err-rows : goal.returns-in_err-rows
returns-in_err-rows c = let a = c.args in refusal a.names a.rules a.used a.rows.now a.entries.now _ _ c.from_residual.ensures.0 (few_rows a.names a.rules a.used a.rows.now a.entries.now c.in_err-rows.ensures.short)

pub returns-in_err-entries : goal.returns-in_err-entries
returns-in_err-entries c = let a = c.args in refusal a.names a.rules a.used a.rows.now a.entries.now _ _ c.from_residual-in_err-entries.ensures.0 (few_entries a.names a.rules a.used a.rows.now a.entries.now c.in_err-entries.ensures.short)

pub returns-then-not-is_sealable : goal.returns-then-not-is_sealable
returns-then-not-is_sealable c = let a = c.args in refused (cut a.names a.rules a.used a.rows.now a.entries.now c.in_ok-rows.ensures.ok c.in_ok-entries.ensures.ok c.if-not-is_sealable.ensures)

pub returns : goal.returns
returns c = let a = c.args in
    done _ (cut a.names a.rules a.used a.rows.now a.entries.now c.in_ok-rows.ensures.ok c.in_ok-entries.ensures.ok c.if-not-is_sealable.ensures) (record {
      width = refl;
      rules_count = refl;
      used_count = refl;
      all_rows = c.padded.ensures ∙ ap (padded 2048 blank) c.in_ok-rows.ensures.ok.1;
      all_entries = c.padded-2.ensures ∙ ap (padded 8192 0) c.in_ok-entries.ensures.ok.1;
    })
