use Rattle.std.proofs.Common.{sym, ◌∙◌}
use Rattle.std.proofs.lemmas.Bool.{both_ways}
use Rattle.turns.proofs.Marks.{unfounded_turn}
use Rattle.turns.proofs.Tables.{table_over}
use Rattle.turns.proofs.founded.unfounded_with.Goals as goal

pub found_all-requires-clause-never : goal.found_all-requires-clause-never
found_all-requires-clause-never c = λ U w unf s set. absurd (both_ways _ (c.requires.clear s) set)

pub returns : goal.returns
returns c = unfounded_turn c.args.p.now c.found_all.new.marks c.args.table.now.rows.now c.args.table.now.entries.now (c.found_all.auto.marks ∙ c.requires.wide ∙ sym c.requires.partial.0) (table_over c.args.table.now _ c.requires.partial.0) c.found_all.ensures.done c.found_all.ensures.never _ _ c.fail_unmarked.ensures
