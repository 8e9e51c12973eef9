-- Counts over the lines of a table.
use Rattle.std.specs.Prelude.{ℕ}
use Rattle.uses.specs.Model.{counted_by}
use Rattle.uses.specs.declared.Word.{Word}
use Rattle.table.specs.declared.table.Table.{Table}
use Rattle.table.specs.Blank.{line_at}
use Rattle.table.specs.Lineup.{width_of, line_has}

-- how many candidates have the word v
abbrev pub count_of : Word → Table → ℕ
count_of v t = counted_by (λ k. line_has v (line_at t.lines.rows k)) (width_of t.over)
