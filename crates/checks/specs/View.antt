-- The code's table as the state of a sheet.
use Rattle.std.specs.Prelude.{ℕ}
use Rattle.uses.specs.Model.{State, word_number}
use Rattle.table.specs.declared.table.Table.{Table}
use Rattle.table.specs.Blank.{line_at}
use Rattle.table.specs.Lineup.{begun_over}

-- the state of a sheet over a source of width w; it is begun if it was begun over the width that its source has
abbrev pub view : ℕ → Table → State
view w t =
    record {
      begun = begun_over t.over w;
      mark = λ k. (line_at t.lines.rows k).candidate;
      pin = λ k. (line_at t.lines.rows k).pin;
      word = λ k. word_number (line_at t.lines.rows k).word;
    }
