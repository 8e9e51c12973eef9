-- Rows of rules and entries within their counts.
--   row_in, rows_in, entries_in   whether they are
--   padded                     a list and blanks after it
use Rattle.std.specs.Prelude.{ℕ, ◌+◌, ◌-◌, ◌*◌, Bool, ◌&&◌, ◌||◌, List, ◌++◌, length, replicate, ◌==◌, nat_le, nat_lt}
use Rattle.std.specs.List.{list_all}
use Rattle.rulebook.specs.declared.row.RuleRow.{RuleRow}

-- what stands past the last row
abbrev pub blank : RuleRow
blank = record { head = 0; first = 0; count = 0 }

-- the head is missing or a statement, and the run lies among the entries
abbrev pub row_in : ℕ → ℕ → RuleRow → Bool
row_in width used r = (r.head == 65535 || nat_lt r.head width) && nat_le (r.first + r.count) used

-- each row does
abbrev pub rows_in : ℕ → ℕ → List RuleRow → Bool
rows_in width used rows = list_all (row_in width used) rows

-- each entry names a statement below the width
abbrev pub entries_in : ℕ → List ℕ → Bool
entries_in width entries = list_all (λ e. nat_lt e (2 * width)) entries

-- xs, then x up to the room
abbrev pub padded : {X : Type 0} → ℕ → X → List X → List X
padded room x xs = xs ++ replicate (room - length xs) x
