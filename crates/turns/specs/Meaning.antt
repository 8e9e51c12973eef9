-- The rulebook that tables of rules and entries mean.
--   lifted    a head of code as a head of a rule
--   rule_of   a row as a rule
--   book_of   rows and entries as a rulebook
--   book_at   a table as a rulebook
--   book_in   a sealed rulebook as a rulebook
--   Tables    which table a sealed rulebook makes
use Rattle.std.specs.Prelude.{◌≡◌, ℕ, cond, List, map, take, drop, Option as Maybe, Some, None, ◌==◌}
use Rattle.std.proofs.Math.Option.{Option, some, none}
use Rattle.stable.specs.Books.{Rule, Book}
use Rattle.rulebook.specs.declared.row.RuleRow.{RuleRow}
use Rattle.rulebook.specs.declared.sealed.Rulebook.{Rulebook}
use Rattle.turns.specs.declared.table.Table.{Table}

-- the head, or none at 65,535
abbrev pub head_of : ℕ → Option ℕ
head_of h = cond (h == 65535) none (some h)

-- a head as code has it
abbrev pub lifted : Maybe ℕ → Option ℕ
lifted None = none
lifted (Some h) = some h

-- the head, and the run of entries
abbrev pub rule_of : List ℕ → RuleRow → Rule
rule_of entries r = record { head = head_of r.head; body = take r.count (drop r.first entries) }

-- so many statements, and a rule for each row
abbrev pub book_of : ℕ → List RuleRow → List ℕ → Book
book_of n rows entries = record { width = n; rules = map (rule_of entries) rows }

-- what a table says
abbrev pub book_at : Table → Book
book_at t = book_of t.width t.rows.now t.entries.now

-- what a sealed rulebook says: the rows and entries that are counted
abbrev pub book_in : Rulebook → Book
book_in b = book_of b.width (take b.rules b.rows) (take b.used b.entries)

-- the table of a sealed rulebook: it has as many statements, and the rows and entries that are counted
pub record Tables (b : Rulebook) (t : Table) : Type 0 where
  pub width : t.width ≡ b.width
  pub rows : t.rows.now ≡ take b.rules b.rows
  pub entries : t.entries.now ≡ take b.used b.entries
