-- What rules have written between two stages.
use Rattle.std.proofs.Common.{◌≡◌, ℕ, ◌+◌, ◌≤◌, List, ◌++◌, length, take}
use Rattle.tables.specs.declared.NameRow.{NameRow}
use Rattle.rulebook.specs.declared.row.RuleRow.{RuleRow}
use Rattle.tables.specs.Feed.{Texts, Stage, Tables}
use Rattle.tables.specs.Grammar.{Rule}
use Rattle.tables.specs.Meaning.{Says}

-- ys is xs and more
pub record Ext {X : Type 0} (xs ys : List X) : Type 0 where
  pub rest : List X
  pub is : ys ≡ xs ++ rest

-- the rows of the names that are counted
abbrev pub rows_in : Stage → Tables → List NameRow
rows_in s t = take s.names t.names

-- rules rs were written between s and t and s' and t'
pub record Ruled (x : Texts) (rs : List Rule) (s : Stage) (t : Tables) (s' : Stage) (t' : Tables) : Type 0 where
  pub new_rules : List RuleRow
  pub new_entries : List ℕ
  pub mean : Says x (rows_in s' t') rs s.entries new_rules new_entries
  pub rules : take s'.rules t'.rules ≡ take s.rules t.rules ++ new_rules
  pub entries : take s'.entries t'.entries ≡ take s.entries t.entries ++ new_entries
  pub count : s'.entries ≡ s.entries + length new_entries
  pub ext : Ext (rows_in s t) (rows_in s' t')
  pub room : s'.names ≤ length t'.names
  pub first : s'.first ≡ s'.entries
