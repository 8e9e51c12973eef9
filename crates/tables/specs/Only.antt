-- Only some rows of a table are written.
use Rattle.std.specs.Prelude.{◌≡◌, ℕ, ◌≤◌, List, length, take, drop}
use Rattle.tables.specs.Feed.{Tables}
use Rattle.tables.specs.Draft.{Counts}

-- ys is xs but for the rows from n up to m
pub record Only {X : Type 0} (n m : ℕ) (xs ys : List X) : Type 0 where
  pub before : take n ys ≡ take n xs
  pub after : drop m ys ≡ drop m xs
  pub size : length ys ≡ length xs
  pub grown : n ≤ m
  pub room : m ≤ length ys

pub record OnlyNew (d e : Counts) (t u : Tables) : Type 0 where
  pub names : Only d.names e.names t.names u.names
  pub rules : Only d.rules e.rules t.rules u.rules
  pub entries : Only d.entries e.entries t.entries u.entries
