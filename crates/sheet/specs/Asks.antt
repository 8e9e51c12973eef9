-- Questions put to a source of the plans `plan`, and what becomes of the table by their answers.
use Rattle.std.specs.Prelude.{◌≡◌, ℕ, List, take, ◌==◌, slice_index}
use Rattle.std.specs.Bool.{then_some}
use Rattle.source.specs.Plans.{Serves}
use Rattle.table.specs.declared.table.Table.{Table}
use Rattle.table.specs.Blank.{line_at}
use Rattle.table.specs.Lineup.{pinned_line}

-- `place` is a plan that serves
abbrev pub Served : (List ℕ → Type 0) → List ℕ → List ℕ → List ℕ → Type 0
Served plan pins group place = plan place × Serves pins group place

-- no plan serves
abbrev pub Unserved : (List ℕ → Type 0) → List ℕ → List ℕ → Type 0
Unserved plan pins group = (p : List ℕ) → plan p → Serves pins group p → ⊥

-- the first w bytes of `place` are a plan that serves
abbrev pub Found : ℕ → (List ℕ → Type 0) → List ℕ → List ℕ → List ℕ → Type 0
Found w plan pins group place = Served plan (take w pins) (take w group) (take w place)

-- no plan of width w serves
abbrev pub NotFound : ℕ → (List ℕ → Type 0) → List ℕ → List ℕ → Type 0
NotFound w plan pins group = Unserved plan (take w pins) (take w group)

-- the table u is t with one pin more, by the bytes of a plan
pub record PinnedBy (t : Table) (statement way : ℕ) (place : List ℕ) (u : Table) : Type 0 where
  pub over : u.over ≡ t.over
  pub lines : (k : ℕ) → line_at u.lines.rows k ≡ pinned_line (then_some (k == statement) way) (line_at t.lines.rows k) (slice_index place k)
