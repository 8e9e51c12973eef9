-- Blank lines, and what the lines of a sheet keep.
use Rattle.std.specs.Prelude.{◌≡◌, ℕ, ◌≤◌, false, List, slice_index_or}
use Rattle.uses.specs.declared.Word.TheVariants.{Open}
use Rattle.table.specs.declared.line.Line.{Line}

-- a line as it is made
abbrev pub blank : Line
blank = record { candidate = false; pin = 0; word = Open }

-- the line of the statement k, blank past the last
abbrev pub line_at : List Line → ℕ → Line
line_at rows k = slice_index_or rows k blank

-- every pin is a byte of a partial
abbrev pub PinsFew : List Line → Type 0
PinsFew rows = (k : ℕ) → (line_at rows k).pin ≤ 2

-- no statement from w on is a candidate
abbrev pub Unmarked : ℕ → List Line → Type 0
Unmarked w rows = (k : ℕ) → w ≤ k → (line_at rows k).candidate ≡ false

-- no statement from w on is pinned
abbrev pub Unpinned : ℕ → List Line → Type 0
Unpinned w rows = (k : ℕ) → w ≤ k → (line_at rows k).pin ≡ 0
