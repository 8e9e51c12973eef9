-- What sealing does.
--   limited, within, sealable   which tables are sealed
--   Holds                       what the place then holds
--   Sealing                     the whole contract
use Rattle.std.specs.Prelude.{◌≡◌, ℕ, Bool, true, false, ◌&&◌, List, length, take, Ok, Err, Result, nat_le}
use Rattle.rulebook.specs.declared.row.RuleRow.{RuleRow}
use Rattle.rulebook.specs.declared.sealed.Rulebook.{Rulebook}
use Rattle.rulebook.specs.declared.SealRefusal.{SealRefusal}
use Rattle.rulebook.specs.declared.SealRefusal.TheVariants.{Outside}
use Rattle.rulebook.specs.Rows.{blank, rows_in, entries_in, padded}

-- the number of the refusal
abbrev pub number_of : SealRefusal → ℕ
number_of Outside = 26

-- at most 512 names, 2,048 rules and 8,192 entries; in figures, so that a changed constant is refused
abbrev pub limited : ℕ → ℕ → ℕ → Bool
limited names rules used = nat_le names 512 && (nat_le rules 2048 && nat_le used 8192)

-- rows and entries are no more than their limits, and every head, run and entry lies within the counts
abbrev pub within : ℕ → List RuleRow → List ℕ → Bool
within names rows entries =
    limited names (length rows) (length entries) && (rows_in names (length entries) rows && entries_in names entries)

-- the counts are within their limits, no table is shorter than its count, and every head, run and entry counted lies within the counts
abbrev pub sealable : ℕ → ℕ → ℕ → List RuleRow → List ℕ → Bool
sealable names rules used rows entries =
    limited names rules used && (nat_le rules (length rows) && (nat_le used (length entries) &&
    (rows_in names used (take rules rows) && entries_in names (take used entries))))

-- the place holds what is counted, and blanks after it
pub record Holds (names rules used : ℕ) (rows : List RuleRow) (entries : List ℕ) (b : Rulebook) : Type 0 where
  pub width : b.width ≡ names
  pub rules_count : b.rules ≡ rules
  pub used_count : b.used ≡ used
  pub all_rows : b.rows ≡ padded 2048 blank (take rules rows)
  pub all_entries : b.entries ≡ padded 8192 0 (take used entries)

-- sealed, or refused and the place as before
pub data Sealing (names rules used : ℕ) (rows : List RuleRow) (entries : List ℕ) (before : Rulebook) : Result (Unit {0}) SealRefusal → Rulebook → Type 0 where
  done : (after : Rulebook) → sealable names rules used rows entries ≡ true → Holds names rules used rows entries after → Sealing names rules used rows entries before (Ok tt) after
  refused : sealable names rules used rows entries ≡ false → Sealing names rules used rows entries before (Err Outside) before
