-- What one word does to what has been read: which word may stand where, what it writes, and where reading stops.
use Rattle.std.specs.Prelude.{ℕ, ◌+◌, ◌-◌, ◌*◌, Bool, cond, ◌||◌, List, length, take, Some, None, Option, nat_le, slice_set}
use Rattle.words.specs.Words.{Token, name, negation, arrow, comma, point}
use Rattle.tables.specs.declared.NameRow.{NameRow}
use Rattle.rulebook.specs.declared.row.RuleRow.{RuleRow}
use Rattle.tables.specs.declared.Cause.{Cause}
use Rattle.tables.specs.declared.Cause.TheVariants.{OutOfPlace, NoNameRow, NoEntryRow, NoRuleRow}
use Rattle.tables.specs.declared.Phase.{Phase}
use Rattle.tables.specs.declared.Phase.TheVariants.{Start, AfterHead, WantEntry, WantName, AfterEntry}
use Rattle.tables.specs.Limits.{names_max, rules_max, entries_max, no_head}
use Rattle.tables.specs.Names.{found}

-- where reading stands: the phase, the head and the first entry of the rule that is read, and the counts
pub record Stage : Type 0 where
  pub phase : Phase
  pub head : ℕ
  pub first : ℕ
  pub names : ℕ
  pub rules : ℕ
  pub entries : ℕ

-- the lent tables
pub record Tables : Type 0 where
  pub names : List NameRow
  pub rules : List RuleRow
  pub entries : List ℕ

-- the two texts, and the number of the one that is read
pub record Texts : Type 0 where
  pub region : List ℕ
  pub harbour : List ℕ
  pub mark : ℕ

-- what a word leads to: reading goes on, or stops at a place; and what the tables hold
pub data Fed : Type 0 where
  on : Stage → Tables → Fed
  off : Cause → ℕ → Tables → Fed

-- no row is left: the limit is reached, or the table is full
abbrev pub full : ℕ → ℕ → ℕ → Bool
full limit size count = nat_le limit count || nat_le size count

-- the same in another phase
abbrev pub at_phase : Phase → Stage → Stage
at_phase p s = record { phase = p; head = s.head; first = s.first; names = s.names; rules = s.rules; entries = s.entries }

-- A name's number, the count of names and the rows then; or no row for it.
pub data Number : Type 0 where
  number : ℕ → ℕ → List NameRow → Number
  no_row : List NameRow → Number

-- the row of a new name
abbrev pub new_row : Texts → List ℕ → ℕ → NameRow
new_row x bytes at = record { text = x.mark; first = at; size = length bytes }

-- the number that was found, or the next
abbrev pub number_from : Texts → List ℕ → ℕ → ℕ → List NameRow → Option ℕ → Number
number_from x bytes at count rows (Some n) = number n count rows
number_from x bytes at count rows None = cond (full names_max (length rows) count) (no_row rows) (number count (count + 1) (slice_set rows count (new_row x bytes at)))

-- a name is looked for among the rows counted
abbrev pub number_in : Texts → List ℕ → ℕ → ℕ → List NameRow → Number
number_in x bytes at count rows = number_from x bytes at count rows (found x.region x.harbour bytes 0 (take count rows))

-- goes on with the number, or stops where there is no row
abbrev pub with_number : ℕ → (ℕ → Stage → Tables → Fed) → Stage → Tables → Number → Fed
with_number at f s t (number n c rows) =
    f n (record { phase = s.phase; head = s.head; first = s.first; names = c; rules = s.rules; entries = s.entries })
    (record { names = rows; rules = t.rules; entries = t.entries })
with_number at f s t (no_row rows) = off NoNameRow at (record { names = rows; rules = t.rules; entries = t.entries })

-- a name is numbered, and f goes on with its number
abbrev pub numbered : Texts → List ℕ → ℕ → (ℕ → Stage → Tables → Fed) → Stage → Tables → Fed
numbered x bytes at f s t = with_number at f s t (number_in x bytes at s.names t.names)

-- the name is the head of its rule
abbrev pub headed : ℕ → Stage → Tables → Fed
headed n s t = on (record { phase = AfterHead; head = n; first = s.first; names = s.names; rules = s.rules; entries = s.entries }) t

-- one entry more
abbrev pub entered : ℕ → ℕ → Stage → Tables → Fed
entered at code s t =
    cond (full entries_max (length t.entries) s.entries) (off NoEntryRow at t)
    (on (record { phase = AfterEntry; head = s.head; first = s.first; names = s.names; rules = s.rules; entries = s.entries + 1 })
    (record { names = t.names; rules = t.rules; entries = slice_set t.entries s.entries code }))

-- the entry of statement n; "not" has the sign 1
abbrev pub entered_as : ℕ → ℕ → ℕ → Stage → Tables → Fed
entered_as at sign n s t = entered at (2 * n + sign) s t

-- one rule more
abbrev pub closed : ℕ → Stage → Tables → Fed
closed at s t =
    cond (full rules_max (length t.rules) s.rules) (off NoRuleRow at t)
    (on (record { phase = Start; head = s.head; first = s.entries; names = s.names; rules = s.rules + 1; entries = s.entries })
    (record { names = t.names; rules = slice_set t.rules s.rules (record { head = s.head; first = s.first; count = s.entries - s.first }); entries = t.entries }))

-- an arrow without a head
abbrev pub headless : Stage → Tables → Fed
headless s t = on (record { phase = WantEntry; head = no_head; first = s.first; names = s.names; rules = s.rules; entries = s.entries }) t

-- where a rule begins
abbrev pub feed_start : Texts → Token → ℕ → Stage → Tables → Fed
feed_start x (name bytes) at s t = numbered x bytes at headed s t
feed_start x negation at s t = off OutOfPlace at t
feed_start x arrow at s t = headless s t
feed_start x comma at s t = off OutOfPlace at t
feed_start x point at s t = off OutOfPlace at t

-- after a head
abbrev pub feed_after_head : Token → ℕ → Stage → Tables → Fed
feed_after_head (name bytes) at s t = off OutOfPlace at t
feed_after_head negation at s t = off OutOfPlace at t
feed_after_head arrow at s t = on (at_phase WantEntry s) t
feed_after_head comma at s t = off OutOfPlace at t
feed_after_head point at s t = closed at s t

-- after an arrow or a comma
abbrev pub feed_want_entry : Texts → Token → ℕ → Stage → Tables → Fed
feed_want_entry x (name bytes) at s t = numbered x bytes at (entered_as at 0) s t
feed_want_entry x negation at s t = on (at_phase WantName s) t
feed_want_entry x arrow at s t = off OutOfPlace at t
feed_want_entry x comma at s t = off OutOfPlace at t
feed_want_entry x point at s t = off OutOfPlace at t

-- after not
abbrev pub feed_want_name : Texts → Token → ℕ → Stage → Tables → Fed
feed_want_name x (name bytes) at s t = numbered x bytes at (entered_as at 1) s t
feed_want_name x negation at s t = off OutOfPlace at t
feed_want_name x arrow at s t = off OutOfPlace at t
feed_want_name x comma at s t = off OutOfPlace at t
feed_want_name x point at s t = off OutOfPlace at t

-- after an entry
abbrev pub feed_after_entry : Token → ℕ → Stage → Tables → Fed
feed_after_entry (name bytes) at s t = off OutOfPlace at t
feed_after_entry negation at s t = off OutOfPlace at t
feed_after_entry arrow at s t = off OutOfPlace at t
feed_after_entry comma at s t = on (at_phase WantEntry s) t
feed_after_entry point at s t = closed at s t

-- in each phase
abbrev pub feed_in : Phase → Texts → Token → ℕ → Stage → Tables → Fed
feed_in Start x k at s t = feed_start x k at s t
feed_in AfterHead x k at s t = feed_after_head k at s t
feed_in WantEntry x k at s t = feed_want_entry x k at s t
feed_in WantName x k at s t = feed_want_name x k at s t
feed_in AfterEntry x k at s t = feed_after_entry k at s t

-- one word at its place
abbrev pub feed : Texts → Token → ℕ → Stage → Tables → Fed
feed x k at s t = feed_in s.phase x k at s t

-- the text ends: within a rule it may not
abbrev pub finished_in : Phase → ℕ → Stage → Tables → Fed
finished_in Start at s t = on s t
finished_in AfterHead at s t = off OutOfPlace at t
finished_in WantEntry at s t = off OutOfPlace at t
finished_in WantName at s t = off OutOfPlace at t
finished_in AfterEntry at s t = off OutOfPlace at t

-- the same at the phase where reading stands
abbrev pub finished : ℕ → Stage → Tables → Fed
finished at s t = finished_in s.phase at s t
