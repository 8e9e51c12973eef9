-- What reading a text into a draft does: the result, the draft and the tables then.
use Rattle.std.specs.Prelude.{ℕ, ◌+◌, ◌-◌, Bool, cond, ◌||◌, List, [], ◌++◌, length, take, replicate, Some, None, Ok, Err, count_by, Option, Result, ◌==◌, nat_le, nat_lt}
use Rattle.words.specs.Words.{ends_line}
use Rattle.words.specs.Running.{running}
use Rattle.tables.specs.declared.Fault.{Fault}
use Rattle.tables.specs.declared.Cause.{Cause}
use Rattle.tables.specs.declared.Cause.TheVariants.{LongText, ThirdText, ShortTable}
use Rattle.tables.specs.declared.Owner.{Owner}
use Rattle.tables.specs.declared.Owner.TheVariants.{Region, Harbour}
use Rattle.tables.specs.declared.Phase.TheVariants.{Start}
use Rattle.tables.specs.Limits.{text_max, texts_max}
use Rattle.rulebook.specs.Rows.{blank}
use Rattle.tables.specs.Names.{blank_name}
use Rattle.tables.specs.Feed.{Stage, Tables, Texts, Fed, on, off}
use Rattle.tables.specs.Reading.{run}

-- a draft: the texts taken, and the counts of names, rules and entries
pub record Counts : Type 0 where
  pub texts : ℕ
  pub names : ℕ
  pub rules : ℕ
  pub entries : ℕ

-- what reading gives: the result, and the draft and the tables then
pub record Outcome : Type 0 where
  pub result : Result (Unit {0}) Fault
  pub counts : Counts
  pub tables : Tables

-- 1 plus the line ends before the place
abbrev pub line_of : List ℕ → ℕ → ℕ
line_of text at = 1 + count_by ends_line (take at text)

-- the rows from a count on are blank, to the table's end
abbrev pub cleared : {X : Type 0} → ℕ → X → List X → List X
cleared n x xs = take n xs ++ replicate (length xs - n) x

-- all three tables so
abbrev pub cleared_tables : Counts → Tables → Tables
cleared_tables d t = record { names = cleared d.names blank_name t.names; rules = cleared d.rules blank t.rules; entries = cleared d.entries 0 t.entries }

-- a table is shorter than its count
abbrev pub short : Counts → Tables → Bool
short d t = nat_lt (length t.names) d.names || (nat_lt (length t.rules) d.rules || nat_lt (length t.entries) d.entries)

-- whose the text is that comes after so many: the first is the region's, and any other counts as the harbour's
abbrev pub owner_after : ℕ → Owner
owner_after n = cond (n == 0) Region Harbour

-- before the text is read: nothing changes
abbrev pub refused : Cause → Counts → Tables → Outcome
refused c d t = record { result = Err (record { cause = c; text = owner_after d.texts; byte = 0; line = 1 }); counts = d; tables = t }

-- the first text is the region's, the second the harbour's
abbrev pub texts_for : ℕ → List ℕ → List ℕ → Texts
texts_for n text earlier = cond (n == 0) (record { region = text; harbour = []; mark = 0 }) (record { region = earlier; harbour = text; mark = 1 })

-- before the first word
abbrev pub stage_from : Counts → Stage
stage_from d = record { phase = Start; head = 0; first = d.entries; names = d.names; rules = d.rules; entries = d.entries }

-- what is left when reading has ended, and when it has stopped
abbrev pub settled : Counts → List ℕ → Tables → Fed → Outcome
settled d text t (on s t') = record { result = Ok tt; counts = record { texts = d.texts + 1; names = s.names; rules = s.rules; entries = s.entries }; tables = t' }
settled d text t (off c at t') = record { result = Err (record { cause = c; text = owner_after d.texts; byte = at; line = line_of text at }); counts = d; tables = cleared_tables d t }

-- the text is read
abbrev pub taken : Counts → List ℕ → List ℕ → Tables → Outcome
taken d text earlier t = settled d text t (run (texts_for d.texts text earlier) (length text) (stage_from d) t (running text 0))

-- why nothing is read
abbrev pub refusal_of : Counts → List ℕ → Tables → Option Cause
refusal_of d text t =
    cond (nat_lt text_max (length text)) (Some LongText)
    (cond (nat_le texts_max d.texts) (Some ThirdText)
    (cond (short d t) (Some ShortTable) None))

-- the text is read unless something speaks against it
abbrev pub read_if : Counts → List ℕ → List ℕ → Tables → Option Cause → Outcome
read_if d text earlier t (Some c) = refused c d t
read_if d text earlier t None = taken d text earlier t

-- all of it
abbrev pub read_of : Counts → List ℕ → List ℕ → Tables → Outcome
read_of d text earlier t = read_if d text earlier t (refusal_of d text t)
