-- What the program prints for two texts.
use Rattle.std.specs.Prelude.{ℕ, zero, suc, List, [], ◌∷◌, ◌++◌, Some, None, Ok, Err, codes, decimal, Option, Result}
use Rattle.tables.specs.declared.Fault.{Fault}
use Rattle.tables.specs.declared.NameRow.{NameRow}
use Rattle.tables.specs.Names.{statement_name}
use Rattle.tables.specs.Numbers.{fault_text}
use Rattle.tables.specs.Draft.{Counts, Outcome}

-- the counts, in a line
abbrev pub counts_line : Counts → List ℕ
counts_line d = codes "statements " ++ (decimal d.names ++ (codes " rules " ++ (decimal d.rules ++ (codes " entries " ++ (decimal d.entries ++ codes "\n")))))

-- a fault, in a line
abbrev pub fault_line : Fault → List ℕ
fault_line f = fault_text f ++ codes "\n"

-- a statement's number and name, in a line
abbrev pub name_line : ℕ → List ℕ → List ℕ
name_line n name = ((decimal n ++ codes " ") ++ name) ++ (10 ∷ [])

-- what is printed so far, and the line of statement n
abbrev pub with_line : List ℕ → ℕ → Option (List ℕ) → List ℕ
with_line out n None = out
with_line out n (Some name) = out ++ name_line n name

-- the counts, and the lines of the first n statements
abbrev pub listed : Counts → List ℕ → List ℕ → List NameRow → ℕ → List ℕ
listed d region harbour rows zero = counts_line d
listed d region harbour rows (suc n) = with_line (listed d region harbour rows n) n (statement_name region harbour n d.names rows)

-- the statements, or the fault
abbrev pub printed_for : Result (Unit {0}) Fault → List ℕ → List ℕ → Outcome → List ℕ
printed_for (Ok u) region harbour o = listed o.counts region harbour o.tables.names o.counts.names
printed_for (Err f) region harbour o = fault_line f

-- what the program prints after reading both texts
abbrev pub printed : List ℕ → List ℕ → Outcome → List ℕ
printed region harbour o = printed_for o.result region harbour o
