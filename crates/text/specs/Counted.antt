-- A draft by its numbers.
use Rattle.std.specs.Prelude.{ℕ, Some, None, Option}
use Rattle.tables.specs.declared.Owner.{Owner}
use Rattle.tables.specs.Limits.{texts_max}
use Rattle.tables.specs.Numbers.{owner_number}
use Rattle.tables.specs.Draft.{Counts}
use Rattle.text.specs.declared.draft.Draft.{Draft}
use Rattle.text.specs.View.{counted}

-- how many texts were taken before the next
abbrev pub texts_before : Option Owner → ℕ
texts_before (Some o) = owner_number o
texts_before None = texts_max

-- the texts taken, and the counts of names, rules and entries
abbrev pub counts_of : Draft → Counts
counts_of d = counted (texts_before d.next) d.filled
