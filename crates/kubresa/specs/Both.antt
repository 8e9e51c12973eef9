-- Reading the region's text and then the harbour's.
use Rattle.std.specs.Prelude.{ℕ, List, Ok, Err, Result}
use Rattle.tables.specs.declared.Fault.{Fault}
use Rattle.tables.specs.Feed.{Tables}
use Rattle.tables.specs.Draft.{Counts, Outcome, read_of}

-- the harbour's text is read where the region's was accepted
abbrev pub harbour_after : Result (Unit {0}) Fault → List ℕ → List ℕ → Outcome → Outcome
harbour_after (Ok u) region harbour o = read_of o.counts harbour region o.tables
harbour_after (Err f) region harbour o = o

-- what is left after the region's text
abbrev pub region_read : Counts → List ℕ → Tables → Outcome
region_read d region t = read_of d region region t

-- the result, the draft and the tables after both
abbrev pub both_read : Counts → List ℕ → List ℕ → Tables → Outcome
both_read d region harbour t = harbour_after (region_read d region t).result region harbour (region_read d region t)
