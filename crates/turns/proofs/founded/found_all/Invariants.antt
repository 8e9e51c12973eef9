use Rattle.std.proofs.Common.{◌≡◌, length}
use Rattle.closing.specs.Sets.{holds}
use Rattle.turns.specs.Meaning.{book_of}
use Rattle.turns.specs.Table.{unmarked, Never}
use Rattle.turns.proofs.founded.found_all.Given as goal

abbrev pub invariant-passes : goal.invariant-passes
invariant-passes l = (length l.marks ≡ length l.p) × Never (book_of (length l.p) l.table.rows.now l.table.entries.now) (holds l.p) l.marks

abbrev pub decreases-passes : goal.decreases-passes
decreases-passes l = unmarked l.marks
