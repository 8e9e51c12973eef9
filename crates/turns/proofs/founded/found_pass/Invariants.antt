use Rattle.std.proofs.Common.{◌≡◌, length}
use Rattle.closing.specs.Sets.{holds}
use Rattle.turns.specs.Meaning.{book_of}
use Rattle.turns.specs.Table.{MarkedTo, Never}
use Rattle.turns.proofs.founded.found_pass.Given as goal

abbrev pub invariant-loop-row : goal.invariant-loop-row
invariant-loop-row l =
    (length l.marks ≡ length l.p) × Never (book_of (length l.p) l.table.rows.now l.table.entries.now) (holds l.p) l.marks ×
    MarkedTo l.p l.table.rows.now l.table.entries.now l.initial.marks l.row-index l.marks l.found
