use Rattle.std.proofs.Common.{◌≡◌, ◌≤◌}
use Rattle.uses.specs.Model.{counted_by}
use Rattle.table.specs.Blank.{line_at}
use Rattle.table.specs.Lineup.{line_has}
use Rattle.table.proofs.table.Table.count.Given as goal

abbrev pub invariant-loop-i : goal.invariant-loop-i
invariant-loop-i l = (l.n ≤ l.i) × (l.n ≡ counted_by (λ k. line_has l.word (line_at l.self.lines.rows k)) l.i)
