use Rattle.std.proofs.Common.{◌≡◌, ℕ, ◌<◌, ◌≤◌, length, get_or}
use Rattle.table.specs.Blank.{line_at}
use Rattle.table.specs.Lineup.{settled_line}
use Rattle.table.proofs.lines.Lines.settle.Given as goal

abbrev pub invariant-loop-i : goal.invariant-loop-i
invariant-loop-i l =
    (length l.self.rows ≡ 512)
    × ((k : ℕ) → k < l.i → line_at l.self.rows k ≡ settled_line l.found (line_at l.initial.self.rows k) (get_or l.plan k 0) (get_or l.marks k 0))
    × ((k : ℕ) → l.i ≤ k → line_at l.self.rows k ≡ line_at l.initial.self.rows k)
