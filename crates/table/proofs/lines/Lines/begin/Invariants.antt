use Rattle.std.proofs.Common.{◌≡◌, ℕ, ◌<◌, ◌≤◌, length, get_or}
use Rattle.table.specs.Blank.{line_at}
use Rattle.table.specs.Lineup.{begun_line}
use Rattle.table.proofs.lines.Lines.begin.Given as goal

abbrev pub invariant-loop-i : goal.invariant-loop-i
invariant-loop-i l =
    (length l.row-items ≡ 512)
    × ((k : ℕ) → k < l.i → line_at l.row-items k ≡ begun_line (get_or l.marks k 0) (get_or l.plan k 0))
    × ((k : ℕ) → l.i ≤ k → line_at l.row-items k ≡ line_at l.initial.row-items k)
