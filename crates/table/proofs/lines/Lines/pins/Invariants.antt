use Rattle.std.proofs.Common.{◌≡◌, ℕ, ◌<◌, ◌≤◌, length, get_or}
use Rattle.table.specs.Blank.{line_at}
use Rattle.table.proofs.lines.Lines.pins.Given as goal

abbrev pub invariant-loop-i : goal.invariant-loop-i
invariant-loop-i l = (length l.pins ≡ 512) × ((k : ℕ) → k < l.i → get_or l.pins k 0 ≡ (line_at l.self.rows k).pin) × ((k : ℕ) → l.i ≤ k → get_or l.pins k 0 ≡ 0)
