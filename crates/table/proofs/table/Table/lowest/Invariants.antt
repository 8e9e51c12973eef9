use Rattle.std.proofs.Common.{◌≡◌, ℕ, ◌<◌, ◌≤◌, cond, length, get_or}
use Rattle.uses.specs.Model.{counted_by}
use Rattle.table.specs.Blank.{line_at}
use Rattle.table.specs.Lineup.{line_has, lowest_of}
use Rattle.uses.specs.declared.Word.TheVariants.{Open}
use Rattle.table.proofs.table.Table.lowest.Given as goal

abbrev pub invariant-loop-i : goal.invariant-loop-i
invariant-loop-i l =
    (l.n ≤ l.i)
    × (l.n ≡ counted_by (λ k. line_has Open (line_at l.self.lines.rows k)) l.i)
    × (length l.marks ≡ 512)
    × ((k : ℕ) → k < l.i → get_or l.marks k 0 ≡ cond (lowest_of l.self.lines.rows l.limit k) 1 0)
    × ((k : ℕ) → l.i ≤ k → get_or l.marks k 0 ≡ 0)
