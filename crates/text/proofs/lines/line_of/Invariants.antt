use Rattle.std.proofs.Common.{◌≡◌, ◌+◌, ◌≤◌}
use Rattle.tables.specs.Draft.{line_of}
use Rattle.text.proofs.lines.line_of.Given as goal

abbrev pub invariant-loop-b : goal.invariant-loop-b
invariant-loop-b l = (l.line ≡ line_of l.b-items l.b-index) × (l.line ≤ l.b-index + 1)
