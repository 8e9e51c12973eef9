use Rattle.std.proofs.Common.{◌≡◌, ◌+◌, false, drop}
use Rattle.words.specs.Words.{blanks}
use Rattle.words.proofs.blanks.Given as goal

abbrev pub invariant-loop-i : goal.invariant-loop-i
invariant-loop-i l = blanks false l.s ≡ l.i + blanks l.in_comment (drop l.i l.s)
