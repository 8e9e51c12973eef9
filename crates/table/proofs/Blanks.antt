-- Blank lines.
use Rattle.std.proofs.Common.{◌≡◌, ℕ, zero, suc, true, false, Option, Some, None, get_or, replicate, refl, eqb-true}
use borrow.Author.Tests.{both_ways}
use Rattle.table.specs.Blank.{blank}
use Rattle.table.specs.Lineup.{width_of, begun_over}

pub blanks : (n k : ℕ) → get_or (replicate n blank) k blank ≡ blank
blanks zero k = refl
blanks (suc n) zero = refl
blanks (suc n) (suc k) = blanks n k

-- a sheet that is begun has the width of its source
pub tied : (over : Option ℕ) (w : ℕ) → begun_over over w ≡ true → width_of over ≡ w
tied (Some v) w e = eqb-true v w e
tied None w e = absurd (both_ways false refl e)
