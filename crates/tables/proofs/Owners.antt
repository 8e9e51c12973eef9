-- The two texts and their numbers.
use Rattle.std.proofs.Common.{◌≡◌, ℕ, ◌<◌, refl, arith}
use Rattle.std.proofs.lemmas.Bool.Decides.{nat_tests}
use Rattle.tables.specs.declared.Owner.{Owner}
use Rattle.tables.specs.declared.Owner.TheVariants.{Region, Harbour}
use Rattle.tables.specs.Numbers.{owner_number}
use Rattle.tables.specs.Draft.{owner_after}

-- of the two texts, the one that comes after so many has that number
pub owned : (n : ℕ) → n < 2 → owner_number (owner_after n) ≡ n
owned n h = grind (arith, nat_tests)

pub owner_after-number : (o : Owner) → o ≡ owner_after (owner_number o)
owner_after-number Region = refl
owner_after-number Harbour = refl
