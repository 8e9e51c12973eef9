-- The number of the refusal of listed plans.
use Rattle.std.specs.Prelude.{ℕ}
use Rattle.sources.specs.declared.refusal.ListingRefusal.{ListingRefusal}
use Rattle.sources.specs.declared.refusal.ListingRefusal.TheVariants.{Malformed}

abbrev pub number_of : ListingRefusal → ℕ
number_of Malformed = 27
