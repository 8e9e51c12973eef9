-- When two names are the same: all that other proofs know of it.
use Rattle.std.proofs.Common.{◌≡◌, ℕ, true, List, refl}
use Rattle.std.proofs.lemmas.Slice.Eq.{bytes_eq-Decides}
use Rattle.tables.specs.Names.{same_name}

pub same_self : (b : List ℕ) → same_name b b ≡ true
same_self b = (bytes_eq-Decides b b).1 refl

pub same_means : (b c : List ℕ) → same_name b c ≡ true → b ≡ c
same_means b c e = (bytes_eq-Decides b c).0 e
