-- The number of the refusal.
use Rattle.std.specs.Prelude.{ℕ}
use Rattle.clauses.specs.declared.ClauseRefusal.{ClauseRefusal}
use Rattle.clauses.specs.declared.ClauseRefusal.TheVariants.{Limits}

abbrev pub number_of : ClauseRefusal → ℕ
number_of Limits = 28
