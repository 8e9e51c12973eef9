-- The number of each refusal of a question.
use Rattle.std.specs.Prelude.{ℕ}
use Rattle.source.specs.declared.Refusal.{Refusal}
use Rattle.source.specs.declared.Refusal.TheVariants.{Length, Value, Mark, Wide}

-- a refusal with a lower number wins over one with a higher
abbrev pub number_of : Refusal → ℕ
number_of Length = 1
number_of Value = 2
number_of Mark = 3
number_of Wide = 4
