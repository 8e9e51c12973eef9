-- What extending by a rulebook answers, in the words of the five rules.
use Rattle.std.specs.Prelude.{ℕ, List, Ok, Err, Result}
use Rattle.source.specs.declared.Refusal.{Refusal}
use Rattle.base.specs.declared.Outcome.{Outcome}
use Rattle.base.specs.declared.Outcome.TheVariants.{Fits, Clash}
use Rattle.base.specs.Laws.{clash, fits}
use Rattle.stable.specs.Books.{Book, OutcomeOf}

-- fits with the bytes of the closure under the five rules, or a clash exactly where it has both values for a statement or a headless rule has an empty body
abbrev pub ByRules : Book → List ℕ → Result Outcome Refusal → List ℕ → Type 0
ByRules rb p (Ok Fits) q = OutcomeOf rb p (fits q)
ByRules rb p (Ok Clash) q = OutcomeOf rb p clash
ByRules rb p (Err e) q = Unit {0}
