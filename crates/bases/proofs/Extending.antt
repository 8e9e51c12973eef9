-- An extension by the rules' outcome is one by the closure under the five rules.
use Rattle.std.proofs.Common.{ℕ, List, Ok, Err, Result, subst}
use Rattle.source.specs.declared.Refusal.{Refusal}
use Rattle.base.specs.declared.Outcome.{Outcome}
use Rattle.base.specs.declared.Outcome.TheVariants.{Fits, Clash}
use Rattle.base.specs.Extending.{Extends}
use Rattle.closing.specs.Forces.{outcome}
use Rattle.stable.specs.Books.{Book, Sound, OutcomeOf}
use Rattle.stable.specs.Decide.{book_forces}
use Rattle.stable.proofs.Lawfuls.{outcome_is_closure}
use Rattle.bases.specs.ByRules.{ByRules}

pub by_rules : (rb : Book) → Sound rb → (p q : List ℕ) (r : Result Outcome Refusal) → Extends rb.width (outcome (book_forces rb)) p r q → ByRules rb p r q
by_rules rb s p q (Ok Fits) e = subst (OutcomeOf rb p) e.1 (outcome_is_closure rb s p)
by_rules rb s p q (Ok Clash) e = subst (OutcomeOf rb p) e.1 (outcome_is_closure rb s p)
by_rules rb s p q (Err x) e = tt
