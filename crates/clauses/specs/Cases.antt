-- Small clause lists and the plans that they have. Statement 0 is a, 1 is b; entry 2s says that s holds, 2s + 1 that it fails.
use Rattle.std.specs.Prelude.{◌≡◌, ℕ, Bool, not, List, length}
use Rattle.base.specs.Laws.{Out}
use Rattle.base.specs.Settled.{Settled}
use Rattle.closing.specs.Sets.{holds, every, below}
use Rattle.closing.specs.Forces.{outcome}
use Rattle.clauses.specs.declared.run.Run.{Run}
use Rattle.clauses.specs.Clauses.{clause_at, clause_forces, ClausePlan}

-- a run
abbrev pub run : ℕ → ℕ → Run
run f c = record { first = f; count = c }

-- every clause has an entry that holds
abbrev pub is_plan : List Run → List ℕ → List ℕ → Bool
is_plan rs es p = below (length rs) (λ k. not (every (λ e. not (holds p e)) (clause_at rs es k)))

-- the plans that agree with the pins are exactly these rows, and these statements are certain
abbrev pub PlansAre : ℕ → List Run → List ℕ → List ℕ → List (List ℕ) → List ℕ → Type 0
PlansAre w rs es pins rows sure = Settled w (λ p. ClausePlan w rs es p) pins rows sure

-- there is no plan
abbrev pub NoPlan : ℕ → List Run → List ℕ → Type 0
NoPlan w rs es = (p : List ℕ) → ClausePlan w rs es p → ⊥

-- the outcome of a partial
abbrev pub ExtendsTo : ℕ → List Run → List ℕ → List ℕ → Out → Type 0
ExtendsTo w rs es p o = outcome (clause_forces w rs es) p ≡ o
