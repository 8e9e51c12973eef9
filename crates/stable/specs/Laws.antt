-- The theorems on rulebooks.
--   PlansAreKept       a plan's decisions are kept by the five rules
--   KeptArePlans       decisions that give each statement one value and are kept are a plan's
--   ClosureIsLeast     the closure, as it computes, is the least kept set
--   PlansAgree          every plan that agrees with a partial agrees with its closure
--   ClashMeansNoPlan  where the closure has both values, or a headless rule has an empty body, no plan agrees
--   WholeIsPlan        a closure with one value for each statement is a plan's, unless a headless rule has an empty body
--   OutcomeIsClosure   the outcome, as it computes, is the closure or a clash
--   BookLawful          a rulebook makes a base
--   TestsTell           the tests that compute say what the definitions say
use Rattle.std.specs.Prelude.{◌≡◌, ℕ, Bool, true, ◌⊎◌, List}
use Rattle.source.specs.Plans.{Agrees}
use Rattle.base.specs.Laws.{Lawful}
use Rattle.closing.specs.Sets.{holds, Within, Sub}
use Rattle.closing.specs.Forces.{closure, outcome}
use Rattle.closing.specs.Forces as forcing
use Rattle.stable.specs.Books.{Book, Sound, IsPlan, Kept, Total, holding, BookPlan, ClosureOf, Contradictory, Bodiless, OutcomeOf}
use Rattle.stable.specs.Decide.{book_forces, is_plan}

-- the decisions of a plan are kept by the five rules
abbrev pub PlansAreKept : Type 0
PlansAreKept = (rb : Book) → Sound rb → (D : ℕ → Bool) → Total rb.width D → IsPlan rb (holding D) → Kept rb D

-- decisions that give each statement one value and that they keep are a plan's, unless a headless rule has an empty body
abbrev pub KeptArePlans : Type 0
KeptArePlans = (rb : Book) → Sound rb → (D : ℕ → Bool) → Total rb.width D → Kept rb D → (Bodiless rb → ⊥) → IsPlan rb (holding D)

-- the closure, as it computes, is the least set of decisions that contains the partial and is kept by the five rules
abbrev pub ClosureIsLeast : Type 0
ClosureIsLeast = (rb : Book) → Sound rb → (p : List ℕ) → ClosureOf rb p (closure (book_forces rb) p)

-- every plan that agrees with a partial agrees with its closure
abbrev pub PlansAgree : Type 0
PlansAgree = (rb : Book) → Sound rb → (p : List ℕ) (C : ℕ → Bool) → ClosureOf rb p C → (x : List ℕ) → BookPlan rb x → Agrees p x → Sub C (holds x)

-- a contradictory closure, or a headless rule with an empty body, means that no plan agrees
abbrev pub ClashMeansNoPlan : Type 0
ClashMeansNoPlan = (rb : Book) → Sound rb → (p : List ℕ) (C : ℕ → Bool) → ClosureOf rb p C → Contradictory C ⊎ Bodiless rb → (x : List ℕ) → BookPlan rb x → Agrees p x → ⊥

-- a closure that gives each statement one value is a plan's, unless a headless rule has an empty body
abbrev pub WholeIsPlan : Type 0
WholeIsPlan = (rb : Book) → Sound rb → (p : List ℕ) (C : ℕ → Bool) → ClosureOf rb p C → Total rb.width C → (Bodiless rb → ⊥) → IsPlan rb (holding C)

-- the outcome, as it computes, is the closure, or a clash where it has both values or a headless rule has an empty body
abbrev pub OutcomeIsClosure : Type 0
OutcomeIsClosure = (rb : Book) → Sound rb → (p : List ℕ) → OutcomeOf rb p (outcome (book_forces rb) p)

-- a rulebook makes a base
abbrev pub BookLawful : Type 0
BookLawful = (rb : Book) → Sound rb → Lawful rb.width (λ p. BookPlan rb p) (outcome (book_forces rb))

-- the tests that compute say what the definitions say
abbrev pub TestsTell : Type 0
TestsTell =
    (rb : Book) (X : ℕ → Bool) →
    (Within rb.width X → is_plan rb X ≡ true → IsPlan rb X) × (IsPlan rb X → is_plan rb X ≡ true) ×
    (Sound rb → forcing.kept (book_forces rb) X ≡ true → Kept rb X) × (Kept rb X → forcing.kept (book_forces rb) X ≡ true)
