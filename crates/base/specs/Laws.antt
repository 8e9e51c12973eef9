-- What a base means: a width, a set of plans, one outcome for each partial, and their laws.
use Rattle.std.specs.Prelude.{◌≡◌, ℕ, ◌≤◌, List}
use Rattle.source.specs.Plans.{Partial, Whole, Agrees}

-- what comes of a partial: a clash, or the extended partial
pub data Out : Type 0 where
  clash : Out
  fits : List ℕ → Out

-- what every base shows
pub record Lawful (w : ℕ) (plan : List ℕ → Type 0) (o : List ℕ → Out) : Type 0 where
  pub narrow : w ≤ 512
  -- a plan has the width, and bytes 1 and 2 only
  pub shaped : (p : List ℕ) → plan p → Whole w p
  -- what is written is a partial
  pub written : (q r : List ℕ) → Partial w q → o q ≡ fits r → Partial w r
  -- decided bytes stay
  pub stay : (q r : List ℕ) → Partial w q → o q ≡ fits r → Agrees q r
  -- every plan that agrees with the partial given agrees with the extended one
  pub keeps : (q r : List ℕ) → Partial w q → o q ≡ fits r → (p : List ℕ) → plan p → Agrees q p → Agrees r p
  -- a clash comes only if no plan agrees
  pub clashes : (q : List ℕ) → Partial w q → o q ≡ clash → (p : List ℕ) → plan p → Agrees q p → ⊥
  -- a partial written whole is a plan
  pub wholes : (q r : List ℕ) → Partial w q → o q ≡ fits r → Whole w r → plan r
