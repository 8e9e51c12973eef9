-- Which plans a set has and what is certain in it, for cases that are settled by running through all rows.
--   Among     a list has an element
--   Exactly   the plans that agree with the pins are those of a list
--   Certain   a statement holds in every plan that agrees with the pins
--   Settled   the plans, and which statements are certain
--   all_rows, agreeing, picked, sure_from   the same by computation
use Rattle.std.specs.Prelude.{◌≡◌, ℕ, zero, suc, ◌<◌, Bool, true, cond, ◌&&◌, ◌||◌, ◌⊎◌, List, [], ◌∷◌, ◌++◌, map, filter, ◌==◌, slice_index}
use Rattle.std.specs.List.{list_all}
use Rattle.source.specs.Plans.{Agrees}

-- the list has x
abbrev pub Among : {X : Type 0} → X → List X → Type 0
Among x [] = ⊥
Among x (y ∷ ys) = (y ≡ x) ⊎ Among x ys

-- the plans that agree with the pins are exactly these
abbrev pub Exactly : (List ℕ → Type 0) → List ℕ → List (List ℕ) → Type 0
Exactly plan pins rows = (p : List ℕ) → (plan p → Agrees pins p → Among p rows) × (Among p rows → plan p × Agrees pins p)

-- s holds in every plan that agrees with the pins
abbrev pub Certain : (List ℕ → Type 0) → List ℕ → ℕ → Type 0
Certain plan pins s = (p : List ℕ) → plan p → Agrees pins p → slice_index p s ≡ 1

-- the plans that agree with the pins, and the statements that are certain then
pub record Settled (w : ℕ) (plan : List ℕ → Type 0) (pins : List ℕ) (rows : List (List ℕ)) (sure : List ℕ) : Type 0 where
  pub plans : Exactly plan pins rows
  pub certain : (s : ℕ) → s < w → (Certain plan pins s → Among s sure) × (Among s sure → Certain plan pins s)

-- every row of ones and twos, a two first
abbrev pub all_rows : ℕ → List (List ℕ)
all_rows zero = [] ∷ []
all_rows (suc n) = map (λ r. 2 ∷ r) (all_rows n) ++ map (λ r. 1 ∷ r) (all_rows n)

-- the row has the pins' byte wherever that is not 0
abbrev pub agreeing : List ℕ → List ℕ → Bool
agreeing [] p = true
agreeing (b ∷ bs) [] = b == 0 && agreeing bs []
agreeing (b ∷ bs) (x ∷ p) = (b == 0 || x == b) && agreeing bs p

-- the rows that pass the test and agree with the pins
abbrev pub picked : ℕ → (List ℕ → Bool) → List ℕ → List (List ℕ)
picked w test pins = filter (λ r. test r && agreeing pins r) (all_rows w)

-- s holds in every row
abbrev pub holds_in : ℕ → List (List ℕ) → Bool
holds_in s rows = list_all (λ r. slice_index r s == 1) rows

-- the n statements from s on that hold in every row
abbrev pub sure_from : ℕ → ℕ → List (List ℕ) → List ℕ
sure_from s zero rows = []
sure_from s (suc n) rows = cond (holds_in s rows) (s ∷ sure_from (suc s) n rows) (sure_from (suc s) n rows)
