-- The plans in which some statement holds, found out only when all is decided.
use Rattle.std.specs.Prelude.{◌≡◌, ℕ, Bool, false, cond, List, ◌==◌}
use Rattle.std.specs.List.{list_all}
use Rattle.source.specs.Plans.{Whole}
use Rattle.base.specs.Laws.{Out, clash, fits}

-- every statement fails
abbrev pub all_fail : List ℕ → Bool
all_fail bs = list_all (λ b. b == 2) bs

-- a plan: whole, and some statement holds
abbrev pub HoldsSomewhere : ℕ → List ℕ → Type 0
HoldsSomewhere w p = Whole w p × (all_fail p ≡ false)

-- a clash where every statement fails; else nothing is added
abbrev pub some_outcome : List ℕ → Out
some_outcome q = cond (all_fail q) clash (fits q)
