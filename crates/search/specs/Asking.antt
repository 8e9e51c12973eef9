-- What the search promises: the first plan that serves.
--   Serving     the plans that serve
--   FirstAsked  the whole contract of a question that is answered by the first serving plan
--   OnlyFirst   no other answer than the first serving plan
use Rattle.std.specs.Prelude.{◌≡◌, ℕ, List, Ok, Err, Result}
use Rattle.source.specs.declared.Refusal.{Refusal}
use Rattle.source.specs.declared.Answer.{Answer}
use Rattle.source.specs.declared.Answer.TheVariants.{Plan}
use Rattle.source.specs.Plans.{Serves, First}
use Rattle.source.specs.Asked.{Refused, Taken}
use Rattle.walk.specs.Finding.{FirstOf}

-- p is one of the plans, and it serves
abbrev pub Serving : (List ℕ → Type 0) → List ℕ → List ℕ → List ℕ → Type 0
Serving plan pins group p = plan p × Serves pins group p

-- a refusal with its cause and the place as before, or the question is taken and the answer is the first plan that
-- serves, in the place, or nothing, exactly when none serves, with the place as before
abbrev pub FirstAsked : ℕ → (List ℕ → Type 0) → List ℕ → List ℕ → List ℕ → Result Answer Refusal → List ℕ → Type 0
FirstAsked w plan pins group before (Err e) after = Refused w pins group before e × (after ≡ before)
FirstAsked w plan pins group before (Ok a) after = Taken w pins group before × FirstOf (Serving plan pins group) before a after

-- a question that is taken, and whose first serving plan is p, is answered by p
abbrev pub OnlyFirst : ℕ → (List ℕ → Type 0) → List ℕ → List ℕ → List ℕ → Result Answer Refusal → List ℕ → Type 0
OnlyFirst w plan pins group before r after =
    Taken w pins group before → (p : List ℕ) → First (Serving plan pins group) p → (r ≡ Ok Plan) × (after ≡ p)
