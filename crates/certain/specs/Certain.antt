-- What holds in every plan of a source.
--   Certain    a statement that holds in every plan that agrees with the pins
--   only_mark  the group of one statement
--   Told       what comes of asking whether a statement is certain
use Rattle.std.specs.Prelude.{◌≡◌, ℕ, Bool, true, false, List, replicate, Ok, Err, Result, ◌≢◌, slice_index, slice_set}
use Rattle.source.specs.declared.Refusal.{Refusal}
use Rattle.source.specs.Plans.{Agrees}
use Rattle.source.specs.Asked.{Refused, Taken}

-- statement k holds in every plan that agrees with the pins
abbrev pub Certain : (List ℕ → Type 0) → List ℕ → ℕ → Type 0
Certain plan pins k = (p : List ℕ) → plan p → Agrees pins p → slice_index p k ≡ 1

-- n statements of which k alone is marked; none is where k is not one of them
abbrev pub only_mark : ℕ → ℕ → List ℕ
only_mark n k = slice_set (replicate n 0) k 1

-- true exactly when it is certain, with the place as before; false with a plan in the place in which it does not hold;
-- a refusal by its cause, with the place as before
abbrev pub Told : ℕ → (List ℕ → Type 0) → List ℕ → ℕ → List ℕ → List ℕ → Result Bool Refusal → List ℕ → Type 0
Told w plan pins k group before (Ok true) after = Taken w pins group before × Certain plan pins k × (after ≡ before)
Told w plan pins k group before (Ok false) after =
    Taken w pins group before × plan after × Agrees pins after × (slice_index after k ≢ 1)
Told w plan pins k group before (Err e) after = Refused w pins group before e × (after ≡ before)
