-- What a walk promises: the first plan of a base that agrees with the pins.
--   Unfit          the cause of each refusal
--   FirstOf        the answer is the first of a set of plans, or nothing exactly when it has none
--   FirstAgreeing  the whole contract
use Rattle.std.specs.Prelude.{◌≡◌, ℕ, List, length, Ok, Err, Result}
use Rattle.source.specs.declared.Refusal.{Refusal}
use Rattle.source.specs.declared.Refusal.TheVariants.{Length, Value, Mark, Wide}
use Rattle.source.specs.declared.Answer.{Answer}
use Rattle.source.specs.declared.Answer.TheVariants.{Plan, Nothing}
use Rattle.source.specs.Plans.{UpTo, Partial, First}
use Rattle.first.specs.Tree.{Below}

-- the cause of each refusal: a length that is not the width comes first, then a byte of the pins over 2
abbrev pub Unfit : ℕ → List ℕ → List ℕ → Refusal → Type 0
Unfit w pins place Length = (length pins ≡ w) × (length place ≡ w) → ⊥
Unfit w pins place Value = (length pins ≡ w) × (length place ≡ w) × (UpTo 2 pins → ⊥)
Unfit w pins place Mark = ⊥
Unfit w pins place Wide = ⊥

-- no refusal applies
abbrev pub Fit : ℕ → List ℕ → List ℕ → Type 0
Fit w pins place = Partial w pins × (length place ≡ w)

-- the first of what P has, in the place; or nothing, exactly when P has none, with the place as before
abbrev pub FirstOf : (List ℕ → Type 0) → List ℕ → Answer → List ℕ → Type 0
FirstOf P before Plan after = First P after
FirstOf P before Nothing after = ((p : List ℕ) → P p → ⊥) × (after ≡ before)

-- a refusal with its cause and the place as before, or the first plan that agrees with the pins
abbrev pub FirstAgreeing : ℕ → (List ℕ → Type 0) → List ℕ → List ℕ → Result Answer Refusal → List ℕ → Type 0
FirstAgreeing w plan pins before (Err e) after = Unfit w pins before e × (after ≡ before)
FirstAgreeing w plan pins before (Ok a) after = Fit w pins before × FirstOf (Below plan pins) before a after
