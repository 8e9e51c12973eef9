-- What extending a partial answers and writes.
use Rattle.std.specs.Prelude.{◌≡◌, ℕ, List, length, Ok, Err, Result}
use Rattle.source.specs.Plans.{UpTo, Partial}
use Rattle.source.specs.declared.Refusal.{Refusal}
use Rattle.source.specs.declared.Refusal.TheVariants.{Length, Value, Mark, Wide}
use Rattle.base.specs.declared.Outcome.{Outcome}
use Rattle.base.specs.declared.Outcome.TheVariants.{Fits, Clash}
use Rattle.base.specs.Laws.{Out, clash, fits}

-- the cause of each refusal, the row higher up first: the length (1), then a byte over 2 (2)
abbrev pub Refused : ℕ → List ℕ → Refusal → Type 0
Refused w q Length = length q ≡ w → ⊥
Refused w q Value = (length q ≡ w) × (UpTo 2 q → ⊥)
Refused w q Mark = ⊥
Refused w q Wide = ⊥

-- fits and the extended partial, clash and the partial as before, or refused and the partial as before
abbrev pub Extends : ℕ → (List ℕ → Out) → List ℕ → Result Outcome Refusal → List ℕ → Type 0
Extends w o before (Ok Fits) after = Partial w before × (o before ≡ fits after)
Extends w o before (Ok Clash) after = Partial w before × (o before ≡ clash) × (after ≡ before)
Extends w o before (Err e) after = Refused w before e × (after ≡ before)

-- a partial, or the refusal
abbrev pub Checked : ℕ → List ℕ → Result Unit Refusal → Type 0
Checked w q (Ok _) = Partial w q
Checked w q (Err e) = Refused w q e
