-- What one rule's turn promises, and a pass of all rules.
use Rattle.std.specs.Prelude.{◌≡◌, ℕ, ◌+◌, ◌/◌, ◌%◌, ◌<◌, Bool, true, false, cond, List, [], ◌∷◌, length, Ok, Err, Result, ◌==◌, slice_index, slice_set}
use Rattle.source.specs.Plans.{UpTo, Partial}
use Rattle.source.specs.declared.Refusal.{Refusal}
use Rattle.base.specs.Laws.{clash, fits}
use Rattle.base.specs.declared.Outcome.{Outcome}
use Rattle.base.specs.declared.Outcome.TheVariants.{Fits, Clash as Clashes}
use Rattle.closing.specs.Sets.{holds, contrary, Under, tabulate, byte_of}
use Rattle.closing.specs.Forces.{Forces, KeptAt, Kept, Free, Barred, Least, outcome}
use Rattle.closing.specs.declared.Clash.{Clash}

abbrev pub undecided : List ℕ → ℕ
undecided [] = 0
undecided (x ∷ xs) = cond (x == 0) 1 0 + undecided xs

-- q decides more than p, and only what every set under the law L has that has all of p
pub record Further (L : (ℕ → Bool) → Type 0) (p q : List ℕ) : Type 0 where
  pub long : length q ≡ length p
  pub small : UpTo 2 q
  pub fewer : undecided q < undecided p
  pub forced : (C : ℕ → Bool) → L C → Under C p → Under C q
  pub grows : Under (holds q) p

-- the turn of rule k: nothing to do, or further, or every kept set that has all of p is barred
abbrev pub Turn : Forces → ℕ → List ℕ → List ℕ → Result Bool Clash → Type 0
Turn R k p q (Ok false) = (q ≡ p) × KeptAt R k (holds p) × (R.bar k (holds p) ≡ false)
Turn R k p q (Ok true) = Further (KeptAt R k) p q
Turn R k p q (Err c) = (C : ℕ → Bool) → KeptAt R k C → Under C p → Barred R C

-- a pass of all rules
abbrev pub Pass : Forces → List ℕ → List ℕ → Result Bool Clash → Type 0
Pass R p q (Ok false) = (q ≡ p) × Kept R (holds p) × Free R (holds p)
Pass R p q (Ok true) = Further (Kept R) p q
Pass R p q (Err c) = (C : ℕ → Bool) → Kept R C → Under C p → Barred R C

-- after the rules below i: nothing has changed and they have nothing to do, or further
abbrev pub Through : Forces → List ℕ → ℕ → List ℕ → Bool → Type 0
Through R p i q true = Further (Kept R) p q
Through R p i q false = (q ≡ p) × ((k : ℕ) → k < i → KeptAt R k (holds p) × (R.bar k (holds p) ≡ false))

-- after whole passes that changed something: a partial that has all of p, and only what every kept set has that has all of p
pub record Passed (R : Forces) (p q : List ℕ) : Type 0 where
  pub partial : Partial R.width q
  pub forced : (C : ℕ → Bool) → Kept R C → Under C p → Under C q
  pub grows : Under (holds q) p

-- after the last pass: the outcome, or a clash
abbrev pub Closes : Forces → List ℕ → List ℕ → Result Unit Clash → Type 0
Closes R p q (Ok _) = outcome R p ≡ fits q
Closes R p q (Err c) = outcome R p ≡ clash

-- an entry made to hold
abbrev pub Made : List ℕ → ℕ → List ℕ → Result Bool Clash → Type 0
Made p e q (Ok false) = (q ≡ p) × (holds p e ≡ true)
Made p e q (Ok true) = (slice_index p (e / 2) ≡ 0) × (q ≡ slice_set p (e / 2) (1 + e % 2))
Made p e q (Err c) = (q ≡ p) × (holds p (contrary e) ≡ true)

-- the extension in lent memory
abbrev pub Extended : Forces → List ℕ → List ℕ → Outcome → Type 0
Extended R p q Fits = outcome R p ≡ fits q
Extended R p q Clashes = (outcome R p ≡ clash) × (q ≡ p)

-- the answer by the least set: its bytes where no rule bars it, a clash where one does
abbrev pub ByClosure : Forces → List ℕ → Result Outcome Refusal → List ℕ → Type 0
ByClosure R p (Ok Fits) q = (C : ℕ → Bool) → Least R p C → Free R C × (q ≡ tabulate R.width (byte_of C))
ByClosure R p (Ok Clashes) q = (C : ℕ → Bool) → Least R p C → Barred R C
ByClosure R p (Err e) q = Unit {0}
