-- The law over uses: no promise is ever taken back. It holds of every use, at whatever moment it is stopped.
use Rattle.std.specs.Prelude.{◌≡◌, ℕ, ◌<◌, true, ◌↔◌, List, [], ◌∷◌, ◌++◌}
use Rattle.uses.specs.declared.Word.TheVariants.{Open, Certain, Loose}
use Rattle.uses.specs.Model.{State, Call, Reply}
use Rattle.uses.specs.Step.{Step}
use Rattle.uses.specs.Use.{Event, event, accepted, is_settling, candidates_by, begun_by, no_pin, Number, Calls, Use, Told, HoldsInAll, FailsInSome}

module _ (w : ℕ) (plan : List ℕ → Type 0) where
  -- what holds at a stop: `es` are the calls up to it, m is the sheet at it
  pub record AtStop (es : List Event) (m : State) : Type 0 where
    -- what is told certain is true
    pub certain : (k : ℕ) → Told w plan es m Certain k → HoldsInAll w plan es k
    -- what is told loose has a witness
    pub loose : (k : ℕ) → Told w plan es m Loose k → FailsInSome w plan es k
    -- where the sheet is begun and none is open, certain is exactly what holds in all
    pub complete
        : begun_by es ≡ true → ((k : ℕ) → Told w plan es m Open k → ⊥)
        → (k : ℕ) → candidates_by es k ≡ true → Told w plan es m Certain k ↔ HoldsInAll w plan es k

  -- what holds between an earlier moment, with the sheet m after the calls es, and the stop, with the sheet n after the calls `later` too
  pub record Between (es : List Event) (m : State) (later : List Event) (n : State) : Type 0 where
    -- certain stays certain, and stays true under the pins accepted since
    pub certain : (k : ℕ) → Told w plan es m Certain k → Told w plan (later ++ es) n Certain k × HoldsInAll w plan (later ++ es) k
    -- loose stays loose until a pin is accepted
    pub loose : no_pin later ≡ true → (k : ℕ) → Told w plan es m Loose k → Told w plan (later ++ es) n Loose k

  -- the call lowered the number of candidates told open
  unfoldable pub Lowers : List Event → State → Call → Reply → State → Type 0
  Lowers es m c r n =
      (a : ℕ) × (b : ℕ) × Number (Told w plan es m Open) w a × Number (Told w plan (event c r ∷ es) n Open) w b × (b < a)

  -- a moment of the use `es` that ends in the sheet n: `older` are the calls by then, m is the sheet then, `later` are the calls after it
  pub record Moment (es : List Event) (n : State) (older : List Event) (m : State) (later : List Event) : Type 0 where
    pub parts : later ++ older ≡ es
    pub before : Use w plan older m
    pub after : Calls w plan m later n

  -- the whole law, of the use `es` that ends in the sheet n
  pub record Kept (es : List Event) (n : State) : Type 0 where
    -- wherever it is stopped
    pub stops
        : (older : List Event) (m : State) (later : List Event) → Moment es n older m later → AtStop older m
    -- between any moment and any later stop
    pub moments
        : (older : List Event) (m : State) (middle : List Event) (o : State) (later : List Event)
        → Use w plan older m → Calls w plan m middle o → Moment es n (middle ++ older) o later
        → Between older m middle o
    -- every accepted settling lowered the number of open candidates
    pub settlings
        : (older : List Event) (m : State) (c : Call) (r : Reply) (o : State) (later : List Event)
        → Use w plan older m → Step w plan m c r o → Moment es n (event c r ∷ older) o later
        → is_settling c ≡ true → accepted r ≡ true
        → Lowers older m c r o

  -- what making a sheet promises: the use without calls leads to it, and the law holds of that use
  unfoldable pub Starts : State → Type 0
  Starts n = Use w plan [] n × Kept [] n

  -- what every call promises: whatever use led to the sheet m, with this call and this answer it is a use that goes from m on to the sheet n,
  -- and the law holds of it
  unfoldable pub Continues : State → Call → Reply → State → Type 0
  Continues m c r n =
      (es : List Event) → Use w plan es m
      → Moment (event c r ∷ es) n es m (event c r ∷ []) × Use w plan (event c r ∷ es) n × Kept (event c r ∷ es) n
