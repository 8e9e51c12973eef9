-- Uses of a sheet: its calls with their answers from the making on, and what they say of pins, candidates and words.
use Rattle.std.specs.Prelude.{◌≡◌, ℕ, suc, Bool, true, false, cond, List, [], ◌∷◌, ◌==◌, slice_index}
use Rattle.source.specs.Plans.{AgreesAt}
use Rattle.uses.specs.declared.Word.{Word}
use Rattle.uses.specs.Model.{word_number, State, Fresh, Call, Reply, begin, settle, settle_by, pin, tell, tally, refused, done, settled, told, tallied}
use Rattle.uses.specs.Step.{Step, pinned_at}

-- a call and its answer
pub data Event : Type 0 where
  event : Call → Reply → Event

-- the answer is no refusal
abbrev pub accepted : Reply → Bool
accepted (refused e) = false
accepted done = true
accepted (settled n) = true
accepted (told v) = true
accepted (tallied a b c) = true

-- the pins after an accepted call
abbrev pub on_pin : Call → (ℕ → ℕ) → ℕ → ℕ
on_pin (begin c) f k = f k
on_pin (settle g) f k = f k
on_pin (settle_by n size) f k = f k
on_pin (pin s way) f k = pinned_at f s way k
on_pin (tell s) f k = f k
on_pin tally f k = f k

-- the candidates after an accepted call
abbrev pub on_begin : Call → (ℕ → Bool) → ℕ → Bool
on_begin (begin c) f k = slice_index c k == 1
on_begin (settle g) f k = f k
on_begin (settle_by n size) f k = f k
on_begin (pin s way) f k = f k
on_begin (tell s) f k = f k
on_begin tally f k = f k

-- the call is a begin
abbrev pub is_begin : Call → Bool
is_begin (begin c) = true
is_begin (settle g) = false
is_begin (settle_by n size) = false
is_begin (pin s way) = false
is_begin (tell s) = false
is_begin tally = false

-- the call is a pin
abbrev pub is_pin : Call → Bool
is_pin (begin c) = false
is_pin (settle g) = false
is_pin (settle_by n size) = false
is_pin (pin s way) = true
is_pin (tell s) = false
is_pin tally = false

-- the call is a settling, by name or not
abbrev pub is_settling : Call → Bool
is_settling (begin c) = false
is_settling (settle g) = true
is_settling (settle_by n size) = true
is_settling (pin s way) = false
is_settling (tell s) = false
is_settling tally = false

-- of the calls and answers so far, the newest first: the pins accepted, each one's way at its statement and 0 elsewhere
abbrev pub pins_by : List Event → ℕ → ℕ
pins_by [] k = 0
pins_by (event c r ∷ es) k = cond (accepted r) (on_pin c (pins_by es) k) (pins_by es k)

-- the candidates: those marked in the begin that was not refused, and none before it
abbrev pub candidates_by : List Event → ℕ → Bool
candidates_by [] k = false
candidates_by (event c r ∷ es) k = cond (accepted r) (on_begin c (candidates_by es) k) (candidates_by es k)

-- some begin was not refused
abbrev pub begun_by : List Event → Bool
begun_by [] = false
begun_by (event c r ∷ es) = cond (accepted r) (cond (is_begin c) true (begun_by es)) (begun_by es)

-- no pin was accepted
abbrev pub no_pin : List Event → Bool
no_pin [] = true
no_pin (event c r ∷ es) = cond (accepted r) (cond (is_pin c) false (no_pin es)) (no_pin es)

-- n is the number of statements below w of which P holds
pub data Number (P : ℕ → Type 0) : ℕ → ℕ → Type 0 where
  nil : Number P 0 0
  one : {w n : ℕ} → P w → Number P w n → Number P (suc w) (suc n)
  not : {w n : ℕ} → (P w → ⊥) → Number P w n → Number P (suc w) n

module _ (w : ℕ) (plan : List ℕ → Type 0) where
  -- calls one after the other, the newest first, from the sheet m to another
  pub data Calls (m : State) : List Event → State → Type 0 where
    stop : Calls m [] m
    next
        : {es : List Event} {n o : State} {c : Call} {r : Reply}
        → Calls m es n → Step w plan n c r o → Calls m (event c r ∷ es) o

  -- a use of a sheet from its making on, any list of calls with their answers, that leads to a sheet
  pub data Use : List Event → State → Type 0 where
    from : {m n : State} {es : List Event} → Fresh m → Calls m es n → Use es n

  -- at the moment after the calls es, where the sheet is m, k is a candidate and tell would answer v
  pub record Told (es : List Event) (m : State) (v : Word) (k : ℕ) : Type 0 where
    pub candidate : candidates_by es k ≡ true
    pub answer : Step w plan m (tell k) (told (word_number v)) m

  -- k holds in every plan that agrees with all pins accepted
  unfoldable pub HoldsInAll : List Event → ℕ → Type 0
  HoldsInAll es k = (p : List ℕ) → plan p → AgreesAt (pins_by es) p → slice_index p k ≡ 1

  -- k fails in some plan that agrees with all pins accepted
  unfoldable pub FailsInSome : List Event → ℕ → Type 0
  FailsInSome es k = (p : List ℕ) × plan p × AgreesAt (pins_by es) p × (slice_index p k ≡ 2)
