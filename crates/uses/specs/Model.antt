-- The state of a sheet, its calls and their answers, as values.
use Rattle.std.specs.Prelude.{◌≡◌, ℕ, zero, suc, ◌+◌, Bool, false, cond, List, ◌==◌, nat_lt}
use Rattle.uses.specs.declared.SheetRefusal.{SheetRefusal}
use Rattle.uses.specs.declared.SheetRefusal.TheVariants.{Length, Value, Mark, Wide, Unbegun, Begun, NoneOpen, Group, Name, Statement, Pinned, NoPlan, Candidate}
use Rattle.uses.specs.declared.Word.{Word}
use Rattle.uses.specs.declared.Word.TheVariants.{Open, Certain, Loose}

-- the number of each refusal
abbrev pub number_of : SheetRefusal → ℕ
number_of Length = 1
number_of Value = 2
number_of Mark = 3
number_of Wide = 4
number_of Unbegun = 5
number_of Begun = 6
number_of NoneOpen = 7
number_of Group = 8
number_of Name = 9
number_of Statement = 10
number_of Pinned = 11
number_of NoPlan = 12
number_of Candidate = 13

-- the number of each word
abbrev pub word_number : Word → ℕ
word_number Open = 0
word_number Certain = 1
word_number Loose = 2

-- the state of a sheet: whether it is begun, and for each statement whether it is a candidate, its pin and its word's number
pub record State : Type 0 where
  pub begun : Bool
  pub mark : ℕ → Bool
  pub pin : ℕ → ℕ
  pub word : ℕ → ℕ

-- a sheet as it is made
pub record Fresh (m : State) : Type 0 where
  pub begun : m.begun ≡ false
  pub mark : (k : ℕ) → m.mark k ≡ false
  pub pin : (k : ℕ) → m.pin k ≡ 0
  pub word : (k : ℕ) → m.word k ≡ word_number Open

-- k is a candidate whose word is v
abbrev pub has : State → Word → ℕ → Bool
has m v k = cond (m.mark k) (m.word k == word_number v) false

-- k is an open candidate
abbrev pub is_open : State → ℕ → Bool
is_open m k = has m Open k

-- how many numbers below n pass a test
abbrev pub counted_by : (ℕ → Bool) → ℕ → ℕ
counted_by f zero = 0
counted_by f (suc n) = cond (f n) 1 0 + counted_by f n

-- how many candidates below n have the word v
abbrev pub counted : State → Word → ℕ → ℕ
counted m v n = counted_by (has m v) n

-- k is one of the lowest open candidates, `limit` at most
abbrev pub lowest : State → ℕ → ℕ → Bool
lowest m limit k = cond (is_open m k) (nat_lt (counted m Open k) limit) false

-- a call with its arguments: candidates and groups as bytes, the technique as the bytes of its name with its size, a pin as statement and way
pub data Call : Type 0 where
  begin : List ℕ → Call
  settle : List ℕ → Call
  settle_by : List ℕ → ℕ → Call
  pin : ℕ → ℕ → Call
  tell : ℕ → Call
  tally : Call

-- an answer: a refusal; done, of begin and pin; how many ceased to be open; the number of a word; how many are open, certain, loose
pub data Reply : Type 0 where
  refused : SheetRefusal → Reply
  done : Reply
  settled : ℕ → Reply
  told : ℕ → Reply
  tallied : ℕ → ℕ → ℕ → Reply
