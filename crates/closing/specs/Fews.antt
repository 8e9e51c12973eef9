-- Which entries of a list fail a test: none, only one, or several.
use Rattle.std.specs.Prelude.{◌≡◌, ℕ, ◌<◌, Bool, true, false, ◌≢◌, List, length, slice_index}
use Rattle.closing.specs.declared.Few.{Few}
use Rattle.closing.specs.declared.Few.TheVariants.{Nothing, Only, Several}

-- what the calls at entries answer is what the test says
abbrev pub Answers : (ℕ → Bool → Type 0) → (ℕ → Bool) → List ℕ → Type 0
Answers post t b = (k : ℕ) → k < length b → (r : Bool) → post (slice_index b k) r → r ≡ t (slice_index b k)

-- which of the first n entries, read as a set, fail the test
abbrev pub LacksBelow : (ℕ → Bool) → List ℕ → ℕ → Few ℕ → Type 0
LacksBelow t b n Nothing = (k : ℕ) → k < n → t (slice_index b k) ≡ true
LacksBelow t b n (Only e) =
    ((k : ℕ) × (k < n) × (slice_index b k ≡ e)) × (t e ≡ false) × ((k : ℕ) → k < n → slice_index b k ≢ e → t (slice_index b k) ≡ true)
LacksBelow t b n Several =
    (j k : ℕ) × (j < n) × (k < n) × (slice_index b j ≢ slice_index b k) × (t (slice_index b j) ≡ false) × (t (slice_index b k) ≡ false)

-- which entries, read as a set, fail the test
abbrev pub Lacks : (ℕ → Bool) → List ℕ → Few ℕ → Type 0
Lacks t b f = LacksBelow t b (length b) f
