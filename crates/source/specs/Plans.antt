-- Partials, plans and groups as lists of bytes, and the order of plans: a byte for each statement.
--   UpTo         no byte over n
--   Partial      a partial of a width: 0 undecided, 1 holds, 2 fails
--   Whole        a partial without 0
--   AgreesAt     a plan has the partial's byte wherever that is not 0
--   Agrees       the same, of a partial as bytes
--   Marks        a group that marks a statement
--   FailsMarked  a plan that fails at a marked statement
--   Meets        fails at a marked statement, if there is one
--   Serves       agrees with the pins and meets the group
--   Of           the plans of a source
--   Before       the order of plans
--   First        the first plan of a set
use Rattle.std.specs.Prelude.{◌≡◌, ℕ, ◌<◌, ◌≤◌, ◌⊎◌, List, length, ◌≢◌, slice_index, slice_index_or}

-- each byte is at most n
abbrev pub UpTo : ℕ → List ℕ → Type 0
UpTo n xs = (k : ℕ) → k < length xs → slice_index xs k ≤ n

-- a partial of width w: that many bytes, each 0 (undecided), 1 (holds) or 2 (fails)
abbrev pub Partial : ℕ → List ℕ → Type 0
Partial w q = (length q ≡ w) × UpTo 2 q

-- a partial of width w that leaves nothing undecided: each byte is 1 (holds) or 2 (fails)
abbrev pub Whole : ℕ → List ℕ → Type 0
Whole w p = (length p ≡ w) × ((k : ℕ) → k < w → (slice_index p k ≡ 1) ⊎ (slice_index p k ≡ 2))

-- p has the same byte wherever the partial is not 0; the partial as a function from statements
abbrev pub AgreesAt : (ℕ → ℕ) → List ℕ → Type 0
AgreesAt pin p = (k : ℕ) → (pin k ≢ 0) → slice_index p k ≡ pin k

-- the same, of a partial as bytes
abbrev pub Agrees : List ℕ → List ℕ → Type 0
Agrees pins p = AgreesAt (λ k. slice_index pins k) p

-- the group marks a statement at least: its byte is 1
abbrev pub Marks : List ℕ → Type 0
Marks group = (k : ℕ) × (slice_index group k ≡ 1)

-- p fails at a marked statement at least
abbrev pub FailsMarked : List ℕ → List ℕ → Type 0
FailsMarked group p = (k : ℕ) × (slice_index group k ≡ 1) × (slice_index p k ≡ 2)

-- where the group marks any statement, p fails at a marked one at least; an empty group demands nothing
abbrev pub Meets : List ℕ → List ℕ → Type 0
Meets group p = Marks group → FailsMarked group p

-- p is what a question looks for: it agrees with the pins and meets the group
abbrev pub Serves : List ℕ → List ℕ → List ℕ → Type 0
Serves pins group p = Agrees pins p × Meets group p

-- the plans of a source of width w: those of its set that are whole partials of that width
abbrev pub Of : ℕ → (List ℕ → Type 0) → List ℕ → Type 0
Of w plan p = plan p × Whole w p

-- p comes before q: it fails at the lowest statement where they differ, and q holds there
pub record Before (p q : List ℕ) : Type 0 where
  pub at : ℕ
  pub within : at < length p
  pub below : (k : ℕ) → k < at → slice_index p k ≡ slice_index q k
  pub fails : slice_index_or p at 0 ≡ 2
  pub holds : slice_index_or q at 0 ≡ 1

-- p is the first of the plans that P has: every other one comes after it
pub record First (P : List ℕ → Type 0) (p : List ℕ) : Type 0 where
  pub good : P p
  pub least : (q : List ℕ) → P q → (q ≡ p) ⊎ Before p q
