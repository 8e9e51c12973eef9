-- Rulebooks and their plans; sets of decisions and the five rules that force entries.
use Rattle.std.specs.Prelude.{◌≡◌, ℕ, ◌+◌, ◌*◌, ◌/◌, ◌%◌, ◌<◌, ◌≤◌, Bool, true, false, ◌≢◌, ◌⊎◌, List, [], length, ◌==◌, slice_index_or}
use Rattle.std.proofs.Math.Option.{Option, some, none}
use Rattle.source.specs.Plans.{Whole}
use Rattle.base.specs.Laws.{Out, clash, fits}
use Rattle.closing.specs.Sets.{contrary, holds, In, Within, Sub, tabulate, byte_of}

-- An entry is a code: twice the statement's number, plus 1 if it says "not".
abbrev pub stmt : ℕ → ℕ
stmt e = e / 2

-- it says "not"
abbrev pub negated : ℕ → Bool
negated e = e % 2 == 1

-- a head statement or none, and a body of entries, read as a set
pub record Rule : Type 0 where
  pub head : Option ℕ
  pub body : List ℕ

-- a rulebook: so many statements, and rules; equal rules in two rows count as two
pub record Book : Type 0 where
  pub width : ℕ
  pub rules : List Rule

-- what is read past the last row
abbrev pub no_rule : Rule
no_rule = record { head = none; body = [] }

-- how many rules
abbrev pub rows : Book → ℕ
rows rb = length rb.rules

-- the rule in row i
abbrev pub row : Book → ℕ → Rule
row rb i = slice_index_or rb.rules i no_rule

-- there are at most 512 statements, and heads and entries name those
pub record Sound (rb : Book) : Type 0 where
  pub narrow : rb.width ≤ 512
  pub heads : (i h : ℕ) → i < rows rb → (row rb i).head ≡ some h → h < rb.width
  pub entries : (i e : ℕ) → i < rows rb → In e (row rb i).body → e < 2 * rb.width

-- THE REDUCT AND PLANS

-- the reduct by X keeps a rule if no "not" entry of it has its statement in X
abbrev pub InReduct : (ℕ → Bool) → Rule → Type 0
InReduct X r = (e : ℕ) → In e r.body → negated e ≡ true → X (stmt e) ≡ false

-- what the reduct leaves of the body, its plain entries, lies inside Y
abbrev pub Inside : (ℕ → Bool) → Rule → Type 0
Inside Y r = (e : ℕ) → In e r.body → negated e ≡ false → Y (stmt e) ≡ true

-- Y is closed under the headed rules of the reduct by X
abbrev pub Closed : Book → (ℕ → Bool) → (ℕ → Bool) → Type 0
Closed rb X Y =
    (i h : ℕ) → i < rows rb → (row rb i).head ≡ some h → InReduct X (row rb i) → Inside Y (row rb i) → Y h ≡ true

-- X is the least set closed under the reduct's headed rules, and no headless rule of the reduct has its body inside X
pub record IsPlan (rb : Book) (X : ℕ → Bool) : Type 0 where
  pub closed : Closed rb X X
  pub least : (Y : ℕ → Bool) → Within rb.width Y → Closed rb X Y → (s : ℕ) → X s ≡ true → Y s ≡ true
  pub allowed : (i : ℕ) → i < rows rb → (row rb i).head ≡ none → InReduct X (row rb i) → Inside X (row rb i) → ⊥

-- SETS OF DECISIONS: code 2s says that s holds, 2s + 1 that it fails

-- an entry is contradicted if its contrary is decided, and a rule is cancelled if an entry of its body is
abbrev pub Cancelled : (ℕ → Bool) → Rule → Type 0
Cancelled D r = (e : ℕ) × In e r.body × (D (contrary e) ≡ true)

-- the head fails or is missing
abbrev pub HeadFails : (ℕ → Bool) → Option ℕ → Type 0
HeadFails D none = Unit {0}
HeadFails D (some h) = D (2 * h + 1) ≡ true

-- each rule with its head in U is cancelled or has a plain entry in U
abbrev pub Unfounded : Book → (ℕ → Bool) → (ℕ → Bool) → Type 0
Unfounded rb D U =
    (i h : ℕ) → i < rows rb → (row rb i).head ≡ some h → U h ≡ true →
    Cancelled D (row rb i) ⊎ ((e : ℕ) × In e (row rb i).body × (negated e ≡ false) × (U (stmt e) ≡ true))

-- the set of decisions D is kept by the five rules
pub record Kept (rb : Book) (D : ℕ → Bool) : Type 0 where
  -- if the whole body holds, the head holds
  pub forward : (i h : ℕ) → i < rows rb → (row rb i).head ≡ some h → ((e : ℕ) → In e (row rb i).body → D e ≡ true) → D (2 * h) ≡ true
  -- if the head fails or is missing and all body entries but one hold, that one is contradicted
  pub contraposition : (i e : ℕ) → i < rows rb → HeadFails D (row rb i).head → In e (row rb i).body →
      ((f : ℕ) → In f (row rb i).body → f ≢ e → D f ≡ true) → D (contrary e) ≡ true
  -- a statement whose rules are all cancelled fails
  pub all_cancelled : (s : ℕ) → s < rb.width →
      ((i : ℕ) → i < rows rb → (row rb i).head ≡ some s → Cancelled D (row rb i)) → D (2 * s + 1) ≡ true
  -- if a statement holds and all its rules but one are cancelled, each entry of that one holds
  pub backchain : (i s : ℕ) → i < rows rb → (row rb i).head ≡ some s → D (2 * s) ≡ true →
      ((j : ℕ) → j < rows rb → j ≢ i → (row rb j).head ≡ some s → Cancelled D (row rb j)) →
      (e : ℕ) → In e (row rb i).body → D e ≡ true
  -- every statement of an unfounded set fails
  pub unfounded_fails : (U : ℕ → Bool) → Within rb.width U → Unfounded rb D U → (s : ℕ) → U s ≡ true → D (2 * s + 1) ≡ true

-- a set of decisions that gives each statement exactly one value
pub record Total (n : ℕ) (D : ℕ → Bool) : Type 0 where
  pub within : Within (2 * n) D
  pub total : (e : ℕ) → e < 2 * n → (D e ≡ true) ⊎ (D (contrary e) ≡ true)
  pub consistent : (e : ℕ) → D e ≡ true → D (contrary e) ≢ true

-- the statements that hold
abbrev pub holding : (ℕ → Bool) → ℕ → Bool
holding D s = D (2 * s)

-- a plan as bytes
pub record BookPlan (rb : Book) (p : List ℕ) : Type 0 where
  pub whole : Whole rb.width p
  pub plan : IsPlan rb (holding (holds p))

-- CLOSURES

-- C is the least set of decisions that contains the partial and is kept by the five rules
pub record ClosureOf (rb : Book) (p : List ℕ) (C : ℕ → Bool) : Type 0 where
  pub within : Within (2 * rb.width) C
  pub contains : (e : ℕ) → e < 2 * rb.width → holds p e ≡ true → C e ≡ true
  pub keeps : Kept rb C
  pub least : (D : ℕ → Bool) → Within (2 * rb.width) D → ((e : ℕ) → e < 2 * rb.width → holds p e ≡ true → D e ≡ true) → Kept rb D → Sub C D

-- it has both values for a statement
abbrev pub Contradictory : (ℕ → Bool) → Type 0
Contradictory C = (s : ℕ) × (C (2 * s) ≡ true) × (C (2 * s + 1) ≡ true)

-- a headless rule has an empty body
abbrev pub Bodiless : Book → Type 0
Bodiless rb = (i : ℕ) × (i < rows rb) × ((row rb i).head ≡ none) × ((row rb i).body ≡ [])

-- what comes of a partial: a clash exactly where the closure has both values or a headless rule has an empty body, else the closure's bytes
abbrev pub OutcomeOf : Book → List ℕ → Out → Type 0
OutcomeOf rb p clash = (C : ℕ → Bool) → ClosureOf rb p C → Contradictory C ⊎ Bodiless rb
OutcomeOf rb p (fits q) = (C : ℕ → Bool) → ClosureOf rb p C → (Contradictory C → ⊥) × (Bodiless rb → ⊥) × (q ≡ tabulate rb.width (byte_of C))
