-- Small rulebooks and the plans that they have. Statement 0 is a, 1 is b, 2 is c; entry 2s says that s holds, 2s + 1 that it fails.
--   PlansAre     the plans of a rulebook that agree with the pins, and the certain statements
--   ExtendsTo    the outcome of a partial
use Rattle.std.specs.Prelude.{◌≡◌, ℕ, List, [], ◌∷◌}
use Rattle.std.proofs.Math.Option.{some, none}
use Rattle.base.specs.Laws.{Out}
use Rattle.base.specs.Settled.{Settled}
use Rattle.closing.specs.Forces.{outcome}
use Rattle.stable.specs.Books.{Rule, Book, BookPlan}
use Rattle.stable.specs.Decide.{book_forces}

-- a rule with a head
abbrev pub rule : ℕ → List ℕ → Rule
rule h b = record { head = some h; body = b }

-- a rule without a head
abbrev pub bar : List ℕ → Rule
bar b = record { head = none; body = b }

-- a rulebook of so many statements
abbrev pub book : ℕ → List Rule → Book
book n rs = record { width = n; rules = rs }

-- its plans that agree with the pins are exactly these rows, and these statements are certain
abbrev pub PlansAre : Book → List ℕ → List (List ℕ) → List ℕ → Type 0
PlansAre rb pins rows sure = Settled rb.width (λ p. BookPlan rb p) pins rows sure

-- it has no plan
abbrev pub NoPlan : Book → Type 0
NoPlan rb = (p : List ℕ) → BookPlan rb p → ⊥

-- the outcome of a partial
abbrev pub ExtendsTo : Book → List ℕ → Out → Type 0
ExtendsTo rb p o = outcome (book_forces rb) p ≡ o

-- no rules, no statements
abbrev pub nothing_said : Book
nothing_said = book 0 []

-- a :- a.
abbrev pub stands_on_itself : Book
stands_on_itself = book 1 (rule 0 (0 ∷ []) ∷ [])

-- a :- not a.
abbrev pub denies_itself : Book
denies_itself = book 1 (rule 0 (1 ∷ []) ∷ [])

-- a :- not b. b :- not a.
abbrev pub one_or_other : Book
one_or_other = book 2 (rule 0 (3 ∷ []) ∷ rule 1 (1 ∷ []) ∷ [])

-- a :- not b. b :- not a. c :- a. c :- b.
abbrev pub either_way : Book
either_way = book 3 (rule 0 (3 ∷ []) ∷ rule 1 (1 ∷ []) ∷ rule 2 (0 ∷ []) ∷ rule 2 (2 ∷ []) ∷ [])

-- a :- not b. b :- not a. c :- a. c :- b. :- b.
abbrev pub one_forbidden : Book
one_forbidden = book 3 (rule 0 (3 ∷ []) ∷ rule 1 (1 ∷ []) ∷ rule 2 (0 ∷ []) ∷ rule 2 (2 ∷ []) ∷ bar (2 ∷ []) ∷ [])

-- a :- not b.
abbrev pub by_default : Book
by_default = book 2 (rule 0 (3 ∷ []) ∷ [])

-- a :- b. b :- a. :- not a.
abbrev pub stand_on_each_other : Book
stand_on_each_other = book 2 (rule 0 (2 ∷ []) ∷ rule 1 (0 ∷ []) ∷ bar (1 ∷ []) ∷ [])

-- a :- not b. b :- not a. :- a, a.
abbrev pub body_twice : Book
body_twice = book 2 (rule 0 (3 ∷ []) ∷ rule 1 (1 ∷ []) ∷ bar (0 ∷ 0 ∷ []) ∷ [])

-- a :- b. b :- not c. c :- not b.
abbrev pub one_row : Book
one_row = book 3 (rule 0 (2 ∷ []) ∷ rule 1 (5 ∷ []) ∷ rule 2 (3 ∷ []) ∷ [])

-- a :- b. a :- b. b :- not c. c :- not b.
abbrev pub equal_rows : Book
equal_rows = book 3 (rule 0 (2 ∷ []) ∷ rule 0 (2 ∷ []) ∷ rule 1 (5 ∷ []) ∷ rule 2 (3 ∷ []) ∷ [])

-- a. :- a.
abbrev pub holds_and_forbidden : Book
holds_and_forbidden = book 1 (rule 0 [] ∷ bar (0 ∷ []) ∷ [])

-- a :- not a. and a headless rule with an empty body
abbrev pub forbids_all : Book
forbids_all = book 1 (rule 0 (1 ∷ []) ∷ bar [] ∷ [])
