-- The tree of extensions below a partial, depth first: the lowest undecided statement, failing first.
--   lowest   the lowest undecided statement      unset    how many are undecided
--   with     a partial with one value more       Node     what one extension shows
--   tree     the plan that the tree gives        count    how many extensions that takes
--   Below    the plans that agree with a partial
--   Finds    an answer as the first plan, or none exactly when there is none
--   FirstStands  the tree gives the first plan below every partial
use Rattle.std.specs.Prelude.{ℕ, zero, suc, ◌+◌, List, [], ◌∷◌, Some, None, Option, slice_set}
use Rattle.source.specs.Plans.{First, Agrees, Partial}
use Rattle.base.specs.Laws.{Out, clash, fits}

-- the lowest undecided statement, or the width if there is none
abbrev pub lowest : List ℕ → ℕ
lowest [] = zero
lowest (zero ∷ bs) = zero
lowest (suc b ∷ bs) = suc (lowest bs)

-- how many statements are undecided
abbrev pub unset : List ℕ → ℕ
unset [] = zero
unset (zero ∷ bs) = suc (unset bs)
unset (suc b ∷ bs) = unset bs

-- r with the lowest undecided statement decided as v
abbrev pub with : List ℕ → ℕ → List ℕ
with r v = slice_set r (lowest r) v

-- what one extension shows: no plan here, a plan, or a partial with a statement still to be decided
pub data Node : Type 0 where
  dead : Node
  leaf : List ℕ → Node
  split : List ℕ → Node

-- the node of an extended partial with n undecided statements
abbrev pub seen : List ℕ → ℕ → Node
seen r zero = leaf r
seen r (suc n) = split r

-- the node of an outcome
abbrev pub node_of : Out → Node
node_of clash = dead
node_of (fits r) = seen r (unset r)

-- the first answer of two
abbrev pub or_else : Option (List ℕ) → Option (List ℕ) → Option (List ℕ)
or_else None b = b
or_else (Some p) b = Some p

-- n more extensions, if there is no answer yet
abbrev pub next_if : Option (List ℕ) → ℕ → ℕ
next_if None n = n
next_if (Some p) n = zero

-- the answer at a node, with f for the branches: failing first
abbrev pub answer_at : (List ℕ → Option (List ℕ)) → Node → Option (List ℕ)
answer_at f dead = None
answer_at f (leaf r) = Some r
answer_at f (split r) = or_else (f (with r 2)) (f (with r 1))

-- the extensions at a node, its own among them, with f and c for the branches
abbrev pub count_at : (List ℕ → Option (List ℕ)) → (List ℕ → ℕ) → Node → ℕ
count_at f c dead = 1
count_at f c (leaf r) = 1
count_at f c (split r) = suc (c (with r 2) + next_if (f (with r 2)) (c (with r 1)))

-- the plan that the tree gives from q, not yet extended, where q has fewer undecided statements than the first number
unfoldable pub tree : (List ℕ → Out) → ℕ → List ℕ → Option (List ℕ)
tree o zero q = None
tree o (suc n) q = answer_at (λ p. tree o n p) (node_of (o q))

-- how many extensions that takes, q's own among them
unfoldable pub count : (List ℕ → Out) → ℕ → List ℕ → ℕ
count o zero q = zero
count o (suc n) q = count_at (λ p. tree o n p) (λ p. count o n p) (node_of (o q))

-- a plan that agrees with q
abbrev pub Below : (List ℕ → Type 0) → List ℕ → List ℕ → Type 0
Below plan q p = plan p × Agrees q p

-- an answer is the first of what P has, or none exactly when P has none
abbrev pub Finds : (List ℕ → Type 0) → Option (List ℕ) → Type 0
Finds P None = (p : List ℕ) → P p → ⊥
Finds P (Some p) = First P p

-- from every partial the tree gives the first plan that agrees with it, and none exactly when none agrees
abbrev pub FirstStands : ℕ → (List ℕ → Type 0) → (List ℕ → Out) → Type 0
FirstStands w plan o = (q : List ℕ) → Partial w q → Finds (Below plan q) (tree o (suc w) q)
