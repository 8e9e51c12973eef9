-- The tree one extension at a time: the partials yet to be extended, the next first.
--   answers      the answer from an agenda           left      the extensions that it takes
--   turn_of      what an extension makes of an agenda
--   Low          every entry is a partial, with room for those below it
--   TurnsStand   a turn keeps the answer and takes one extension off
use Rattle.std.specs.Prelude.{◌≡◌, ℕ, suc, ◌+◌, ◌≤◌, List, [], ◌∷◌, length, Some, None, Option}
use Rattle.source.specs.Plans.{Partial}
use Rattle.base.specs.Laws.{Out}
use Rattle.first.specs.Tree.{tree, count, or_else, next_if, with, unset, node_of, Node, dead, leaf, split}

-- the answer from an agenda, at the width w: the first that a tree of it gives
abbrev pub answers : ℕ → (List ℕ → Out) → List (List ℕ) → Option (List ℕ)
answers w o [] = None
answers w o (q ∷ qs) = or_else (tree o (suc w) q) (answers w o qs)

-- how many extensions that takes
abbrev pub left : ℕ → (List ℕ → Out) → List (List ℕ) → ℕ
left w o [] = 0
left w o (q ∷ qs) = count o (suc w) q + next_if (tree o (suc w) q) (left w o qs)

-- what one extension makes of an agenda: a plan, or what is still to be extended
pub data Turned : Type 0 where
  done : List ℕ → Turned
  go : List (List ℕ) → Turned

-- the node of the entry just extended, and the entries after it
abbrev pub turn_of : Node → List (List ℕ) → Turned
turn_of dead qs = go qs
turn_of (leaf r) qs = done r
turn_of (split r) qs = go (with r 2 ∷ (with r 1 ∷ qs))

-- the answer after a turn
abbrev pub answer_after : ℕ → (List ℕ → Out) → Turned → Option (List ℕ)
answer_after w o (done r) = Some r
answer_after w o (go qs) = answers w o qs

-- the extensions left after a turn
abbrev pub left_after : ℕ → (List ℕ → Out) → Turned → ℕ
left_after w o (done r) = 0
left_after w o (go qs) = left w o qs

-- every entry is a partial, and there is room for those below it
abbrev pub Low : ℕ → List (List ℕ) → Type 0
Low w [] = Unit {0}
Low w (q ∷ qs) = Partial w q × (unset q + length qs ≤ w) × Low w qs

-- a turn keeps the answer and takes one off the extensions left: so every walk by turns ends
abbrev pub TurnsStand : ℕ → (List ℕ → Out) → Type 0
TurnsStand w o = (q : List ℕ) (qs : List (List ℕ)) → Partial w q →
    (answers w o (q ∷ qs) ≡ answer_after w o (turn_of (node_of (o q)) qs)) × (left w o (q ∷ qs) ≡ suc (left_after w o (turn_of (node_of (o q)) qs)))
