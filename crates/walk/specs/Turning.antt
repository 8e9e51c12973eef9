-- What the steps of the walk promise.
--   Decided, Lowest  nothing is undecided, or the lowest undecided statement
--   Walks, waiting  a trail over a partial, and the partials that wait in it
--   Forks           what a choice makes of the agenda
--   Backs           what a step back makes of it
--   Turns           what one step makes of it
--   Ran             what a whole run answers
use Rattle.std.specs.Prelude.{◌≡◌, ℕ, suc, ◌<◌, ◌≢◌, List, [], ◌∷◌, length, Some, None, Ok, Err, Result, slice_index}
use Rattle.std.specs.declared.ops.ControlFlow.{ControlFlow}
use Rattle.std.specs.declared.ops.ControlFlow.TheVariants.{Continue, Break}
use Rattle.source.specs.declared.Refusal.{Refusal}
use Rattle.source.specs.declared.Answer.{Answer}
use Rattle.source.specs.declared.Answer.TheVariants.{Plan, Nothing}
use Rattle.base.specs.Laws.{Out}
use Rattle.first.specs.Tree.{tree, with}
use Rattle.first.specs.Agenda.{answers, left}
use Rattle.trail.specs.Walks.{waits, Walk}
use Rattle.walk.specs.declared.memory.Trail.{Trail}

-- nothing is undecided
abbrev pub Decided : List ℕ → Type 0
Decided r = (k : ℕ) → k < length r → slice_index r k ≢ 0

-- s is undecided, and those below are not
abbrev pub Lowest : List ℕ → ℕ → Type 0
Lowest r s = (s < length r) × (slice_index r s ≡ 0) × ((k : ℕ) → k < s → slice_index r k ≢ 0)

-- a trail over a partial of the width w keeps an agenda: the partial, and those that wait
abbrev pub Walks : ℕ → Trail → List ℕ → Type 0
Walks w t q = Walk w t.level t.marks t.choices q

abbrev pub waiting : Trail → List ℕ → List (List ℕ)
waiting t q = waits t.level t.marks t.choices q

-- in place of r come its two branches, failing first
abbrev pub Forks : Trail → List ℕ → Trail → List ℕ → Type 0
Forks t r t' q = Walks (length r) t' q × (q ∷ waiting t' q ≡ with r 2 ∷ (with r 1 ∷ waiting t r))

-- the first of those that wait is next; or none waits
abbrev pub Backs : Trail → List ℕ → ControlFlow Answer Unit → Trail → List ℕ → Type 0
Backs t r (Continue _) t' q = Walks (length r) t' q × (waiting t r ≡ q ∷ waiting t' q)
Backs t r (Break Nothing) t' q = waiting t r ≡ []
Backs t r (Break Plan) t' q = ⊥

-- a step from the agenda a: the answer, or an agenda with the same answer, by one extension less; it is never refused
abbrev pub Turns : ℕ → (List ℕ → Out) → List (List ℕ) → Trail → List ℕ → Result (ControlFlow Answer Unit) Refusal → Type 0
Turns w o a t q (Ok (Break Plan)) = answers w o a ≡ Some q
Turns w o a t q (Ok (Break Nothing)) = answers w o a ≡ None
Turns w o a t q (Ok (Continue _)) = Walks w t q × (answers w o a ≡ answers w o (q ∷ waiting t q)) × (left w o a ≡ suc (left w o (q ∷ waiting t q)))
Turns w o a t q (Err e) = ⊥

-- a whole run from q: the plan that the tree below q gives, or none; it is never refused
abbrev pub Ran : ℕ → (List ℕ → Out) → List ℕ → List ℕ → Result Answer Refusal → Type 0
Ran w o q after (Ok Plan) = tree o (suc w) q ≡ Some after
Ran w o q after (Ok Nothing) = tree o (suc w) q ≡ None
Ran w o q after (Err e) = ⊥
