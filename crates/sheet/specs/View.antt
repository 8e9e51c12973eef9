-- The code's results as answers, and what a call promises.
use Rattle.std.specs.Prelude.{ℕ, List, Ok, Err, Result}
use Rattle.uses.specs.declared.SheetRefusal.{SheetRefusal}
use Rattle.uses.specs.declared.Word.{Word}
use Rattle.table.specs.declared.table.Table.{Table}
use Rattle.uses.specs.declared.Tally.{Tally}
use Rattle.checks.specs.View.{view}
use Rattle.source.specs.Plans.{Of}
use Rattle.uses.specs.Step.{Step}
use Rattle.uses.specs.Law.{Starts, Continues}
use Rattle.uses.specs.Model.{Call, word_number, Reply, refused, done, settled, told, tallied}

-- the answer of tell
abbrev pub told_of : Result Word SheetRefusal → Reply
told_of (Ok v) = told (word_number v)
told_of (Err e) = refused e

-- the answer of begin and pin
abbrev pub done_of : Result (Unit {0}) SheetRefusal → Reply
done_of (Ok v) = done
done_of (Err e) = refused e

-- the answer of a settling
abbrev pub settled_of : Result ℕ SheetRefusal → Reply
settled_of (Ok n) = settled n
settled_of (Err e) = refused e

-- the answer of tally
abbrev pub tallied_of : Result Tally SheetRefusal → Reply
tallied_of (Ok t) = tallied t.open t.certain t.loose
tallied_of (Err e) = refused e

-- what a call does: it leads from the table t to the table u, over a source of that width and those plans
unfoldable pub Steps : ℕ → (List ℕ → Type 0) → Table → Call → Reply → Table → Type 0
Steps w plan t c r u = Step w (Of w plan) (view w t) c r (view w u)

-- the law, as making a sheet promises it: it holds of the use without calls, which leads to the table t
unfoldable pub LawStarts : ℕ → (List ℕ → Type 0) → Table → Type 0
LawStarts w plan t = Starts w (Of w plan) (view w t)

-- the law, as a call promises it: every use that leads to the table t leads with this call and answer to the table u, and the law holds of it
unfoldable pub LawContinues : ℕ → (List ℕ → Type 0) → Table → Call → Reply → Table → Type 0
LawContinues w plan t c r u = Continues w (Of w plan) (view w t) c r (view w u)
