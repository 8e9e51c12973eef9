-- Words that begin a text, and where the words of a text end.
use Rattle.std.specs.Prelude.{◌≡◌, List, ◌++◌}
use Rattle.words.specs.Running.{Running, more, ended, wrong}
use Rattle.words.specs.declared.Fault.{Fault}
use Rattle.tables.specs.Grammar.{Spot, Rule, IsText}

-- the words end with the text
abbrev pub Ended : Running → Type 0
Ended (more k at ws) = Ended ws
Ended ended = Unit {0}
Ended (wrong f) = ⊥

-- the words end at what is no word
abbrev pub EndsAt : Fault → Running → Type 0
EndsAt f (more k at ws) = EndsAt f ws
EndsAt f ended = ⊥
EndsAt f (wrong g) = g ≡ f

-- us begins some text
pub record Begins (us : List Spot) : Type 0 where
  pub vs : List Spot
  pub rules : List Rule
  pub derives : IsText (us ++ vs) rules
