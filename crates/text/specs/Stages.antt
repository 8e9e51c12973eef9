-- The code's progress as the stages of the definitions.
use Rattle.std.specs.Prelude.{ℕ, Some, None, Ok, Err, Option, Result}
use Rattle.tables.specs.declared.Stop.{Stop}
use Rattle.tables.specs.Limits.{no_head}
use Rattle.tables.specs.Feed.{Stage, Tables, Fed, on, off}
use Rattle.text.specs.declared.progress.Progress.{Progress}
use Rattle.text.specs.declared.step.Sign.{Sign}
use Rattle.text.specs.declared.step.Sign.TheVariants.{Plain, Negated}

-- a head's number in its row
abbrev pub head_number : Option ℕ → ℕ
head_number (Some n) = n
head_number None = no_head

-- where reading stands
abbrev pub stage_of : Progress → Stage
stage_of p = record { phase = p.phase; head = head_number p.head; first = p.first; names = p.filled.names; rules = p.filled.rules; entries = p.filled.entries }

-- what a word led to
abbrev pub fed : Result (Unit {0}) Stop → Stage → Tables → Fed
fed (Ok u) s t = on s t
fed (Err e) s t = off e.cause e.at t

-- what may come of a name's number
abbrev pub Onward : Type 0
Onward = ℕ → Stage → Tables → Fed

-- what comes of the number that a name got, or the stop
abbrev pub fed_number : Result ℕ Stop → Onward → Stage → Tables → Fed
fed_number (Ok n) f s t = f n s t
fed_number (Err e) f s t = off e.cause e.at t

-- what an entry's code has on top of twice its statement
abbrev pub sign_number : Sign → ℕ
sign_number Plain = 0
sign_number Negated = 1
