-- What reading a text does to the tables.
use Rattle.std.specs.Prelude.{ℕ}
use Rattle.words.specs.Running.{Running, more, ended, wrong}
use Rattle.words.specs.declared.Fault.{Fault}
use Rattle.words.specs.declared.FaultKind.{FaultKind}
use Rattle.words.specs.declared.FaultKind.TheVariants.{NoWord, LongName}
use Rattle.tables.specs.declared.Stop.{Stop}
use Rattle.tables.specs.declared.Cause.{Cause}
use Rattle.tables.specs.declared.Cause.TheVariants as Why
use Rattle.tables.specs.Feed.{Stage, Tables, Texts, Fed, on, off, feed, finished}

-- what is no word is the same as a cause
abbrev pub cause_of : FaultKind → Cause
cause_of NoWord = Why.NoWord
cause_of LongName = Why.LongName

-- at what is no word reading stops
abbrev pub stop_of : Fault → Stop
stop_of f = record { cause = cause_of f.kind; at = f.at }

-- goes on unless reading has stopped
abbrev pub carry : (Stage → Tables → Fed) → Fed → Fed
carry f (on s t) = f s t
carry f (off c at t) = off c at t

-- one word after another; `size` is the text's length
abbrev pub run : Texts → ℕ → Stage → Tables → Running → Fed
run x size s t (more k at ws) = carry (λ s' t'. run x size s' t' ws) (feed x k at s t)
run x size s t ended = finished size s t
run x size s t (wrong f) = off (stop_of f).cause (stop_of f).at t
