-- A reply as it is printed.
use Rattle.std.specs.Prelude.{ℕ, List, ◌++◌, codes}
use Rattle.std.specs.Fmt.{decimal}
use Rattle.uses.specs.Text.{word_text, tally_text}
use Rattle.runs.specs.declared.call.Reply.{Reply}
use Rattle.runs.specs.declared.call.Reply.TheVariants.{Done, Settled, Told, Tallied}

abbrev pub reply_text : Reply → List ℕ
reply_text Done = codes "done"
reply_text (Settled n) = decimal n ++ codes " no longer open"
reply_text (Told v) = word_text v
reply_text (Tallied t) = tally_text t
