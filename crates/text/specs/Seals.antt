-- What sealing a draft does.
use Rattle.std.specs.Prelude.{◌≡◌, ℕ, List, Ok, Err, Result}
use Rattle.rulebook.specs.declared.row.RuleRow.{RuleRow}
use Rattle.rulebook.specs.declared.sealed.Rulebook.{Rulebook}
use Rattle.rulebook.specs.Sealing.{Sealing}
use Rattle.text.specs.declared.draft.Draft.{Draft}
use Rattle.text.specs.declared.draft.seal.Unsealed.{Unsealed}

-- sealed from the draft's counts and the lent tables; or refused, the draft handed back and the place as before
abbrev pub Seals : Draft → List RuleRow → List ℕ → Rulebook → Result (Unit {0}) Unsealed → Rulebook → Type 0
Seals d rules entries before (Ok u) after = Sealing d.filled.names d.filled.rules d.filled.entries rules entries before (Ok u) after
Seals d rules entries before (Err e) after = Sealing d.filled.names d.filled.rules d.filled.entries rules entries before (Err e.refusal) after × (e.draft ≡ d)
