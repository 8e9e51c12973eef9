-- A table within its counts makes a base.
use Rattle.std.specs.Prelude.{◌≡◌, length}
use Rattle.std.proofs.lemmas.List.{length-map}
use Rattle.closing.specs.Forces.{Based}
use Rattle.closing.specs.Forces as forcing
use Rattle.stable.specs.Books.{rows, Sound, BookPlan}
use Rattle.stable.specs.Decide.{book_forces}
use Rattle.stable.proofs.Forced.{book_sound, book_based}
use Rattle.turns.specs.Meaning.{rule_of, book_at}
use Rattle.turns.specs.declared.table.Table.{Table}
use Rattle.turns.proofs.Sealed.{table_sound}
use Rattle.turns.proofs.Tables.{table_ok}

-- as many rules as rows
pub many_rules : (t : Table) → rows (book_at t) ≡ length t.rows.now
many_rules t = length-map t.rows.now (rule_of t.entries.now)

pub book_sound_at : (t : Table) → Sound (book_at t)
book_sound_at t = table_sound t.width t.rows.now t.entries.now (table_ok t)

pub table_forces : (t : Table) → forcing.Sound (book_forces (book_at t))
table_forces t = book_sound (book_at t) (book_sound_at t)

pub table_based : (t : Table) → Based (book_forces (book_at t)) (λ p. BookPlan (book_at t) p)
table_based t = book_based (book_at t) (book_sound_at t)
