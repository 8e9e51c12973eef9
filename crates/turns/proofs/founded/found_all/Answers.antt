use Rattle.std.proofs.Common.{length, sym, subst}
use Rattle.closing.specs.Sets.{holds}
use Rattle.turns.specs.Meaning.{book_of}
use Rattle.turns.specs.Table.{Never}
use Rattle.turns.proofs.founded.found_all.Goals as goal

pub returns-clause-never : goal.returns-clause-never
returns-clause-never c =
    subst (Never (book_of (length c.args.p.now) c.args.table.now.rows.now c.args.table.now.entries.now) (holds c.args.p.now)) (sym c.passes-test.ensures.0) c.passes.invariant.1
