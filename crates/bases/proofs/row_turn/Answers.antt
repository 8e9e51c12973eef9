use Rattle.std.proofs.Common.{sym, subst, Err}
use Rattle.closing.specs.Turns.{Turn}
use Rattle.stable.specs.Decide.{book_forces}
use Rattle.turns.specs.Meaning.{book_of}
use Rattle.turns.proofs.Tables.{table_over}
use Rattle.bases.proofs.Converting.{row_turns, bodiless_turn}
use Rattle.bases.proofs.row_turn.Goals as goal

pub returns-then-is_bodiless : goal.returns-then-is_bodiless
returns-then-is_bodiless c =
    let t = c.args.table.now in let e = c.requires.partial.0 in
    subst (λ n. Turn (book_forces (book_of n t.rows.now t.entries.now)) c.args.i c.args.p.now c.args.p.now (Err _)) e
    (bodiless_turn c.args.p.now t.rows.now t.entries.now (table_over t _ e) c.args.i c.requires.row (sym c.if-is_bodiless.ensures) _)

pub returns : goal.returns
returns c =
    let t = c.args.table.now in let e = c.requires.partial.0 in
    subst (λ n. Turn (book_forces (book_of n t.rows.now t.entries.now)) c.args.i c.args.p.now c.row_step.new.p c.row_step.result) e
    (row_turns c.args.p.now t.rows.now t.entries.now (table_over t _ e) c.row_step.new.p c.row_step.result c.args.i c.requires.row (sym c.if-is_bodiless.ensures) c.row_step.ensures)
