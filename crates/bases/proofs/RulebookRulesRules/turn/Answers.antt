use Rattle.std.proofs.Common.{◌-◌, length, sym, ◌∙◌, subst, arith}
use Rattle.closing.specs.Turns.{Turn}
use Rattle.stable.specs.Decide.{book_forces}
use Rattle.turns.specs.Meaning.{book_of}
use Rattle.turns.specs.Table.{LawTurn, UnfoundedFail}
use Rattle.turns.proofs.Tables.{table_over}
use Rattle.bases.proofs.Converting.{statement_turns, last_turns, tied_book, tied_turn}
use Rattle.bases.proofs.RulebookRulesRules.turn.Goals as goal

pub returns-then-k-rows : goal.returns-then-k-rows
returns-then-k-rows c =
    let s = c.args.self.now in
    subst (λ rb. Turn (book_forces rb) c.args.k c.args.p.now c.row_turn.new.p c.row_turn.result) (tied_book s.book.now s.chained.table s.tied) c.row_turn.ensures

pub returns-then-k-rows-2 : goal.returns-then-k-rows-2
returns-then-k-rows-2 c =
    let s = c.args.self.now in let t = s.chained.table in let e = c.requires.partial.0 ∙ sym s.tied.width in let k = c.args.k in
    tied_turn s.book.now t s.tied c.args.p.now c.statement_step.new.p k c.statement_step.result e
    (statement_turns c.args.p.now t.rows.now t.entries.now (table_over t _ e) c.statement_step.new.p c.statement_step.result k (k - length t.rows.now) (omega arith) (omega arith) c.statement_step.ensures)

pub returns-else-k-rows-2 : goal.returns-else-k-rows-2
returns-else-k-rows-2 c =
    let s = c.args.self.now in let t = s.chained.table in let e = c.requires.partial.0 ∙ sym s.tied.width in let k = c.args.k in
    tied_turn s.book.now t s.tied c.args.p.now c.unfounded_step.new.p k c.unfounded_step.result e
    (last_turns c.args.p.now t.rows.now t.entries.now (table_over t _ e) c.unfounded_step.new.p c.unfounded_step.result k (omega arith)
    (subst (λ n. LawTurn (UnfoundedFail (book_of n t.rows.now t.entries.now)) c.args.p.now c.unfounded_step.new.p c.unfounded_step.result) (sym e) c.unfounded_step.ensures))
