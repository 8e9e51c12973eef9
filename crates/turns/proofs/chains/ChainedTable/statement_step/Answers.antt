use Rattle.std.proofs.Common.{length, subst, arith}
use Rattle.closing.specs.Turns.{Made}
use Rattle.turns.specs.Table.{LawTurn, AllOf, HoldAt}
use Rattle.turns.proofs.Supported.{several_turn, nobody_turn, only_turn, only_idle}
use Rattle.turns.proofs.chains.ChainedTable.statement_step.Goals as goal

pub returns-in-Nothing : goal.returns-in-Nothing
returns-in-Nothing c =
    let t = c.args.self.now.table in let n = t.narrow in let s = c.requires.at in
    nobody_turn c.args.p.now t.rows.now t.entries.now c.args.s (omega arith) c.decide.new.p _ (let w = c.requires.partial.0 in omega arith) c.requires.partial.1 c.in-Nothing.ensures
    (subst (λ e. Made c.args.p.now e c.decide.new.p c.decide.result) c.failing.ensures c.decide.ensures)

pub returns-in-Several : goal.returns-in-Several
returns-in-Several c =
    let t = c.args.self.now.table in let n = t.narrow in let s = c.requires.at in
    several_turn c.args.p.now t.rows.now t.entries.now c.args.s (omega arith) c.in-Several.ensures

pub returns-then-p-s-eq-HOLDS : goal.returns-then-p-s-eq-HOLDS
returns-then-p-s-eq-HOLDS c =
    let t = c.args.self.now.table in let n = t.narrow in let s = c.requires.at in
    only_turn c.args.p.now t.rows.now t.entries.now c.args.s (omega arith) c.hold_body.new.p _ c.in-Only.i c.if-p-s-eq-HOLDS.true c.in-Only.ensures
    (subst (λ b. LawTurn (AllOf (HoldAt b) (length b)) c.args.p.now c.hold_body.new.p c.hold_body.result) c.body.ensures.value c.hold_body.ensures)

pub returns-else-p-s-eq-HOLDS : goal.returns-else-p-s-eq-HOLDS
returns-else-p-s-eq-HOLDS c =
    let t = c.args.self.now.table in let n = t.narrow in let s = c.requires.at in
    only_idle c.args.p.now t.rows.now t.entries.now c.args.s (omega arith) c.in-Only.i c.if-p-s-eq-HOLDS.false c.in-Only.ensures
