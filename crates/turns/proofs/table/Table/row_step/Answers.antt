use Rattle.std.proofs.Common.{get_or, refl, subst}
use Rattle.std.proofs.lemmas.List.{get_or_default}
use Rattle.rulebook.specs.Rows.{blank}
use Rattle.turns.specs.Table.{LawTurn, RowKept, head_in}
use Rattle.turns.proofs.Steps.{row_rule}
use Rattle.turns.proofs.table.Table.row_step.Goals as goal

pub returns : goal.returns
returns c =
    let t = c.args.self.now in let i = c.args.i in let r = get_or t.rows.now i blank in
    subst (λ r. LawTurn (λ C. RowKept C r) c.args.p.now c.rule_step.new.p c.rule_step.result)
    (row_rule t.rows.now t.entries.now r (head_in r) c.body.result.now (i, c.requires.row, get_or_default t.rows.now i r blank c.requires.row) refl c.body.ensures.value) c.rule_step.ensures
