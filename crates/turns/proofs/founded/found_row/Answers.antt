use Rattle.std.proofs.Common.{true, subst, arith}
use Rattle.turns.specs.Table.{BodyFounded}
use Rattle.turns.proofs.Marks.{mark_row}
use Rattle.turns.proofs.founded.found_row.Goals as goal

pub returns : goal.returns
returns c = mark_row c.args.p.now c.args.marks.now c.args.table.now.rows.now c.args.table.now.entries.now c.args.row c.requires.row
    c.in-Some.s c.in-Some.ensures.value (let w = c.requires.marked in let l = c.in-Some.ensures.within in omega arith) c.if-marks-s.false
    (subst (λ b. BodyFounded c.args.p.now c.args.marks.now b true) c.body.ensures.value c.if-not-body_founded.ensures)
