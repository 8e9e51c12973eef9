use Rattle.std.proofs.Common.{◌∙◌}
use Rattle.turns.proofs.Marks.{marked_more, never_more}
use Rattle.turns.proofs.founded.found_pass.Goals as goal

pub loop-row-preserved : goal.loop-row-preserved
loop-row-preserved c =
    let p = c.args.p.now in let rs = c.args.table.now.rows.now in let es = c.args.table.now.entries.now in let i = c.loop-row.invariant in (
      c.found_row-found.auto.marks ∙ i.0,
      never_more p c.args.marks.now rs es c.loop-row.row-index _ _ _ _ i.1 c.found_row-found.ensures,
      marked_more p c.args.marks.now rs es c.loop-row.row-index _ _ _ _ i.2 c.found_row-found.ensures,
    )
