use Rattle.std.proofs.Common.{rules, ◌≡◌, cond}
use Rattle.table.specs.Blank.{line_at}
use Rattle.table.specs.Lineup.{line_has}
use Rattle.table.proofs.Counting.{count_more}
use Rattle.table.proofs.table.Table.count.Goals as goal

pub loop-i-preserved : goal.loop-i-preserved
loop-i-preserved c =
    let r : c.from-n.result ≡ cond c.has.result 1 0 = search rules in
    count_more (λ k. line_has c.args.word (line_at c.args.self.now.lines.rows k)) _ _ _ _ c.loop-i.invariant.0 c.loop-i.invariant.1 c.has.ensures r
