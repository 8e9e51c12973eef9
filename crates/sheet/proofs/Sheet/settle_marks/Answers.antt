use Rattle.std.proofs.Common.{arith}
use Rattle.source.specs.Plans.{Of}
use Rattle.sheet.proofs.Settling.{all_done}
use Rattle.sheet.proofs.Sheet.settle_marks.Goals as goal

pub overflow_sub-result : goal.overflow_sub-result
overflow_sub-result g c =
    let d =
    all_done (g.S.Source.wide c.args.self.now.source) (Of (g.S.Source.wide c.args.self.now.source) (g.S.Source.plan c.args.self.now.source)) (λ p q. q.1) c.args.self.now.table c.settle_lines.new.self.table _ c.args.marks.now
    c.count-before.result c.count.result c.settle_lines.result c.requires.begun c.requires.some c.count-before.ensures c.pins-pins.ensures c.settle_lines.ensures.asked c.settle_lines.ensures.lines
    c.settle_lines.ensures.over c.count.ensures in
    let f = d.fewer in omega arith

pub returns : goal.returns
returns g c =
    let d =
    all_done (g.S.Source.wide c.args.self.now.source) (Of (g.S.Source.wide c.args.self.now.source) (g.S.Source.plan c.args.self.now.source)) (λ p q. q.1) c.args.self.now.table c.settle_lines.new.self.table _ c.args.marks.now
    c.count-before.result c.count.result c.settle_lines.result c.requires.begun c.requires.some c.count-before.ensures c.pins-pins.ensures c.settle_lines.ensures.asked c.settle_lines.ensures.lines
    c.settle_lines.ensures.over c.count.ensures in
    record { source = c.settle_lines.ensures.source; rest = d.rest; settles = d.settles; count = d.counts }
