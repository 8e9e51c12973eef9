use Rattle.source.specs.Plans.{Of}
use Rattle.std.proofs.Common.{rules, replicate, take, arith}
use Rattle.sheet.proofs.ask.ask.Goals as goal
use Rattle.sheet.proofs.Asking.{cut_taken, found, found_yes}

pub returns-then-finds : goal.returns-then-finds
returns-then-finds g c =
    let w = g.S.Source.wide c.args.source.now in
    let u = c.width-width.result in
    let e = c.width-width.ensures.value in
    let t = cut_taken w u c.args.pins.now c.args.group.now (replicate 512 0) e (omega arith) (omega arith) (omega arith) c.requires.pins c.requires.group c.requires.narrow in
    let plan = Of w (g.S.Source.plan c.args.source.now) in
    found_yes w u plan (λ p q. q.1.0) c.args.pins.now c.args.group.now (take u (replicate 512 0)) c.finds.new.place _ c.finds.result (search rules) e t c.finds.ensures

pub returns-else-finds : goal.returns-else-finds
returns-else-finds g c =
    let w = g.S.Source.wide c.args.source.now in
    let u = c.width-width.result in
    let e = c.width-width.ensures.value in
    let t = cut_taken w u c.args.pins.now c.args.group.now (replicate 512 0) e (omega arith) (omega arith) (omega arith) c.requires.pins c.requires.group c.requires.narrow in
    let plan = Of w (g.S.Source.plan c.args.source.now) in
    let f = found w u plan (λ p q. q.1.0) c.args.pins.now c.args.group.now (take u (replicate 512 0)) c.finds.new.place (take u (replicate 512 0)) c.finds.result e t c.finds.ensures in
    search rules
