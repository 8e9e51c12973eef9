use Rattle.std.proofs.Common.{◌-◌, get_or, set, ap, ◌∙◌, arith}
use Rattle.walk.proofs.Stepping.{height, backed}
use Rattle.walk.proofs.memory.Trail.back.Goals as goal

pub bounds-self-from : goal.bounds-self-from
bounds-self-from c = omega (arith, height _ c.args.self.now c.args.partial.now c.requires)

pub returns : goal.returns
returns c =
    let t = c.args.self.now in
    backed t c.args.partial.now c.requires c.from-s.result (t.level - 1) _ _ (omega arith) (c.from-s.ensures ∙ ap (λ d. get_or t.choices d 0) c.from.ensures)
    c.wipe.ensures.marks (ap (λ q. set q c.from-s.result 1) c.wipe.ensures.bytes)
