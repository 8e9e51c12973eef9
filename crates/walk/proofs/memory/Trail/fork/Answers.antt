use Rattle.std.proofs.Common.{◌+◌, set, refl, ap, arith}
use Rattle.walk.proofs.Looking.{lowest_is, lowest_within}
use Rattle.walk.proofs.Stepping.{room, forked}
use Rattle.walk.proofs.memory.Trail.fork.Goals as goal

pub offset_bounds-self-from : goal.offset_bounds-self-from
offset_bounds-self-from c = omega (arith, room _ c.args.self.now c.args.partial.now c.requires.walks (lowest_within _ c.args.s c.requires.at), c.requires.at.0)

pub bounds-self-from : goal.bounds-self-from
bounds-self-from c = omega (arith, room _ c.args.self.now c.args.partial.now c.requires.walks (lowest_within _ c.args.s c.requires.at), c.requires.at.0)

pub overflow_add-self : goal.overflow_add-self
overflow_add-self c = omega (arith, room _ c.args.self.now c.args.partial.now c.requires.walks (lowest_within _ c.args.s c.requires.at), c.requires.at.0)

pub returns : goal.returns
returns c =
    let t = c.args.self.now in
    forked t c.args.partial.now c.requires.walks (lowest_within _ c.args.s c.requires.at) c.args.s (t.level + 1) _ _ _ (lowest_is _ c.args.s c.requires.at) (omega arith)
    c.note.ensures (ap (λ d. set t.choices d c.args.s) c.from.ensures) refl
