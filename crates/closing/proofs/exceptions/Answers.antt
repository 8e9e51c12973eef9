use Rattle.std.proofs.Common.{◌≡◌, length, subst, arith}
use Rattle.closing.specs.Fews.{LacksBelow}
use Rattle.closing.proofs.exceptions.Goals as goal

pub returns : goal.returns
returns g c t a =
    let all : c.loop-e.e-index ≡ length c.args.entries.now = omega arith in
    subst (λ n. LacksBelow t c.args.entries.now n c.loop-e.found) all (c.loop-e.invariant t a)
