use Rattle.std.proofs.Common.{rules}
use Rattle.closing.specs.Sets.{holds}
use Rattle.turns.proofs.forced.lacking.Goals as goal

pub returns : goal.returns
returns c = c.exceptions.ensures (holds c.args.p.now) (λ k l r h. search rules)
