use Rattle.std.proofs.Common.{rules, ◌*◌, ◌<◌, length, arith}
use Rattle.std.proofs.lemmas.Iterator.{YieldsList-from_slice}
use Rattle.std.proofs.lemmas.Iterator.Adapters.{serves_from_places}
use Rattle.std.proofs.lemmas.List.{get_or_default}
use Rattle.turns.proofs.chains.body_cancelled.Goals as goal

pub any-requires-clause-callable : goal.any-requires-clause-callable
any-requires-clause-callable c = serves_from_places (YieldsList-from_slice c.args.body.now (search rules)) (λ x q r. search rules)
    (λ x k l e. let code = c.requires k l in let same = get_or_default c.args.body.now k x.now 0 l in let below : x.now < 2 * length c.args.p.now = omega arith in search rules)
