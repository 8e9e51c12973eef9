use Rattle.std.proofs.Common.{rules, ◌*◌, ◌<◌, length, arith}
use Rattle.std.proofs.lemmas.Iterator.{YieldsList-from_slice}
use Rattle.std.proofs.lemmas.Iterator.Adapters.{serves_from_places}
use Rattle.std.proofs.lemmas.List.{get_or_default}
use Rattle.turns.proofs.founded.body_founded.Goals as goal

pub all-requires-clause-callable : goal.all-requires-clause-callable
all-requires-clause-callable c = serves_from_places (YieldsList-from_slice c.args.body.now (search rules)) (λ x q r. let wide = c.requires.wide in search rules)
    (λ x k l e. let code = c.requires.codes k l in let same = get_or_default c.args.body.now k x.now 0 l in let below : x.now < 2 * length c.args.p.now = omega arith in let wide = c.requires.wide in search rules)
