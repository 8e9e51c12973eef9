use Rattle.first.proofs.Firsts.{first_found}
use Rattle.first.proofs.first_stands.Goals as goal

pub returns : goal.returns
returns g c = first_found _ _ _ (g.B.Base.lawful c.args.base.now)
