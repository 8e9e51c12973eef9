use Rattle.first.proofs.Turns.{answer_turned, left_turned}
use Rattle.first.proofs.turns_stand.Goals as goal

pub returns : goal.returns
returns g c = λ q qs p. (answer_turned _ _ _ (g.B.Base.lawful c.args.base.now) q qs p, left_turned _ _ _ (g.B.Base.lawful c.args.base.now) q qs p)
