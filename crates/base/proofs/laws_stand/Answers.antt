use Rattle.base.proofs.laws_stand.Goals as goal

pub returns : goal.returns
returns g c = g.B.Base.lawful c.args.base.now
