use Rattle.closing.proofs.Answering.{by_closure}
use Rattle.closing.proofs.ClosingBase.extend.Goals as goal

pub returns-clause-closure : goal.returns-clause-closure
returns-clause-closure g c =
    by_closure (g.R.Rules.forces c.args.self.now.rules) (g.R.Rules.sound c.args.self.now.rules) c.args.partial.now c.extend_with.new.p c.extend_with.result c.extend_with.ensures
