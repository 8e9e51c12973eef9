use Rattle.std.proofs.Common.{arith}
use Rattle.bases.specs.Sealed.{many_sealed}
use Rattle.bases.proofs.RulebookRulesRules.count.Goals as goal

pub returns : goal.returns
returns c = omega (arith, many_sealed c.args.self.now.book.now)
