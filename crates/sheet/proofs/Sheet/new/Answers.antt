use Rattle.std.proofs.Common.{rules}
use Rattle.sheet.proofs.Keeping.{law_starts}
use Rattle.sheet.proofs.Sheet.new.Goals as goal

pub returns-clause-law : goal.returns-clause-law
returns-clause-law g c = law_starts _ _ c.new.result (search rules)
