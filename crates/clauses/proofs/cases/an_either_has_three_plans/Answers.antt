use Rattle.std.proofs.Common.{refl}
use Rattle.clauses.proofs.Computed.{settled}
use Rattle.clauses.proofs.cases.an_either_has_three_plans.Goals as goal

pub returns : goal.returns
returns c = settled _ _ _ _ _ _ refl refl
