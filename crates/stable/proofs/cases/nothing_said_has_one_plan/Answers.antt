use Rattle.std.proofs.Common.{refl}
use Rattle.stable.proofs.Computed.{settled}
use Rattle.stable.proofs.cases.nothing_said_has_one_plan.Goals as goal

pub returns : goal.returns
returns c = settled _ _ _ _ refl refl
