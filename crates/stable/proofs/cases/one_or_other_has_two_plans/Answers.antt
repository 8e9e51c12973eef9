use Rattle.std.proofs.Common.{refl}
use Rattle.stable.proofs.Computed.{settled}
use Rattle.stable.proofs.cases.one_or_other_has_two_plans.Goals as goal

pub returns : goal.returns
returns c = settled _ _ _ _ refl refl
