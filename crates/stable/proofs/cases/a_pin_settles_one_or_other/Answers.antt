use Rattle.std.proofs.Common.{refl}
use Rattle.stable.proofs.Computed.{settled}
use Rattle.stable.proofs.cases.a_pin_settles_one_or_other.Goals as goal

pub returns : goal.returns
returns c = settled _ _ _ _ refl refl
