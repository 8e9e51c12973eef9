use Rattle.std.proofs.Common.{refl}
use Rattle.stable.proofs.Computed.{settled}
use Rattle.stable.proofs.cases.either_way_is_certain.Goals as goal

pub returns : goal.returns
returns c = settled _ _ _ _ refl refl
