use Rattle.std.proofs.Common.{refl}
use Rattle.stable.proofs.Computed.{settled}
use Rattle.stable.proofs.cases.by_default_is_certain.Goals as goal

pub returns : goal.returns
returns c = settled _ _ _ _ refl refl
