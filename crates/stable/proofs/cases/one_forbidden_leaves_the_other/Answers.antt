use Rattle.std.proofs.Common.{refl}
use Rattle.stable.proofs.Computed.{settled}
use Rattle.stable.proofs.cases.one_forbidden_leaves_the_other.Goals as goal

pub returns : goal.returns
returns c = settled _ _ _ _ refl refl
