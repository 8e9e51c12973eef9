use Rattle.std.proofs.Common.{refl}
use Rattle.stable.proofs.Computed.{settled}
use Rattle.stable.proofs.cases.what_stands_on_itself_fails.Goals as goal

pub returns : goal.returns
returns c = settled _ _ _ _ refl refl
