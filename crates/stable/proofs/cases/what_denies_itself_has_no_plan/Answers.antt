use Rattle.std.proofs.Common.{refl}
use Rattle.stable.proofs.Computed.{no_plan}
use Rattle.stable.proofs.cases.what_denies_itself_has_no_plan.Goals as goal

pub returns : goal.returns
returns c = no_plan _ refl
