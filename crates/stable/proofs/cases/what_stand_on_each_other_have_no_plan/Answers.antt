use Rattle.std.proofs.Common.{refl}
use Rattle.stable.proofs.Computed.{no_plan}
use Rattle.stable.proofs.cases.what_stand_on_each_other_have_no_plan.Goals as goal

pub returns : goal.returns
returns c = no_plan _ refl
