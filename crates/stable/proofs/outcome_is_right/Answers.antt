use Rattle.stable.proofs.Lawfuls.{outcome_is_closure, clash_means_no_plan, whole_is_plan}
use Rattle.stable.proofs.outcome_is_right.Goals as goal

pub returns : goal.returns
returns c = record { outcome = outcome_is_closure; clash = clash_means_no_plan; whole = whole_is_plan }
