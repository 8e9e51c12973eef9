use Rattle.stable.proofs.Theory.{plans_are_kept, kept_are_plans}
use Rattle.stable.proofs.plans_are_the_kept.Goals as goal

pub returns : goal.returns
returns c = record { plans = plans_are_kept; kept = kept_are_plans }
