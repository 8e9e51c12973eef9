use Rattle.stable.proofs.Lawfuls.{closure_least, plans_agree}
use Rattle.stable.proofs.closure_is_least.Goals as goal

pub returns : goal.returns
returns c = record { least = closure_least; plans = plans_agree }
