use Rattle.stable.proofs.Lawfuls.{tests_tell}
use Rattle.stable.proofs.tests_tell.Goals as goal

pub returns : goal.returns
returns c = tests_tell
