use Rattle.stable.proofs.Lawfuls.{book_lawful}
use Rattle.stable.proofs.rulebook_makes_a_base.Goals as goal

pub returns : goal.returns
returns c = book_lawful
