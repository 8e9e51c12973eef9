use Rattle.sources.proofs.Joins.{blank_zeros}
use Rattle.sources.proofs.pair.unmarked.Goals as goal

pub returns : goal.returns
returns c = blank_zeros 512
