use Rattle.std.proofs.Common.{refl}
use Rattle.clauses.proofs.Computed.{settled}
use Rattle.clauses.proofs.cases.a_chain_is_certain.Goals as goal

pub returns : goal.returns
returns c = settled _ _ _ _ _ _ refl refl
