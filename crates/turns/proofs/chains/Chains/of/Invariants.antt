use Rattle.turns.proofs.Chaining.{ChainedTo}
use Rattle.turns.proofs.chains.Chains.of.Given as goal

abbrev pub invariant-loop-i : goal.invariant-loop-i
invariant-loop-i l = ChainedTo l.table.rows.now l.i l.chains.newest l.chains.older
