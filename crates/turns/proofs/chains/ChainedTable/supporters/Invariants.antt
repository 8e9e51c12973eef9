use Rattle.std.proofs.Common.{◌+◌}
use Rattle.std.specs.Option.{option_map_or}
use Rattle.turns.specs.Chain.{Walked}
use Rattle.turns.proofs.chains.ChainedTable.supporters.Given as goal

abbrev pub invariant-loop-next : goal.invariant-loop-next
invariant-loop-next l = Walked l.p l.self.table.rows.now l.self.table.entries.now l.s l.next l.only

abbrev pub decreases-loop-next : goal.decreases-loop-next
decreases-loop-next l = option_map_or (λ i. i + 1) l.next 0
