use Rattle.std.proofs.Common.{◌+◌, sym, refl, subst, arith}
use Rattle.turns.specs.declared.chains.Chains.{Chains}
use Rattle.turns.proofs.Chaining.{ChainedTo, none_at, chain_none, chain_head, chain_headless}
use Rattle.turns.proofs.chains.Chains.of.Goals.{in-Some, in_default}
use Rattle.turns.proofs.chains.Chains.of.Goals as goal

pub loop-i-init : goal.loop-i-init
loop-i-init c = record { heads = refl; rows = refl; chained = chain_none c.args.table.now.rows.now _ _ (λ s l. none_at 512 s); free = λ k l. none_at 2048 k }

pub loop-i-preserved : goal.loop-i-preserved
loop-i-preserved c = let t = c.args.table.now in elim c.match-head.branch [
  | in-Some w ↦ subst (λ (z : Chains). ChainedTo t.rows.now (c.loop-i.i + 1) z.newest z.older) (sym w.chains-is)
      (chain_head t.rows.now c.loop-i.i c.loop-i.chains.newest c.loop-i.chains.older c.loop-i.invariant t.width w.in-Some.s _ _
      (let l = c.loop-i-test.true in let m = c.requires in omega arith) w.in-Some.ensures.within t.narrow w.in-Some.ensures.value w.join.ensures.newest w.join.ensures.older)
  | in_default w ↦ subst (λ (z : Chains). ChainedTo t.rows.now (c.loop-i.i + 1) z.newest z.older) (sym w.chains-is)
      (chain_headless t.rows.now c.loop-i.i c.loop-i.chains.newest c.loop-i.chains.older c.loop-i.invariant w.in_default.ensures.value)
]
