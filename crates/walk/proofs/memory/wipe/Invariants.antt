use Rattle.trail.specs.Walks.{keep_b, keep_m}
use Rattle.walk.proofs.Loops.{Written}
use Rattle.walk.proofs.memory.wipe.Given as goal

abbrev pub invariant-loop-i : goal.invariant-loop-i
invariant-loop-i l = record {
  bytes : Written 0 (keep_b l.level l.initial.marks l.initial.partial) l.initial.partial l.i l.partial;
  marks : Written 0 (keep_m l.level l.initial.partial l.initial.marks) l.initial.marks l.i l.marks;
}
