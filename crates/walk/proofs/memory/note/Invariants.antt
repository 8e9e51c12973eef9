use Rattle.trail.specs.Walks.{note_m}
use Rattle.walk.proofs.Loops.{Written}
use Rattle.walk.proofs.memory.note.Given as goal

abbrev pub invariant-loop-i : goal.invariant-loop-i
invariant-loop-i l = Written 0 (note_m l.level l.partial l.initial.marks) l.initial.marks l.i l.marks
