use Rattle.std.proofs.Common.{◌≡◌, [], ◌∷◌}
use Rattle.first.specs.Agenda.{answers, left}
use Rattle.walk.specs.Turning.{Walks, waiting}
use Rattle.walk.proofs.steps.run.Given as goal

abbrev pub invariant-steps : goal.invariant-steps
invariant-steps g l = record {
  walks : Walks (g.B.Base.wide l.base) l.trail l.partial;
  same_answer : answers (g.B.Base.wide l.base) (g.B.Base.outcome l.base) (l.partial ∷ waiting l.trail l.partial)
      ≡ answers (g.B.Base.wide l.base) (g.B.Base.outcome l.base) (l.initial.partial ∷ []);
}

abbrev pub decreases-steps : goal.decreases-steps
decreases-steps g l = left (g.B.Base.wide l.base) (g.B.Base.outcome l.base) (l.partial ∷ waiting l.trail l.partial)
