use Rattle.source.specs.Plans.{Of}
use Rattle.std.proofs.Common.{◌≡◌}
use Rattle.checks.specs.View.{view}
use Rattle.runs.proofs.Running.{Sofar}
use Rattle.runs.proofs.run.run.Given as goal

abbrev pub invariant-loop-i : goal.invariant-loop-i
invariant-loop-i g l =
    (l.sheet.source ≡ l.initial.sheet.source)
    × Sofar (g.S.Source.wide l.initial.sheet.source) (Of (g.S.Source.wide l.initial.sheet.source) (g.S.Source.plan l.initial.sheet.source)) l.calls l.initial.replies l.replies l.i
    (view (g.S.Source.wide l.initial.sheet.source) l.sheet.table)
