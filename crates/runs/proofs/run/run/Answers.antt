use Rattle.source.specs.Plans.{Of}
use Rattle.std.proofs.Common.{refl, ◌∙◌, arith}
use Rattle.runs.proofs.Running.{sofar_none, sofar_more, ran}
use Rattle.std.proofs.lemmas.List.{length-take}
use Rattle.runs.specs.declared.call.Call.{Call}
use Rattle.sheet.specs.View.{Steps}
use Rattle.runs.proofs.run.run.Goals as goal

pub loop-i-init : goal.loop-i-init
loop-i-init g c =
    (refl, sofar_none g.S.Source.wide (λ x. Of (g.S.Source.wide x) (g.S.Source.plan x)) c.args.source c.new-sheet.result.source c.new-sheet.result.table c.args.calls.now c.args.replies.now c.new-sheet.ensures.source c.new-sheet.ensures.fresh)

pub loop-i-preserved : goal.loop-i-preserved
unfolding Steps
loop-i-preserved g c = (
  c.put.ensures.source ∙ c.loop-i.invariant.0,
  sofar_more g.S.Source.wide (λ x. Of (g.S.Source.wide x) (g.S.Source.plan x)) c.new-sheet.result.source c.loop-i.sheet.source c.args.calls.now c.args.replies.now c.loop-i.replies
      c.min-made.result c.loop-i.i _ c.put.result c.loop-i.sheet.table c.put.new.sheet.table
      (omega arith) (omega (arith, length-take {A = Call})) (omega (arith, length-take {A = Call})) c.loop-i.invariant.0 c.loop-i.invariant.1 c.put.ensures.step,
)

pub returns : goal.returns
returns g c =
    record {
      source = c.loop-i.invariant.0 ∙ c.new-sheet.ensures.source;
      ran =
          ran g.S.Source.wide (λ x. Of (g.S.Source.wide x) (g.S.Source.plan x)) (λ x p q. q.1) c.args.source c.new-sheet.result.source c.args.calls.now c.args.replies.now c.loop-i.replies c.loop-i.i _ c.loop-i.sheet.table
          c.new-sheet.ensures.source c.min-made.ensures (omega (arith, length-take {A = Call})) c.loop-i.invariant.1;
    }
