use Rattle.source.proofs.Causes.{cause_only, cause_none}
use Rattle.source.proofs.question.Question.check.Goals as goal

pub returns : goal.returns
returns c = record {
  cause = c.first_cause.ensures;
  only = cause_only c.args.width c.args.self.pins.now c.args.self.group.now c.args.place.now c.first_cause.result c.first_cause.ensures;
  taken = cause_none c.args.width c.args.self.pins.now c.args.self.group.now c.args.place.now c.first_cause.result c.first_cause.ensures;
}
