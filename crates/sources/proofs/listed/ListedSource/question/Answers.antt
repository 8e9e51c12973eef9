use Rattle.std.proofs.Common.{refl, rules}
use Rattle.sources.proofs.Listing.{first_answers, none_answers}
use Rattle.sources.proofs.listed.ListedSource.question.Goals as goal

pub returns-in_default-clause-asked : goal.returns-in_default-clause-asked
returns-in_default-clause-asked c =
    none_answers _ c.args.self.now.count _ _ _ _ _ c.in_ok-check.ensures.cause c.in_default.ensures refl

pub returns-clause-asked : goal.returns-clause-asked
returns-clause-asked c =
    first_answers _ _ _ _ _ _ _ c.in-Some.i c.args.self.now.listable c.in_ok-check.ensures.cause c.in-Some.ensures (search rules)
