use Rattle.std.proofs.Common.{subst}
use Rattle.base.specs.Extending.{Extends}
use Rattle.closing.specs.Forces.{outcome}
use Rattle.stable.specs.Decide.{book_forces}
use Rattle.rulebook.specs.declared.sealed.Rulebook.{Rulebook}
use Rattle.turns.specs.Meaning.{book_in}
use Rattle.bases.specs.Sealed.{sealed_sound}
use Rattle.bases.proofs.Extending.{by_rules}
use Rattle.bases.proofs.extend_rulebook.Goals as goal

pub returns : goal.returns
returns c =
    let p = c.args.partial.now in let q = c.extend.new.partial in let r = c.extend.result in
    let e = subst (λ (b : Rulebook). Extends b.width (outcome (book_forces (book_in b))) p r q) c.over.ensures.lent c.extend.ensures.extends in
    record {
      extends = e;
      rules = by_rules (book_in c.args.book.now) (sealed_sound c.args.book.now) p q r e;
    }
