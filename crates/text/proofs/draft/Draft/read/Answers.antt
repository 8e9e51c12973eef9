use Rattle.std.proofs.Common.{◌≡◌, length, Some, None, sym, ap, ◌∙◌, rules}
use Rattle.words.specs.Running.{running}
use Rattle.tables.specs.Reading.{run}
use Rattle.tables.specs.Draft.{owner_after, texts_for, refusal_of}
use Rattle.text.specs.View.{rows_of}
use Rattle.text.specs.Counted.{texts_before, counts_of}
use Rattle.tables.proofs.Faulted.{faulted}
use Rattle.tables.proofs.Owners.{owner_after-number}
use Rattle.tables.proofs.Lawful.{lawful_as}
use Rattle.text.proofs.draft.Draft.read.Goals as goal

pub returns-in-Err-clause-is : goal.returns-in-Err-clause-is
returns-in-Err-clause-is c =
    let d = counts_of c.args.self.now in
    let text = c.args.text.now in
    let earlier = c.args.earlier.now in
    let t = rows_of c.args.tables.now in
    let s = c.in-Err.stop in
    let h : refusal_of d text t ≡ None = search rules in
    let n : c.args.self.now.next ≡ Some c.in_ok-owner.owner = search rules in
    let x = c.new.ensures ∙ sym (ap (λ o. texts_for (texts_before o) text earlier) n) in
    let e = c.in-Err.ensures.says ∙ (λ i. run (x i) (length text) (c.new-progress.ensures i) t (running text 0)) in
    let w = owner_after-number c.in_ok-owner.owner ∙ sym (ap (λ o. owner_after (texts_before o)) n) in
    faulted d text earlier t (rows_of c.scan.new.tables) (rows_of c.clear.new.self) s.cause s.at _ h e c.clear.ensures.rows (λ i. record { cause = s.cause; text = w i; byte = s.at; line = c.line_of.ensures i })

pub returns-in-Err-clause-law : goal.returns-in-Err-clause-law
returns-in-Err-clause-law c =
    let l = c.args.self.now.filled.limits in
    lawful_as (counts_of c.args.self.now) c.args.text.now c.args.earlier.now (rows_of c.args.tables.now) _ (record { names = l.0; rules = l.1; entries = l.2 }) (returns-in-Err-clause-is c)

pub returns-in-Ok-clause-law : goal.returns-in-Ok-clause-law
returns-in-Ok-clause-law c =
    let l = c.args.self.now.filled.limits in
    lawful_as (counts_of c.args.self.now) c.args.text.now c.args.earlier.now (rows_of c.args.tables.now) _ (record { names = l.0; rules = l.1; entries = l.2 }) (search rules)
