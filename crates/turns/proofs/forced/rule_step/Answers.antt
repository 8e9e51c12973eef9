use Rattle.std.proofs.Common.{◌≡◌, ◌*◌, ◌<◌, Err, length, Some, None, IfSome, sym, subst, arith}
use Rattle.std.proofs.lemmas.Bool.{eqb-false}
use Rattle.closing.specs.Sets.{holds}
use Rattle.closing.specs.Turns.{Made}
use Rattle.stable.specs.Books.{HeadFails}
use Rattle.turns.specs.Meaning.{lifted}
use Rattle.turns.specs.Table.{LawTurn, RowKept, head_in, rule_from}
use Rattle.turns.proofs.Steps.{turn_many, turn_head, turn_bar, turn_one, turn_idle}
use Rattle.turns.proofs.forced.rule_step.Goals as goal

pub decide-requires-then-head_fails-clause-entry : goal.decide-requires-then-head_fails-clause-entry
decide-requires-then-head_fails-clause-entry c =
    let (at, lt, eq) = c.in-Only.ensures.0 in
    let k = c.requires.codes at lt in omega arith

pub returns-in-Some : goal.returns-in-Some
returns-in-Some c =
    let p = c.args.p.now in let q = c.decide.new.p in let h : Some c.in-Some.s ≡ head_in c.args.row = c.in-Some.ensures in
    subst (λ x. LawTurn (λ C. RowKept C (rule_from x c.args.body.now)) p q c.decide.result) h
    (turn_head p c.args.body.now c.in-Nothing.ensures c.in-Some.s q _ (subst (λ x. IfSome x (λ s. s < length p)) (sym h) c.requires.headed) c.requires.bytes
    (subst (λ e. Made p e q c.decide.result) c.holding.ensures c.decide.ensures))

pub returns-else-is_empty : goal.returns-else-is_empty
returns-else-is_empty c =
    let p = c.args.p.now in let h : None ≡ head_in c.args.row = c.in-None.ensures in
    subst (λ x. LawTurn (λ C. RowKept C (rule_from x c.args.body.now)) p p (Err _)) h
    (turn_bar p c.args.body.now c.in-Nothing.ensures _ c.requires.codes (eqb-false (length c.args.body.now) 0 (sym c.if-is_empty.ensures)))

pub returns-then-head_fails : goal.returns-then-head_fails
returns-then-head_fails c =
    let p = c.args.p.now in let q = c.decide-then-head_fails.new.p in
    let (at, lt, eq) = c.in-Only.ensures.0 in
    let k = c.requires.codes at lt in
    turn_one p (head_in c.args.row) c.args.body.now q _ c.in-Only.e c.in-Only.ensures (subst (λ x. HeadFails (holds p) (lifted x)) c.head-in-Only.ensures c.if-head_fails.ensures) (let l : c.in-Only.e < 2 * length p = omega arith in l) c.requires.bytes
    (subst (λ e. Made p e q c.decide-then-head_fails.result) c.contrary_of.ensures c.decide-then-head_fails.ensures)

pub returns-else-head_fails : goal.returns-else-head_fails
returns-else-head_fails c = turn_idle c.args.p.now (head_in c.args.row) c.args.body.now c.in-Only.e c.in-Only.ensures
    (λ fails. c.if-head_fails.ensures (subst (λ x. HeadFails (holds c.args.p.now) (lifted x)) (sym c.head-in-Only.ensures) fails))

pub returns-in-Several : goal.returns-in-Several
returns-in-Several c = turn_many c.args.p.now (head_in c.args.row) c.args.body.now c.in-Several.ensures
