use Rattle.std.proofs.Common.{◌<◌, length, sym, ap, ◌∙◌, arith}
use Rattle.std.proofs.lemmas.Result.{err_from_is_err_and}
use Rattle.words.specs.Words.{token_of, place_of, next_word}
use Rattle.words.proofs.Laws.{advances}
use Rattle.words.proofs.Small.{inside_text}
use Rattle.text.specs.View.{texts_of, rows_of}
use Rattle.text.specs.Stages.{stage_of}
use Rattle.text.proofs.Scanning.{one_more, at_end, at_wrong}
use Rattle.text.proofs.scan.scan.Goals as goal

pub returns-in_err-word-clause-says : goal.returns-in_err-word-clause-says
returns-in_err-word-clause-says c =
    let r = c.loop-word.reader in
    let e = c.in_err-word.ensures.reads ∙ ap (λ u. next_word u r.position) c.loop-word.invariant.text in
    let w = at_wrong (texts_of c.args.reading) (length c.args.text.now) c.args.text.now r.position (stage_of c.loop-word.progress) (rows_of c.loop-word.tables) c.in_err-word.field-0.0 c.next.new.self.position e in
    let p = err_from_is_err_and c.from_residual.result c.from_residual.ensures.1 in
    rw (p.1, p.2) (sym (c.loop-word.invariant.left ∙ w))

pub step-requires : goal.step-requires
step-requires c =
    let r = c.loop-word.reader in
    let i = inside_text r.text.now r.position (token_of c.in-Some.word) (place_of c.in-Some.word) c.next.new.self.position (rw c.in-Some.is at c.in_ok-word.ensures.reads) in
    let m = ap length c.loop-word.invariant.text in
    (omega arith, i.few)

pub loop-word-smaller : goal.loop-word-smaller
loop-word-smaller c =
    let r = c.loop-word.reader in
    let s = c.next.new.self in
    let h : r.position < s.position = advances r.text.now r.position (token_of c.in-Some.word) (place_of c.in-Some.word) s.position (rw c.in-Some.is at c.in_ok-word.ensures.reads) in
    let l = s.inside in
    let k = ap length c.next.ensures.same in
    let m = ap length c.loop-word.invariant.text in
    omega arith

pub loop-word-preserved : goal.loop-word-preserved
loop-word-preserved c =
    let r = c.loop-word.reader in
    let e = rw c.in-Some.is at c.in_ok-word.ensures.reads in
    let w = one_more (texts_of c.args.reading) (length c.args.text.now) c.args.text.now r.position (stage_of c.loop-word.progress) (rows_of c.loop-word.tables) (token_of c.in-Some.word) (place_of c.in-Some.word) c.next.new.self.position (e ∙ ap (λ u. next_word u r.position) c.loop-word.invariant.text) _ c.in_ok-step.ensures.says in
    let h = c.step.ensures.same in
    let i = c.loop-word.invariant.same in
    record { text = c.next.ensures.same ∙ c.loop-word.invariant.text; same = record { names = h.names ∙ i.names; rules = h.rules ∙ i.rules; entries = h.entries ∙ i.entries; names_size = h.names_size ∙ i.names_size; rules_size = h.rules_size ∙ i.rules_size; entries_size = h.entries_size ∙ i.entries_size }; left = c.loop-word.invariant.left ∙ w }

pub returns-in_err-step-clause-says : goal.returns-in_err-step-clause-says
returns-in_err-step-clause-says c =
    let r = c.loop-word.reader in
    let e = rw c.in-Some.is at c.in_ok-word.ensures.reads in
    let w = one_more (texts_of c.args.reading) (length c.args.text.now) c.args.text.now r.position (stage_of c.loop-word.progress) (rows_of c.loop-word.tables) (token_of c.in-Some.word) (place_of c.in-Some.word) c.next.new.self.position (e ∙ ap (λ u. next_word u r.position) c.loop-word.invariant.text) _ c.in_err-step.ensures.says in
    let p = err_from_is_err_and c.from_residual-in_err-step.result c.from_residual-in_err-step.ensures.1 in
    rw (p.1, p.2) (sym (c.loop-word.invariant.left ∙ w))

pub returns-clause-says : goal.returns-clause-says
returns-clause-says c =
    let r = c.loop-word.reader in
    let e = rw c.in_default.is at c.in_ok-word.ensures.reads in
    let w = at_end (texts_of c.args.reading) (length c.args.text.now) c.args.text.now r.position (stage_of c.loop-word.progress) (rows_of c.loop-word.tables) c.next.new.self.position (e ∙ ap (λ u. next_word u r.position) c.loop-word.invariant.text) in
    c.finish.ensures (rows_of c.loop-word.tables) ∙ sym (c.loop-word.invariant.left ∙ w)
