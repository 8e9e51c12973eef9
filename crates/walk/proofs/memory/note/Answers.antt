use Rattle.std.proofs.Common.{◌≡◌, get_or, sym, ap, ◌∙◌, arith}
use Rattle.trail.specs.Walks.{note_one, note_m}
use Rattle.trail.proofs.States.{note_m_at, note_m_long, note_m_past}
use Rattle.walk.proofs.Loops.{written_set, written_all}
use Rattle.walk.proofs.memory.note.Goals as goal

pub loop-i-preserved : goal.loop-i-preserved
loop-i-preserved c =
    let d = c.args.level in
    let ms = c.args.marks.now in
    let bs = c.args.partial.now in
    let i = c.loop-i.i in
    let same : get_or c.loop-i.marks i 0 ≡ get_or ms i 0 = c.loop-i.invariant.above i (omega arith) in
    written_set 0 (note_m d bs ms) ms c.loop-i.marks i c.noted.result c.loop-i.invariant (omega arith)
    (c.noted.ensures ∙ ap (note_one d (get_or bs i 0)) same ∙ sym (note_m_at d bs ms i c.requires (omega arith)))

pub returns : goal.returns
returns c =
    let d = c.args.level in
    let ms = c.args.marks.now in
    let bs = c.args.partial.now in
    written_all 0 (note_m d bs ms) ms c.loop-i.marks c.loop-i.i c.loop-i.invariant (omega (arith, note_m_long d bs ms)) (λ k h. sym (note_m_past d bs ms k (omega arith)))
