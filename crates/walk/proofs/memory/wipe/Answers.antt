use Rattle.std.proofs.Common.{◌≡◌, get_or, min, sym, ap, ◌∙◌, arith}
use Rattle.std.proofs.lemmas.Bool.{cond-true, cond-false, lt-ltb, le-ltb}
use Rattle.std.proofs.lemmas.List.{get_or_past}
use Rattle.trail.specs.Walks.{keep_b, keep_m}
use Rattle.trail.proofs.States.{keep_b_at, keep_b_long, keep_m_at, keep_m_long, keep_m_past}
use Rattle.walk.proofs.Loops.{written_set, written_all}
use Rattle.walk.proofs.memory.wipe.Goals.{then-marks-i, else-marks-i}
use Rattle.walk.proofs.memory.wipe.Goals as goal

pub loop-i-preserved : goal.loop-i-preserved
loop-i-preserved c =
    let d = c.args.level in
    let ms = c.args.marks.now in
    let bs = c.args.partial.now in
    let i = c.loop-i.i in
    let mark : get_or c.loop-i.marks i 0 ≡ get_or ms i 0 = c.loop-i.invariant.marks.above i (omega arith) in
    let byte : get_or c.loop-i.partial i 0 ≡ get_or bs i 0 = c.loop-i.invariant.bytes.above i (omega arith) in
    let kept = keep_b_at d ms bs i c.requires (omega arith) in
    let byte_is : c.if-marks-i.byte ≡ get_or (keep_b d ms bs) i 0 = elim c.if-marks-i.branch [
      | then-marks-i w ↦ w.byte-is ∙ sym (kept ∙ cond-true _ _ _ (lt-ltb d (get_or ms i 0) (omega (arith, w.if-marks-i.true, mark))))
      | else-marks-i w ↦ w.byte-is ∙ byte ∙ sym (kept ∙ cond-false _ _ _ (le-ltb d (get_or ms i 0) (omega (arith, w.if-marks-i.false, mark))))
    ] in
    record {
      bytes = written_set 0 (keep_b d ms bs) bs c.loop-i.partial i c.if-marks-i.byte c.loop-i.invariant.bytes (omega arith) byte_is;
      marks = written_set 0 (keep_m d bs ms) ms c.loop-i.marks i c.min.result c.loop-i.invariant.marks (omega arith)
          (c.min.ensures ∙ ap (λ m. min m d) mark ∙ sym (keep_m_at d bs ms i c.requires (omega arith)));
    }

pub returns : goal.returns
returns c =
    let d = c.args.level in
    let ms = c.args.marks.now in
    let bs = c.args.partial.now in
    let long = keep_b_long d ms bs c.requires in
    record {
      bytes = written_all 0 (keep_b d ms bs) bs c.loop-i.partial c.loop-i.i c.loop-i.invariant.bytes (omega (arith, long))
          (λ k h. get_or_past bs k 0 (omega arith) ∙ sym (get_or_past (keep_b d ms bs) k 0 (omega (arith, long))));
      marks = written_all 0 (keep_m d bs ms) ms c.loop-i.marks c.loop-i.i c.loop-i.invariant.marks (omega (arith, keep_m_long d bs ms))
          (λ k h. sym (keep_m_past d bs ms k (omega arith)));
    }
