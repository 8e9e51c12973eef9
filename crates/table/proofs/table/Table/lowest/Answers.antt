use Rattle.std.proofs.Common.{rules, ◌≡◌, ◌<◌, List, length, cond, ap, ◌∙◌, refl, arith}
use Rattle.std.proofs.lemmas.List.{get_or-take, length-take}
use Rattle.table.specs.declared.line.Line.{Line}
use Rattle.table.specs.Blank.{blank, line_at}
use Rattle.table.specs.Lineup.{width_of, line_has}
use Rattle.table.proofs.Counting.{count_more, lowest_more}
use Rattle.table.proofs.Zeros.{zeros_all}
use Rattle.uses.specs.declared.Word.TheVariants.{Open}
use Rattle.table.proofs.table.Table.lowest.Goals as goal

pub loop-i-init : goal.loop-i-init
loop-i-init c = (omega arith, refl, refl, (λ k h. absurd (omega arith)), λ k h. zeros_all 512 k)

pub loop-i-preserved : goal.loop-i-preserved
loop-i-preserved c =
    let e = c.rows-line-items.ensures in
    let h : c.loop-i.i < width_of c.args.self.now.over = omega (arith, length-take {A = Line}, ap (λ (ls : List Line). length ls) e) in
    let is : c.has-open.result ≡ line_has Open (line_at c.args.self.now.lines.rows c.loop-i.i) =
    c.has-open.ensures ∙ ap (λ ls. line_has Open (line_at ls c.loop-i.i)) e ∙ ap (line_has Open) (get_or-take (width_of c.args.self.now.over) c.args.self.now.lines.rows c.loop-i.i blank h) in
    let r : c.from-n.result ≡ cond c.has-open.result 1 0 = search rules in
    let n =
    count_more (λ k. line_has Open (line_at c.args.self.now.lines.rows k)) _ _ _ _ c.loop-i.invariant.0 c.loop-i.invariant.1 is r in
    let m =
    lowest_more c.args.self.now.lines.rows c.args.limit c.loop-i.i c.loop-i.n c.lowest_mark.result c.loop-i.marks c.has-open.result (omega arith) c.loop-i.invariant.2
    c.loop-i.invariant.1 c.loop-i.invariant.3 c.loop-i.invariant.4 is c.lowest_mark.ensures in
    (n.0, n.1, m.0, m.1, m.2)
