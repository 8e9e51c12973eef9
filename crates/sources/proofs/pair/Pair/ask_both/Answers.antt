use Rattle.sources.proofs.Joins.{both_found}
use Rattle.sources.proofs.pair.Pair.ask_both.Goals as goal

pub returns-then-finds-2 : goal.returns-then-finds-2
returns-then-finds-2 g c =
    let s = c.args.self.now in
    both_found _ (g.F.Source.plan s.first) _ (g.S.Source.plan s.second) _ _ _ _ _ c.finds.new.place c.finds-then-finds.new.place _ _ _
    c.width-cut.ensures.value c.split_at.ensures.front c.split_at.ensures.back (c.if-finds.ensures.1, c.if-finds.ensures.2) (c.if-finds-2.ensures.1, c.if-finds-2.ensures.2)
