use Rattle.std.proofs.Common.{length, take, rules}
use Rattle.sources.proofs.Joins.{cut_made, blank_take, share_first, share_second, share_either}
use Rattle.sources.proofs.pair.Pair.join.Goals as goal

pub returns-in-First : goal.returns-in-First
returns-in-First g c =
    let s = c.args.self.now in
    let k = cut_made _ _ _ _ _ _ _ c.requires c.width.ensures.value c.split_at.ensures.front c.split_at.ensures.back c.split_at.ensures.front_len in
    share_first _ (g.F.Source.plan s.first) _ (g.S.Source.plan s.second) _ _ _ _ _ c.ask_both.result k (blank_take _ _ c.unmarked-unmarked.ensures) c.in-First.ensures c.ask_both.ensures

pub returns-in-Second : goal.returns-in-Second
returns-in-Second g c =
    let s = c.args.self.now in
    let k = cut_made _ _ _ _ _ _ _ c.requires c.width.ensures.value c.split_at.ensures.front c.split_at.ensures.back c.split_at.ensures.front_len in
    share_second _ (g.F.Source.plan s.first) _ (g.S.Source.plan s.second) _ _ _ _ _ c.ask_both-in-Second.result k (blank_take _ _ c.unmarked-unmarked.ensures) c.in-Second.ensures c.ask_both-in-Second.ensures

pub returns-in-Either : goal.returns-in-Either
returns-in-Either g c =
    let s = c.args.self.now in
    let k = cut_made _ _ _ _ _ _ _ c.requires c.width.ensures.value c.split_at.ensures.front c.split_at.ensures.back c.split_at.ensures.front_len in
    share_either _ (g.F.Source.plan s.first) _ (g.S.Source.plan s.second) _ _ _ _ _ (take (length c.split_at.result.1.now) c.unmarked-unmarked.result) c.ask_both-in-Either.result c.or_else.result k
    (blank_take _ _ c.unmarked-unmarked.ensures) (blank_take _ _ c.unmarked-unmarked.ensures) c.in-Either.ensures c.ask_both-in-Either.ensures (search rules)
