use Rattle.std.proofs.Common.{length, subst}
use Rattle.closing.specs.Turns.{Turn}
use Rattle.clauses.specs.Clauses.{one_clause, clause_at}
use Rattle.clauses.proofs.Turns.{row_turn}
use Rattle.clauses.proofs.ClauseListRules.turn.Goals as goal

pub returns : goal.returns
returns c =
    let s = c.args.self.now in
    row_turn s.width s.runs.now s.entries.now c.args.k c.args.p.now c.clause_turn.new.p c.clause_turn.result c.requires.at
    (subst (λ n. Turn (one_clause n (clause_at s.runs.now s.entries.now c.args.k)) 0 c.args.p.now c.clause_turn.new.p c.clause_turn.result) c.requires.partial.0
    (subst (λ es. Turn (one_clause (length c.args.p.now) es) 0 c.args.p.now c.clause_turn.new.p c.clause_turn.result) c.clause.ensures c.clause_turn.ensures))
