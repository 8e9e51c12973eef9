use Rattle.std.proofs.Common.{subst}
use Rattle.turns.specs.Meaning.{book_of}
use Rattle.turns.specs.Table.{LawTurn, UnfoundedFail}
use Rattle.turns.proofs.Marks.{no_marks}
use Rattle.turns.proofs.table.Table.unfounded_step.Goals as goal

pub unfounded_with-requires-clause-clear : goal.unfounded_with-requires-clause-clear
unfounded_with-requires-clause-clear c = λ s. no_marks 512 c.args.self.now.width s

pub returns : goal.returns
returns c = let t = c.args.self.now in
    subst (λ n. LawTurn (UnfoundedFail (book_of n t.rows.now t.entries.now)) c.args.p.now c.unfounded_with.new.p c.unfounded_with.result) c.requires.0 c.unfounded_with.ensures
