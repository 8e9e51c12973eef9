use Rattle.table.proofs.Blanks.{blanks}
use Rattle.table.proofs.lines.Lines.new.Goals as goal

pub returns : goal.returns
returns c = λ k. blanks 512 k
