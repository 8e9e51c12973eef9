use Rattle.std.proofs.Common.{◌≡◌, ◌-◌, length}
use Rattle.words.specs.Running.{running}
use Rattle.tables.specs.Reading.{run}
use Rattle.text.specs.View.{texts_of, rows_of, IsSameLoan}
use Rattle.text.specs.Stages.{stage_of}
use Rattle.text.proofs.scan.scan.Given as goal

abbrev pub invariant-loop-word : goal.invariant-loop-word
invariant-loop-word l = record {
  text : l.reader.text.now ≡ l.text;
  same : IsSameLoan l.initial.tables l.tables;
  left : run (texts_of l.reading) (length l.text) (stage_of l.initial.progress) (rows_of l.initial.tables) (running l.text 0)
      ≡ run (texts_of l.reading) (length l.text) (stage_of l.progress) (rows_of l.tables) (running l.text l.reader.position);
}

abbrev pub decreases-loop-word : goal.decreases-loop-word
decreases-loop-word l = length l.text - l.reader.position
