-- All words of a text.
use Rattle.std.specs.Prelude.{ℕ, zero, suc, List, length}
use Rattle.words.specs.declared.Fault.{Fault}
use Rattle.words.specs.Words.{Token, Reading, word, end, fault, next_word}

-- The words from a place on, each with its place, and how they end: with the text, or at what is no word.
pub data Running : Type 0 where
  more : Token → ℕ → Running → Running
  ended : Running
  wrong : Fault → Running

-- a reading, and what goes on after its word
abbrev pub onward : (ℕ → Running) → Reading → Running
onward f (word t k p) = more t k (f p)
onward f (end q) = ended
onward f (fault e q) = wrong e

-- at most so many words
abbrev pub running_by : ℕ → List ℕ → ℕ → Running
running_by zero text from = ended
running_by (suc n) text from = onward (running_by n text) (next_word text from)

-- a text has at most as many words as bytes
unfoldable pub running : List ℕ → ℕ → Running
running text from = running_by (suc (length text)) text from
