-- One word more of a text.
use Rattle.std.proofs.Common.{◌≡◌, ℕ, List, sym, ap, ◌∙◌}
use Rattle.words.specs.declared.Fault.{Fault}
use Rattle.words.specs.Words.{Token, word, end, fault, next_word}
use Rattle.words.specs.Running.{running}
use Rattle.words.proofs.Runs.{running_more, running_ended, running_wrong}
use Rattle.tables.specs.Feed.{Stage, Tables, Texts, Fed, off, feed, finished}
use Rattle.tables.specs.Reading.{stop_of, carry, run}

module _ (x : Texts) (n : ℕ) (text : List ℕ) (from : ℕ) (s : Stage) (t : Tables) where
  pub one_more : (k : Token) (at p : ℕ) → word k at p ≡ next_word text from → (f : Fed) → f ≡ feed x k at s t → run x n s t (running text from) ≡ carry (λ s' t'. run x n s' t' (running text p)) f
  one_more k at p e f g = ap (run x n s t) (running_more text from k at p e) ∙ ap (carry (λ s' t'. run x n s' t' (running text p))) (sym g)

  pub at_end : (q : ℕ) → end q ≡ next_word text from → run x n s t (running text from) ≡ finished n s t
  at_end q e = ap (run x n s t) (running_ended text from q e)

  pub at_wrong : (f : Fault) (q : ℕ) → fault f q ≡ next_word text from → run x n s t (running text from) ≡ off (stop_of f).cause (stop_of f).at t
  at_wrong f q e = ap (run x n s t) (running_wrong text from f q e)
