-- A word ends past where its reading began.
use Rattle.std.proofs.Common.{◌≡◌, ℕ, ◌+◌, ◌<◌, false, eqb, ltb, List, [], ◌∷◌, drop, arith}
use Rattle.std.specs.List.{prefix_len}
use Rattle.std.proofs.lemmas.Bool.{cond-true, cond_both, or_left}
use Rattle.words.specs.declared.Fault.{Fault}
use Rattle.words.specs.Words.{Token, Reading, word, fault, is_letter, is_name_byte, is_arrow, blanks, word_at, next_word}

-- a word that r is ends past at
abbrev Past : ℕ → Reading → Type 0
Past at r = (tok : Token) (k p : ℕ) → word tok k p ≡ r → at < p

word_past : (at : ℕ) (t : Token) (j q : ℕ) → at < q → Past at (word t j q)
word_past at t j q h tok k p e = let s : p ≡ q = cc in omega arith

fault_past : (at : ℕ) (f : Fault) (q : ℕ) → Past at (fault f q)
fault_past at f q tok k p e = let z : ◌≡◌ {A = ℕ} 0 1 = cc in absurd (omega arith)

word_at_past : (s : List ℕ) (at : ℕ) → Past at (word_at s at)
word_at_past [] at = λ tok k p e. let z : ◌≡◌ {A = ℕ} 0 1 = cc in absurd (omega arith)
word_at_past (b ∷ s) at =
    cond_both (is_letter b) _ _ (Past at)
    (λ l. cond_both (ltb 32 (prefix_len is_name_byte (b ∷ s))) _ _ (Past at) (λ _. fault_past at _ at)
    (λ _. let n : prefix_len is_name_byte (b ∷ s) ≡ 1 + prefix_len is_name_byte s = cond-true (is_name_byte b) _ _ (or_left (is_letter b) _ l) in
    word_past at _ _ _ (omega arith)))
    (λ _. cond_both (eqb b 44) _ _ (Past at) (λ _. word_past at _ _ _ (omega arith))
    (λ _. cond_both (eqb b 46) _ _ (Past at) (λ _. word_past at _ _ _ (omega arith))
    (λ _. cond_both (is_arrow (b ∷ s)) _ _ (Past at) (λ _. word_past at _ _ _ (omega arith)) (λ _. fault_past at _ at))))

pub advances : (t : List ℕ) (f : ℕ) (tok : Token) (k p : ℕ) → word tok k p ≡ next_word t f → f < p
advances t f tok k p e = let h = word_at_past (drop (f + blanks false (drop f t)) t) (f + blanks false (drop f t)) tok k p e in omega arith
