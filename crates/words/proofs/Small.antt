-- A word lies within its text, and a name has at most 32 bytes.
use Rattle.std.proofs.Common.{◌≡◌, ℕ, ◌+◌, ◌<◌, ◌≤◌, false, eqb, ltb, List, [], ◌∷◌, length, take, drop, codes, arith, length-drop, length-take, ltb-false}
use Rattle.std.specs.List.{prefix_len}
use Rattle.std.specs.Str.{bytes_eq}
use Rattle.std.proofs.lemmas.Bool.{cond_both}
use Rattle.words.specs.declared.Fault.{Fault}
use Rattle.words.specs.Words.{Token, name, negation, comma, point, arrow, size_of, Reading, word, end, fault, is_letter, is_name_byte, is_arrow, blanks, name_token, word_at, next_word}

pub record Small (at : ℕ) (tok : Token) (k : ℕ) : Type 0 where
  pub few : size_of tok ≤ 32
  pub here : k ≡ at

abbrev Fits : ℕ → Reading → Type 0
Fits at r = (tok : Token) (k p : ℕ) → word tok k p ≡ r → Small at tok k

word_fits : (at : ℕ) (t : Token) (q : ℕ) → size_of t ≤ 32 → Fits at (word t at q)
word_fits at t q h tok k p e = let s : k ≡ at = cc in let u : tok ≡ t = cc in record { few = rw u h; here = s }

fault_fits : (at : ℕ) (f : Fault) (q : ℕ) → Fits at (fault f q)
fault_fits at f q tok k p e = let z : ◌≡◌ {A = ℕ} 0 1 = cc in absurd (omega arith)

end_fits : (at q : ℕ) → Fits at (end q)
end_fits at q tok k p e = let z : ◌≡◌ {A = ℕ} 0 1 = cc in absurd (omega arith)

name_few : (bs : List ℕ) → length bs ≤ 32 → size_of (name_token bs) ≤ 32
name_few bs h = cond_both (bytes_eq bs (codes "not")) negation (name bs) (λ t. size_of t ≤ 32) (λ _. omega arith) (λ _. h)

word_at_fits : (s : List ℕ) (at : ℕ) → Fits at (word_at s at)
word_at_fits [] at = end_fits at at
word_at_fits (b ∷ s) at =
    cond_both (is_letter b) _ _ (Fits at)
    (λ l. cond_both (ltb 32 (prefix_len is_name_byte (b ∷ s))) _ _ (Fits at) (λ _. fault_fits at _ at)
    (λ f. word_fits at _ _ (name_few (take (prefix_len is_name_byte (b ∷ s)) (b ∷ s)) (let g = ltb-false 32 (prefix_len is_name_byte (b ∷ s)) f in omega (arith, length-take (prefix_len is_name_byte (b ∷ s)) (b ∷ s))))))
    (λ _. cond_both (eqb b 44) _ _ (Fits at) (λ _. word_fits at comma _ (omega arith))
    (λ _. cond_both (eqb b 46) _ _ (Fits at) (λ _. word_fits at point _ (omega arith))
    (λ _. cond_both (is_arrow (b ∷ s)) _ _ (Fits at) (λ _. word_fits at arrow _ (omega arith)) (λ _. fault_fits at _ at))))

some_left : (s : List ℕ) (at : ℕ) (tok : Token) (k p : ℕ) → word tok k p ≡ word_at s at → 0 < length s
some_left [] at tok k p e = let z : ◌≡◌ {A = ℕ} 0 1 = cc in absurd (omega arith)
some_left (b ∷ s) at tok k p e = omega arith

pub record Inside (text : List ℕ) (tok : Token) (k : ℕ) : Type 0 where
  pub few : size_of tok ≤ 32
  pub inside : k < length text

pub inside_text : (text : List ℕ) (f : ℕ) (tok : Token) (k p : ℕ) → word tok k p ≡ next_word text f → Inside text tok k
inside_text text f tok k p e =
    let at = f + blanks false (drop f text) in
    let w = word_at_fits (drop at text) at tok k p e in
    let l = some_left (drop at text) at tok k p e in
    record { few = w.few; inside = omega (arith, length-drop at text) }

pub place_of_lem : (text : List ℕ) (f : ℕ) (tok : Token) (k p : ℕ) → word tok k p ≡ next_word text f → k ≡ f + blanks false (drop f text)
place_of_lem text f tok k p e = (word_at_fits (drop (f + blanks false (drop f text)) text) (f + blanks false (drop f text)) tok k p e).here
