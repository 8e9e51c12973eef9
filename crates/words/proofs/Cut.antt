-- A name is cut from its text at its place.
use Rattle.std.proofs.Common.{◌≡◌, ℕ, ◌+◌, ◌<◌, ◌≤◌, false, eqb, ltb, List, [], ◌∷◌, length, take, drop, codes, sym, ap, subst, arith, length-take}
use Rattle.std.specs.List.{prefix_len}
use Rattle.std.specs.Str.{bytes_eq}
use Rattle.std.proofs.lemmas.List.Sums.{prefix_len-le-length}
use Rattle.std.proofs.lemmas.Bool.{cond-true, cond_both, or_left}
use Rattle.words.specs.Words.{Token, name, negation, comma, point, arrow, Reading, word, is_letter, is_name_byte, is_arrow, blanks, name_token, word_at, next_word}
use Rattle.words.proofs.Small.{place_of_lem}

pub record Cut (s bs : List ℕ) : Type 0 where
  pub bytes : bs ≡ take (length bs) s
  pub some : 0 < length bs
  pub room : length bs ≤ length s

abbrev Cuts : List ℕ → Reading → Type 0
Cuts s r = (bs : List ℕ) (k p : ℕ) → word (name bs) k p ≡ r → Cut s bs

no_name : (s : List ℕ) (t : Token) (j q : ℕ) → ((bs : List ℕ) → name bs ≡ t → ⊥) → Cuts s (word t j q)
no_name s t j q h bs k p e = let z : name bs ≡ t = cc in absurd (h bs z)

front_cut : (s : List ℕ) (n : ℕ) → 0 < n → n ≤ length s → Cut s (take n s)
front_cut s n h g =
    let m : length (take n s) ≡ n = simp length-take (omega arith) in
    record { bytes = ap (λ k. take k s) (sym m); some = omega arith; room = omega arith }

name_cuts : (s : List ℕ) (n j q : ℕ) → 0 < n → n ≤ length s → Cuts s (word (name_token (take n s)) j q)
name_cuts s n j q h g =
    cond_both (bytes_eq (take n s) (codes "not")) negation (name (take n s)) (λ t. Cuts s (word t j q))
    (λ _. no_name s negation j q (λ bs e. let z : ◌≡◌ {A = ℕ} 0 1 = cc in omega arith))
    (λ _ bs k p e. let z : bs ≡ take n s = cc in subst (Cut s) (sym z) (front_cut s n h g))

word_at_cuts : (s : List ℕ) (at : ℕ) → Cuts s (word_at s at)
word_at_cuts [] at = λ bs k p e. let z : ◌≡◌ {A = ℕ} 0 1 = cc in absurd (omega arith)
word_at_cuts (b ∷ s) at =
    cond_both (is_letter b) _ _ (Cuts (b ∷ s))
    (λ l. cond_both (ltb 32 (prefix_len is_name_byte (b ∷ s))) _ _ (Cuts (b ∷ s)) (λ _ bs k p e. let z : ◌≡◌ {A = ℕ} 0 1 = cc in absurd (omega arith))
    (λ _. let n : prefix_len is_name_byte (b ∷ s) ≡ 1 + prefix_len is_name_byte s = cond-true (is_name_byte b) _ _ (or_left (is_letter b) _ l) in
    name_cuts (b ∷ s) (prefix_len is_name_byte (b ∷ s)) at _ (omega arith) (prefix_len-le-length is_name_byte (b ∷ s))))
    (λ _. cond_both (eqb b 44) _ _ (Cuts (b ∷ s)) (λ _. no_name (b ∷ s) comma at _ (λ bs e. let z : ◌≡◌ {A = ℕ} 0 1 = cc in omega arith))
    (λ _. cond_both (eqb b 46) _ _ (Cuts (b ∷ s)) (λ _. no_name (b ∷ s) point at _ (λ bs e. let z : ◌≡◌ {A = ℕ} 0 1 = cc in omega arith))
    (λ _. cond_both (is_arrow (b ∷ s)) _ _ (Cuts (b ∷ s)) (λ _. no_name (b ∷ s) arrow at _ (λ bs e. let z : ◌≡◌ {A = ℕ} 0 1 = cc in omega arith)) (λ _ bs k p e. let z : ◌≡◌ {A = ℕ} 0 1 = cc in absurd (omega arith)))))

pub cut_from : (text : List ℕ) (f : ℕ) (bs : List ℕ) (k p : ℕ) → word (name bs) k p ≡ next_word text f → Cut (drop k text) bs
cut_from text f bs k p e =
    let at = f + blanks false (drop f text) in
    subst (λ n. Cut (drop n text) bs) (sym (place_of_lem text f (name bs) k p e)) (word_at_cuts (drop at text) at bs k p e)
