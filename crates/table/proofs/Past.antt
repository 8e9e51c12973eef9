-- What holds past the last line.
use Rattle.std.proofs.Common.{◌≡◌, ℕ, zero, suc, ◌<◌, ◌≤◌, List, [], ◌∷◌, ◌++◌, ◌+◌, length, drop, get_or, set, replicate, sym, refl, ap, ◌∙◌, ⊎_elim, arith}
use Rattle.std.proofs.lemmas.Bool.{cases_eq, cases_lt}
use Rattle.std.proofs.lemmas.List.{append-nil, length-set, get_or_past, get_or-set_same, get_or-set_other}
use Rattle.table.specs.declared.line.Line.{Line}
use Rattle.table.specs.Blank.{blank, line_at}

pub split_at : (P : ℕ → Type 0) (i : ℕ) → ((k : ℕ) → k < i → P k) → ((k : ℕ) → i ≤ k → P k) → (k : ℕ) → P k
split_at P i f g k = ⊎_elim (f k) (g k) (cases_lt k i)

-- every line was changed by F, from the line before and a byte
pub all_lines
    : (F : ℕ → Line → ℕ → Line) (out ls : List Line) (xs : List ℕ) (i : ℕ)
    → ((k : ℕ) → i ≤ k → F k blank 0 ≡ blank)
    → length out ≤ i → length ls ≤ i → length xs ≤ i
    → ((k : ℕ) → k < i → line_at out k ≡ F k (line_at ls k) (get_or xs k 0))
    → (k : ℕ) → line_at out k ≡ F k (line_at ls k) (get_or xs k 0)
all_lines F out ls xs i e a b c f =
    split_at (λ k. line_at out k ≡ F k (line_at ls k) (get_or xs k 0)) i f
    (λ k h. get_or_past out k blank (omega arith) ∙ sym (e k h) ∙ sym (ap (λ l. F k l (get_or xs k 0)) (get_or_past ls k blank (omega arith)) ∙ ap (F k blank) (get_or_past xs k 0 (omega arith))))

-- bytes before zeros
pub padded : (xs : List ℕ) (n k : ℕ) → get_or (xs ++ drop (length xs) (replicate n 0)) k 0 ≡ get_or xs k 0
padded [] zero k = refl
padded [] (suc n) zero = refl
padded [] (suc n) (suc k) = padded [] n k
padded (x ∷ xs) zero zero = refl
padded (x ∷ xs) (suc n) zero = refl
padded (x ∷ xs) zero (suc k) = ap (λ ys. get_or ys k 0) (append-nil xs)
padded (x ∷ xs) (suc n) (suc k) = padded xs n k

-- one line more was changed by F
pub line_more
    : (F : ℕ → Line → Line) (before rows : List Line) (i : ℕ) (row : Line) → i < 512 → length rows ≡ 512
    → ((k : ℕ) → k < i → line_at rows k ≡ F k (line_at before k)) → ((k : ℕ) → i ≤ k → line_at rows k ≡ line_at before k)
    → row ≡ F i (line_at rows i)
    → (length (set rows i row) ≡ 512)
    × ((k : ℕ) → k < i + 1 → line_at (set rows i row) k ≡ F k (line_at before k))
    × ((k : ℕ) → i + 1 ≤ k → line_at (set rows i row) k ≡ line_at before k)
line_more F before rows i row l n f g e = (
  simp length-set n,
  (λ k h. ⊎_elim
      (λ (q : k ≡ i). ap (λ j. get_or (set rows i row) j blank) q ∙ get_or-set_same rows i row blank (omega arith) ∙ e ∙ ap (F i) (g i (omega arith)) ∙ sym (ap (λ j. F j (line_at before j)) q))
      (λ (q : k ≡ i → ⊥). get_or-set_other rows i k row blank q ∙ f k (omega arith))
      (cases_eq k i)),
  λ k h. get_or-set_other rows i k row blank (λ q. omega arith) ∙ g k (omega arith),
)
