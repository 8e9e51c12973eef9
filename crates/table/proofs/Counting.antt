-- Counting lines, and marking the lowest.
use Rattle.std.proofs.Common.{◌≡◌, ℕ, zero, suc, ◌+◌, ◌<◌, ◌≤◌, Bool, true, false, cond, ltb, ◌⊎◌, List, length, get_or, take, set, refl, sym, ap, ◌∙◌, inl, inr, ⊎_elim, add-one, arith}
use Rattle.std.proofs.lemmas.Bool.{cases_Bool, cases_eq}
use Rattle.std.proofs.lemmas.List.{length-set, get_or-set_same, get_or-set_other}
use Rattle.std.specs.List.{count_by}
use Rattle.std.proofs.lemmas.List.Sums.{count_by_more_yes, count_by_more_no}
use Rattle.uses.proofs.Law.{bit_one, bit_none}
use Rattle.uses.specs.Model.{counted_by}
use Rattle.table.specs.declared.line.Line.{Line}
use Rattle.table.specs.Blank.{blank, line_at}
use Rattle.uses.specs.declared.Word.TheVariants.{Open}
use Rattle.table.specs.Lineup.{line_has, lowest_of}

counted_more : (f : ℕ → Bool) (i : ℕ) → counted_by f (i + 1) ≡ cond (f i) 1 0 + counted_by f i
counted_more f i = ap (counted_by f) (add-one i)

bit : (b : Bool) → cond b 1 0 ≤ 1
bit true = omega arith
bit false = omega arith

-- one test more
pub count_more
    : (f : ℕ → Bool) (n i r : ℕ) (b : Bool) → (n ≤ i) → (n ≡ counted_by f i) → b ≡ f i → r ≡ cond b 1 0
    → (n + r ≤ i + 1) × (n + r ≡ counted_by f (i + 1))
count_more f n i r b l s t e =
    let c : r ≡ cond (f i) 1 0 = e ∙ ap (λ x. cond x 1 0) t in
    let k : cond (f i) 1 0 ≤ 1 = bit (f i) in
    let m = counted_more f i in
    (omega arith, omega arith)

-- a count of the first lines, by their numbers
pub counted : (p : Line → Bool) (rows : List Line) (w : ℕ) → w ≤ length rows → count_by p (take w rows) ≡ counted_by (λ k. p (line_at rows k)) w
counted p rows zero h = refl
counted p rows (suc w) h = ap (λ n. count_by p (take n rows)) (sym (add-one w)) ∙ go (counted p rows w (omega arith)) (cases_Bool (p (line_at rows w)))
  where
    go : count_by p (take w rows) ≡ counted_by (λ k. p (line_at rows k)) w → (p (line_at rows w) ≡ true) ⊎ (p (line_at rows w) ≡ false) → count_by p (take (w + 1) rows) ≡ cond (p (line_at rows w)) 1 0 + counted_by (λ k. p (line_at rows k)) w
    go e (inl t) =
        let b = bit_one (p (line_at rows w)) t in
        let m = count_by_more_yes p rows w blank (omega arith) t in
        omega arith
    go e (inr f) =
        let b = bit_none (p (line_at rows w)) f in
        let m = count_by_more_no p rows w blank (omega arith) f in
        omega arith

-- one mark more
pub lowest_more
    : (rows : List Line) (limit i n v : ℕ) (marks : List ℕ) (b : Bool)
    → i < 512 → length marks ≡ 512
    → n ≡ counted_by (λ j. line_has Open (line_at rows j)) i
    → ((k : ℕ) → k < i → get_or marks k 0 ≡ cond (lowest_of rows limit k) 1 0)
    → ((k : ℕ) → i ≤ k → get_or marks k 0 ≡ 0)
    → b ≡ line_has Open (line_at rows i) → v ≡ cond (cond b (ltb n limit) false) 1 0
    → (length (set marks i v) ≡ 512)
    × ((k : ℕ) → k < i + 1 → get_or (set marks i v) k 0 ≡ cond (lowest_of rows limit k) 1 0)
    × ((k : ℕ) → i + 1 ≤ k → get_or (set marks i v) k 0 ≡ 0)
lowest_more rows limit i n v marks b h l c f g t e = (
  simp length-set l,
  (λ k x. ⊎_elim
      (λ (q : k ≡ i). ap (λ y. get_or (set marks i v) y 0) q ∙ get_or-set_same marks i v 0 (omega arith) ∙ here ∙ sym (ap (λ y. cond (lowest_of rows limit y) 1 0) q))
      (λ (q : k ≡ i → ⊥). get_or-set_other marks i k v 0 q ∙ f k (omega arith))
      (cases_eq k i)),
  λ k x. get_or-set_other marks i k v 0 (λ q. omega arith) ∙ g k (omega arith),
)
  where
    here : v ≡ cond (lowest_of rows limit i) 1 0
    here = e ∙ ap (λ y. cond (cond y (ltb n limit) false) 1 0) t ∙ ap (λ y. cond (cond (line_has Open (line_at rows i)) (ltb y limit) false) 1 0) c
