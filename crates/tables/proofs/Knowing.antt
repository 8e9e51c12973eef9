-- Which names the rows have, as rows are added.
use Rattle.std.proofs.Common.{◌≡◌, ℕ, ◌+◌, Bool, true, false, cond, ◌&&◌, ◌||◌, List, [], ◌∷◌, ◌++◌, is_some, Some, None, refl, ◌∙◌}
use Rattle.tables.specs.declared.NameRow.{NameRow}
use Rattle.tables.specs.Names.{same_name, is_name, found}
use Rattle.tables.specs.Feed.{Texts, new_row}
use Rattle.tables.specs.Room.{known_in, also_known}
use Rattle.tables.proofs.Owning.{Named}

module _ (p q c : List ℕ) where
  one : (b : Bool) (i : ℕ) → is_some (cond b (Some i) None) ≡ b
  one true i = refl
  one false i = refl

  pass : (b : Bool) (i : ℕ) (xs ys : List NameRow) (d : Bool) → is_some (found p q c (i + 1) ys) ≡ (is_some (found p q c (i + 1) xs) || d)
      → is_some (cond b (Some i) (found p q c (i + 1) ys)) ≡ (is_some (cond b (Some i) (found p q c (i + 1) xs)) || d)
  pass true i xs ys d e = refl
  pass false i xs ys d e = e

  pub found_more : (xs : List NameRow) (r : NameRow) (i : ℕ) → is_some (found p q c i (xs ++ (r ∷ []))) ≡ (is_some (found p q c i xs) || is_name p q c r)
  found_more [] r i = one (is_name p q c r) i
  found_more (y ∷ xs) r i = pass (is_name p q c y) i xs (xs ++ (r ∷ [])) (is_name p q c r) (found_more xs r (i + 1))

-- the row of a new name makes just that name known
pub known_more : (x : Texts) (rows : List NameRow) (b : List ℕ) (k : ℕ) → Named x b k → known_in x (rows ++ (new_row x b k ∷ [])) ≡ also_known b (known_in x rows)
known_more x rows b k n = λ i c. (found_more x.region x.harbour c rows (new_row x b k) 0 ∙ (λ j. known_in x rows c || (n.names j && same_name (n.part j) c))) i
