-- After the region's text, the names known are those used in it; so the harbour's new names go on with its order of first use.
use Rattle.std.proofs.Common.{◌≡◌, ℕ, ◌+◌, Bool, true, false, cond, ◌||◌, List, [], ◌∷◌, ◌++◌, is_some, Some, sym, refl, ap, ◌∙◌, subst, append_assoc, append-nil}
use Rattle.tables.proofs.Sameness.{same_means}
use Rattle.std.proofs.lemmas.Bool.{cond_both}
use Rattle.words.specs.Words.{name, negation, arrow, comma, point}
use Rattle.words.specs.Running.{running}
use Rattle.tables.specs.declared.NameRow.{NameRow}
use Rattle.tables.specs.Names.{same_name, is_name, found}
use Rattle.tables.specs.Feed.{Texts, new_row}
use Rattle.tables.specs.Grammar.{Spot, spot, spots}
use Rattle.tables.specs.Draft.{texts_for}
use Rattle.tables.specs.Room.{known_in, used_in, none_known, also_known, new_names}
use Rattle.tables.proofs.Owning.{OwnSpots, running_own}
use Rattle.tables.proofs.Knowing.{known_more}

or_none : (a : Bool) → a ≡ (a || false)
or_none true = refl
or_none false = refl

or_group : (a b c : Bool) → ((a || b) || c) ≡ (a || (b || c))
or_group true b c = refl
or_group false b c = refl

or_idle : (a s u : Bool) → (s ≡ true → a ≡ true) → (a || u) ≡ (a || (s || u))
or_idle true s u h = refl
or_idle false true u h = ap (λ t. t || u) (h refl)
or_idle false false u h = refl

module _ (x : Texts) where
  pub known_after : (rows : List NameRow) (ws : List Spot) → OwnSpots x ws → (c : List ℕ) → known_in x (rows ++ new_names x (known_in x rows) ws) c ≡ (known_in x rows c || used_in ws c)
  known_after rows [] o c = ap (λ r. known_in x r c) (append-nil rows) ∙ or_none (known_in x rows c)
  known_after rows (spot (name b) k ∷ ws) o c =
      let m = known_more x rows b k o.0 in
      cond_both (known_in x rows b) _ _ (λ l. known_in x (rows ++ l) c ≡ (known_in x rows c || (same_name b c || used_in ws c)))
      (λ e. known_after rows ws o.1 c ∙ or_idle (known_in x rows c) (same_name b c) (used_in ws c) (λ s. subst (λ d. known_in x rows d ≡ true) (same_means b c s) e))
      (λ e. ap (λ l. known_in x l c) (sym (append_assoc rows (new_row x b k ∷ []) (new_names x (also_known b (known_in x rows)) ws)))
      ∙ ap (λ f. known_in x ((rows ++ (new_row x b k ∷ [])) ++ new_names x f ws) c) (sym m)
      ∙ known_after (rows ++ (new_row x b k ∷ [])) ws o.1 c
      ∙ ap (λ f. f c || used_in ws c) m
      ∙ or_group (known_in x rows c) (same_name b c) (used_in ws c))
  known_after rows (spot negation k ∷ ws) o c = known_after rows ws o.1 c
  known_after rows (spot arrow k ∷ ws) o c = known_after rows ws o.1 c
  known_after rows (spot comma k ∷ ws) o c = known_after rows ws o.1 c
  known_after rows (spot point k ∷ ws) o c = known_after rows ws o.1 c

module _ (region harbour c : List ℕ) where
  abbrev First : Texts
  First = texts_for 0 region []

  -- the rows of the region's names do not look at the harbour's text
  apart : (known : List ℕ → Bool) (ws : List Spot) (i : ℕ) → found region harbour c i (new_names First known ws) ≡ found region [] c i (new_names First known ws)
  apart known [] i = refl
  apart known (spot (name b) k ∷ ws) i =
      cond_both (known b) _ _ (λ l. found region harbour c i l ≡ found region [] c i l)
      (λ e. apart known ws i)
      (λ e. ap (λ f. cond (is_name region [] c (new_row First b k)) (Some i) f) (apart (also_known b known) ws (i + 1)))
  apart known (spot negation k ∷ ws) i = apart known ws i
  apart known (spot arrow k ∷ ws) i = apart known ws i
  apart known (spot comma k ∷ ws) i = apart known ws i
  apart known (spot point k ∷ ws) i = apart known ws i

  pub known_is_used : known_in (texts_for 1 harbour region) (new_names First none_known (spots (running region 0))) c ≡ used_in (spots (running region 0)) c
  known_is_used = ap is_some (apart none_known (spots (running region 0)) 0) ∙ known_after First [] (spots (running region 0)) (running_own region [] 0) c
