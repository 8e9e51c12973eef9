-- What the words of a text bring (names used for the first time, rules, entries), and whether there are rows for it.
use Rattle.std.specs.Prelude.{ℕ, ◌+◌, ◌≤◌, Bool, true, false, cond, ◌||◌, List, [], ◌∷◌, length, take, is_some}
use Rattle.words.specs.Words.{name, negation, arrow, comma, point}
use Rattle.tables.specs.declared.NameRow.{NameRow}
use Rattle.tables.specs.Limits.{names_max, rules_max, entries_max}
use Rattle.tables.specs.Names.{same_name, found}
use Rattle.tables.specs.Feed.{Tables, Texts, new_row}
use Rattle.tables.specs.Grammar.{Spot, spot}
use Rattle.tables.specs.Draft.{Counts}

-- the rows have the name
abbrev pub known_in : Texts → List NameRow → List ℕ → Bool
known_in x rows b = is_some (found x.region x.harbour b 0 rows)

-- the name c is known, or the same as b
abbrev pub also_known : List ℕ → (List ℕ → Bool) → List ℕ → Bool
also_known b known c = known c || same_name b c

-- the rows of the names used first in these words, in the order of first use
abbrev pub new_names : Texts → (List ℕ → Bool) → List Spot → List NameRow
new_names x known [] = []
new_names x known (spot (name b) k ∷ ws) = cond (known b) (new_names x known ws) (new_row x b k ∷ new_names x (also_known b known) ws)
new_names x known (spot negation k ∷ ws) = new_names x known ws
new_names x known (spot arrow k ∷ ws) = new_names x known ws
new_names x known (spot comma k ∷ ws) = new_names x known ws
new_names x known (spot point k ∷ ws) = new_names x known ws

-- the name is used in these words
abbrev pub used_in : List Spot → List ℕ → Bool
used_in [] c = false
used_in (spot (name b) k ∷ ws) c = same_name b c || used_in ws c
used_in (spot negation k ∷ ws) c = used_in ws c
used_in (spot arrow k ∷ ws) c = used_in ws c
used_in (spot comma k ∷ ws) c = used_in ws c
used_in (spot point k ∷ ws) c = used_in ws c

-- no name is known
abbrev pub none_known : List ℕ → Bool
none_known c = false

-- how many rules end in these words
abbrev pub rules_in : List Spot → ℕ
rules_in [] = 0
rules_in (spot (name b) k ∷ ws) = rules_in ws
rules_in (spot negation k ∷ ws) = rules_in ws
rules_in (spot arrow k ∷ ws) = rules_in ws
rules_in (spot comma k ∷ ws) = rules_in ws
rules_in (spot point k ∷ ws) = 1 + rules_in ws

-- how many entries these words have: every name but a head; `start` says that a rule begins here, so that a name would be a head
abbrev pub entries_in : Bool → List Spot → ℕ
entries_in start [] = 0
entries_in start (spot (name b) k ∷ ws) = cond start 0 1 + entries_in false ws
entries_in start (spot negation k ∷ ws) = entries_in false ws
entries_in start (spot arrow k ∷ ws) = entries_in false ws
entries_in start (spot comma k ∷ ws) = entries_in false ws
entries_in start (spot point k ∷ ws) = entries_in true ws

-- there are n rows: no more than the limit, and no more than the table has
abbrev pub Within : ℕ → ℕ → ℕ → Type 0
Within limit size n = (n ≤ limit) × (n ≤ size)

-- the names known and counted so far and those used first in the words have rows in a table of that size
abbrev pub NamesFit : Texts → (List ℕ → Bool) → ℕ → ℕ → List Spot → Type 0
NamesFit x known size n us = Within names_max size (n + length (new_names x known us))

-- the rules counted so far and those of the words have rows
abbrev pub RulesFit : ℕ → ℕ → List Spot → Type 0
RulesFit size n us = Within rules_max size (n + rules_in us)

-- the entries counted so far and those of the words have rows
abbrev pub EntriesFit : Bool → ℕ → ℕ → List Spot → Type 0
EntriesFit start size n us = Within entries_max size (n + entries_in start us)

-- what the words of a text bring has rows after those that a draft counts
pub record Fits (x : Texts) (d : Counts) (t : Tables) (us : List Spot) : Type 0 where
  pub names : NamesFit x (known_in x (take d.names t.names)) (length t.names) d.names us
  pub rules : RulesFit (length t.rules) d.rules us
  pub entries : EntriesFit true (length t.entries) d.entries us
