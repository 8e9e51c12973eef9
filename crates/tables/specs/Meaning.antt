-- What the rows of the tables say, by the names that are found in them.
use Rattle.std.specs.Prelude.{◌≡◌, ℕ, ◌+◌, ◌*◌, List, [], ◌∷◌, ◌++◌, length, Some}
use Rattle.tables.specs.declared.NameRow.{NameRow}
use Rattle.rulebook.specs.declared.row.RuleRow.{RuleRow}
use Rattle.tables.specs.Limits.{no_head}
use Rattle.tables.specs.Names.{found}
use Rattle.tables.specs.Feed.{Texts}
use Rattle.tables.specs.Grammar.{Entry, entry, Head, headed, headless, Rule, rule}

-- finding the name gives the number
abbrev pub Finds : Texts → List NameRow → List ℕ → ℕ → Type 0
Finds x rows b n = found x.region x.harbour b 0 rows ≡ Some n

-- an entry's code is twice its statement's number, plus 1 if it says "not"
pub data Codes (x : Texts) (rows : List NameRow) : List Entry → List ℕ → Type 0 where
  bare : Codes x rows [] []
  code : (sign : ℕ) (b : List ℕ) (k n : ℕ) (es : List Entry) (cs : List ℕ) → Finds x rows b n → Codes x rows es cs → Codes x rows (entry sign b k ∷ es) ((2 * n + sign) ∷ cs)

-- the head's number, or that of none
pub data HeadIs (x : Texts) (rows : List NameRow) : Head → ℕ → Type 0 where
  named : (b : List ℕ) (k n : ℕ) → Finds x rows b n → HeadIs x rows (headed b k) n
  missing : HeadIs x rows headless no_head

-- rules, and the rule rows and the entries that say them; a run begins where the last ended
pub data Says (x : Texts) (rows : List NameRow) : List Rule → ℕ → List RuleRow → List ℕ → Type 0 where
  nothing : (first : ℕ) → Says x rows [] first [] []
  also : (h : Head) (es : List Entry) (j : ℕ) (rs : List Rule) (first n : ℕ) (cs : List ℕ) (rules : List RuleRow) (entries : List ℕ)
      → HeadIs x rows h n → Codes x rows es cs → Says x rows rs (first + length cs) rules entries
      → Says x rows (rule h es j ∷ rs) first (record { head = n; first = first; count = length cs } ∷ rules) (cs ++ entries)
