-- The code's values as those of the definitions.
use Rattle.std.specs.Prelude.{◌≡◌, ℕ, List, length, Some, None, Option}
use Rattle.std.specs.Borrow.{Bor}
use Rattle.tables.specs.declared.Owner.{Owner}
use Rattle.tables.specs.declared.Owner.TheVariants.{Region, Harbour}
use Rattle.tables.specs.Numbers.{owner_number}
use Rattle.tables.specs.Feed.{Tables, Texts}
use Rattle.tables.specs.Draft.{Counts}
use Rattle.text.specs.declared.lent.Filled.{Filled}
use Rattle.text.specs.declared.lent.Tables as Lent
use Rattle.text.specs.declared.texts.Texts as Both
use Rattle.text.specs.declared.texts.Reading.{Reading}

-- what a lent part says
abbrev pub bytes_of : Option (Bor (List ℕ)) → Option (List ℕ)
bytes_of None = None
bytes_of (Some r) = Some r.now

-- a draft that has taken so many texts
abbrev pub counted : ℕ → Filled → Counts
counted texts f = record { texts = texts; names = f.names; rules = f.rules; entries = f.entries }

-- what the lent tables hold
abbrev pub rows_of : Lent.Tables → Tables
rows_of t = record { names = t.names.now; rules = t.rules.now; entries = t.entries.now }

-- the three references are as they were, and so are the tables' lengths
pub record IsSameLoan (t u : Lent.Tables) : Type 0 where
  pub names : u.names.ghost_name ≡ t.names.ghost_name
  pub rules : u.rules.ghost_name ≡ t.rules.ghost_name
  pub entries : u.entries.ghost_name ≡ t.entries.ghost_name
  pub names_size : length u.names.now ≡ length t.names.now
  pub rules_size : length u.rules.now ≡ length t.rules.now
  pub entries_size : length u.entries.now ≡ length t.entries.now

-- the two texts, and the number of the one that is read
abbrev pub texts_of : Reading → Texts
texts_of r = record { region = r.texts.region.now; harbour = r.texts.harbour.now; mark = owner_number r.owner }

-- the text that is the owner's
abbrev pub text_whose : Owner → Both.Texts → List ℕ
text_whose Region t = t.region.now
text_whose Harbour t = t.harbour.now
