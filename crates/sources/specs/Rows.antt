-- Plans as rows of bytes that lie one after the other.
--   row_at        one row
--   Among         the plans listed
--   Decided       bytes that are 1 or 2
--   Listable      what may be listed
--   RowServes     a row that serves
--   FirstServing  the first row that serves
--   NoneServing   no row serves
--   GivesFirst    which plan an answer gives
--   Lending       what comes of rows that are lent
use Rattle.std.specs.Prelude.{◌≡◌, ℕ, ◌*◌, ◌<◌, ◌≤◌, List, length, take, drop, Ok, Err, Result, slice_index}
use Rattle.source.specs.Plans.{Serves}
use Rattle.source.specs.declared.Refusal.{Refusal}
use Rattle.source.specs.declared.Answer.{Answer}
use Rattle.source.specs.declared.Answer.TheVariants.{Plan, Nothing}
use Rattle.sources.specs.declared.refusal.ListingRefusal.{ListingRefusal}
use Rattle.sources.specs.declared.refusal.ListingRefusal.TheVariants.{Malformed}

-- row i of rows that are w bytes long
abbrev pub row_at : ℕ → List ℕ → ℕ → List ℕ
row_at w rows i = take w (drop (i * w) rows)

-- p is one of the first n rows
abbrev pub Among : ℕ → ℕ → List ℕ → List ℕ → Type 0
Among w n rows p = (i : ℕ) × (i < n) × (p ≡ row_at w rows i)

-- each byte is 1 (holds) or 2 (fails)
abbrev pub Decided : List ℕ → Type 0
Decided xs = (k : ℕ) → k < length xs → (1 ≤ slice_index xs k) × (slice_index xs k ≤ 2)

-- n rows of w bytes may be listed: at most 512 statements and 4,096 plans, all bytes there, each 1 or 2
abbrev pub Listable : ℕ → ℕ → List ℕ → Type 0
Listable w n rows = (w ≤ 512) × (n ≤ 4096) × (length rows ≡ n * w) × Decided rows

-- row i serves
abbrev pub RowServes : ℕ → List ℕ → List ℕ → List ℕ → ℕ → Type 0
RowServes w rows pins group i = Serves pins group (row_at w rows i)

-- row i serves, and none before it does
abbrev pub FirstServing : ℕ → ℕ → List ℕ → List ℕ → List ℕ → ℕ → Type 0
FirstServing w n rows pins group i =
    (i < n) × RowServes w rows pins group i × ((k : ℕ) → k < i → RowServes w rows pins group k → ⊥)

-- no row serves
abbrev pub NoneServing : ℕ → ℕ → List ℕ → List ℕ → List ℕ → Type 0
NoneServing w n rows pins group = (k : ℕ) → k < n → RowServes w rows pins group k → ⊥

-- where a plan is given, it is the first row that serves
abbrev pub GivesFirst : ℕ → ℕ → List ℕ → List ℕ → List ℕ → Result Answer Refusal → List ℕ → Type 0
GivesFirst w n rows pins group (Ok Plan) p = (i : ℕ) × FirstServing w n rows pins group i × (p ≡ row_at w rows i)
GivesFirst w n rows pins group (Ok Nothing) p = NoneServing w n rows pins group
GivesFirst w n rows pins group (Err e) p = Unit {0}

-- rows that may be listed are listed from now on; any others are refused, and the listing is as before
abbrev pub Lending : (w n : ℕ) (rows : List ℕ) (w0 n0 : ℕ) (rows0 : List ℕ) → Result Unit ListingRefusal → (w1 n1 : ℕ) (rows1 : List ℕ) → Type 0
Lending w n rows w0 n0 rows0 (Ok u) w1 n1 rows1 = Listable w n rows × (w1 ≡ w) × (n1 ≡ n) × (rows1 ≡ rows)
Lending w n rows w0 n0 rows0 (Err e) w1 n1 rows1 =
    (e ≡ Malformed) × (Listable w n rows → ⊥) × (w1 ≡ w0) × (n1 ≡ n0) × (rows1 ≡ rows0)
