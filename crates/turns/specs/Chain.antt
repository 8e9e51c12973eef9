-- A chain through the rows of each head, from the last row to the first.
--   newest_row   the last row of a head among the first rows
--   Ends         rows without a head lead nowhere
--   Chained      the chains of the first rows
--   Walked       how far a walk down a chain has come
use Rattle.std.specs.Prelude.{◌≡◌, ℕ, zero, suc, ◌<◌, ◌≤◌, true, false, ◌≢◌, List, length, Option, Some, None, if◌then◌else◌, ◌==◌, slice_index_or}
use Rattle.rulebook.specs.declared.row.RuleRow.{RuleRow}
use Rattle.rulebook.specs.Rows.{blank}
use Rattle.turns.specs.Table.{Supports}

abbrev pub head_at : List RuleRow → ℕ → ℕ
head_at rows i = (slice_index_or rows i blank).head

-- the last of the rows below n that has the head s
abbrev pub newest_row : List RuleRow → ℕ → ℕ → Option ℕ
newest_row rows s zero = None
newest_row rows s (suc n) = if head_at rows n == s then Some n else newest_row rows s n

-- newest leads to the last row of each head
abbrev pub Tops : List RuleRow → ℕ → List (Option ℕ) → Type 0
Tops rows n newest = (s : ℕ) → s < length newest → slice_index_or newest s None ≡ newest_row rows s n

-- older leads from each of the rows below n with a head to the one before it with the same head
abbrev pub Links : List RuleRow → ℕ → ℕ → List (Option ℕ) → Type 0
Links rows n heads older = (i : ℕ) → i < n → head_at rows i < heads → slice_index_or older i None ≡ newest_row rows (head_at rows i) i

-- older leads nowhere from each of the rows below n without a head
abbrev pub Ends : List RuleRow → ℕ → ℕ → List (Option ℕ) → Type 0
Ends rows n heads older = (i : ℕ) → i < n → heads ≤ head_at rows i → slice_index_or older i None ≡ None

-- the chains of the rows below n: each leads to earlier rows alone
pub record Chained (rows : List RuleRow) (n : ℕ) (newest older : List (Option ℕ)) : Type 0 where
  pub tops : Tops rows n newest
  pub links : Links rows n (length newest) older
  pub ends : Ends rows n (length newest) older

-- a walk down the chain of s has come to the rows below n: those at n and above are seen
pub record Walked (p : List ℕ) (rows : List RuleRow) (es : List ℕ) (s : ℕ) (next only : Option ℕ) : Type 0 where
  pub n : ℕ
  pub here : n ≤ length rows
  pub left : next ≡ newest_row rows s n
  pub seen : (k : ℕ) → k < length rows → n ≤ k → only ≢ Some k → Supports p (slice_index_or rows k blank) es s false
  pub found : (k : ℕ) → only ≡ Some k → (k < length rows) × (n ≤ k) × Supports p (slice_index_or rows k blank) es s true
