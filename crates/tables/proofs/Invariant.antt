-- What each of the three writes keeps, reading keeps.
use Rattle.std.proofs.Common.{◌≡◌, ℕ, ◌+◌, ◌-◌, ◌*◌, false, List, length, take, set, Some, None, Option}
use Rattle.std.proofs.lemmas.Bool.{cond_both}
use Rattle.words.specs.Words.{Token, name, negation, arrow, comma, point}
use Rattle.words.specs.Running.{Running, more, ended, wrong}
use Rattle.tables.specs.declared.NameRow.{NameRow}
use Rattle.rulebook.specs.declared.row.RuleRow.{RuleRow}
use Rattle.tables.specs.declared.Phase.{Phase}
use Rattle.tables.specs.declared.Phase.TheVariants.{Start, AfterHead, WantEntry, WantName, AfterEntry}
use Rattle.tables.specs.Names.{found}
use Rattle.tables.specs.Feed.{Stage, Tables, Texts, Fed, on, off, full, new_row, number_from, with_number, numbered, headed, entered_as, closed, feed_in, feed, finished_in}
use Rattle.tables.specs.Reading.{carry, run}

abbrev with_names : List NameRow → Tables → Tables
with_names l t = record { names = l; rules = t.rules; entries = t.entries }

abbrev with_rules : List RuleRow → Tables → Tables
with_rules l t = record { names = t.names; rules = l; entries = t.entries }

abbrev with_entries : List ℕ → Tables → Tables
with_entries l t = record { names = t.names; rules = t.rules; entries = l }

-- a statement over the counts of names, rules and entries, and the tables, that each write keeps
pub record Lasts (P : ℕ → ℕ → ℕ → Tables → Type 0) : Type 0 where
  pub name_row : (n r e : ℕ) (t : Tables) (row : NameRow) → full 512 (length t.names) n ≡ false → P n r e t → P (n + 1) r e (with_names (set t.names n row) t)
  pub rule_row : (n r e : ℕ) (t : Tables) (row : RuleRow) → full 2048 (length t.rules) r ≡ false → P n r e t → P n (r + 1) e (with_rules (set t.rules r row) t)
  pub entry_row : (n r e : ℕ) (t : Tables) (code : ℕ) → full 8192 (length t.entries) e ≡ false → P n r e t → P n r (e + 1) (with_entries (set t.entries e code) t)

pub record SomeCounts (P : ℕ → ℕ → ℕ → Tables → Type 0) (t : Tables) : Type 0 where
  pub n : ℕ
  pub r : ℕ
  pub e : ℕ
  pub holds : P n r e t

-- it holds where reading goes on, and of some counts where it stops
abbrev pub Holds : (ℕ → ℕ → ℕ → Tables → Type 0) → Fed → Type 0
Holds P (on s t) = P s.names s.rules s.entries t
Holds P (off c k t) = SomeCounts P t

module _ (P : ℕ → ℕ → ℕ → Tables → Type 0) (l : Lasts P) where
  abbrev Keeps : (Stage → Tables → Fed) → Type 0
  Keeps f = (s : Stage) (t : Tables) → P s.names s.rules s.entries t → Holds P (f s t)

  stop : (s : Stage) (t : Tables) → P s.names s.rules s.entries t → SomeCounts P t
  stop s t p = record { n = s.names; r = s.rules; e = s.entries; holds = p }

  numbered_holds : (x : Texts) (b : List ℕ) (at : ℕ) (f : ℕ → Stage → Tables → Fed) → ((n : ℕ) → Keeps (f n)) → Keeps (numbered x b at f)
  numbered_holds x b at f k s t p = go (found x.region x.harbour b 0 (take s.names t.names))
    where
      go : (o : Option ℕ) → Holds P (with_number at f s t (number_from x b at s.names t.names o))
      go (Some n) = k n s t p
      go None = cond_both (full 512 (length t.names) s.names) _ _ (λ n. Holds P (with_number at f s t n)) (λ _. stop s t p) (λ q. k s.names _ _ (l.name_row _ _ _ t (new_row x b at) q p))

  entered_holds : (at sign n : ℕ) → Keeps (entered_as at sign n)
  entered_holds at sign n s t p = cond_both (full 8192 (length t.entries) s.entries) _ _ (Holds P) (λ _. stop s t p) (λ q. l.entry_row _ _ _ t (2 * n + sign) q p)

  closed_holds : (at : ℕ) → Keeps (closed at)
  closed_holds at s t p = cond_both (full 2048 (length t.rules) s.rules) _ _ (Holds P) (λ _. stop s t p) (λ q. l.rule_row _ _ _ t (record { head = s.head; first = s.first; count = s.entries - s.first }) q p)

  feed_holds : (p : Phase) (x : Texts) (k : Token) (at : ℕ) → Keeps (feed_in p x k at)
  feed_holds Start x (name b) at = numbered_holds x b at headed (λ n s t p. p)
  feed_holds Start x negation at = stop
  feed_holds Start x arrow at = λ s t p. p
  feed_holds Start x comma at = stop
  feed_holds Start x point at = stop
  feed_holds AfterHead x (name b) at = stop
  feed_holds AfterHead x negation at = stop
  feed_holds AfterHead x arrow at = λ s t p. p
  feed_holds AfterHead x comma at = stop
  feed_holds AfterHead x point at = closed_holds at
  feed_holds WantEntry x (name b) at = numbered_holds x b at (entered_as at 0) (entered_holds at 0)
  feed_holds WantEntry x negation at = λ s t p. p
  feed_holds WantEntry x arrow at = stop
  feed_holds WantEntry x comma at = stop
  feed_holds WantEntry x point at = stop
  feed_holds WantName x (name b) at = numbered_holds x b at (entered_as at 1) (entered_holds at 1)
  feed_holds WantName x negation at = stop
  feed_holds WantName x arrow at = stop
  feed_holds WantName x comma at = stop
  feed_holds WantName x point at = stop
  feed_holds AfterEntry x (name b) at = stop
  feed_holds AfterEntry x negation at = stop
  feed_holds AfterEntry x arrow at = stop
  feed_holds AfterEntry x comma at = λ s t p. p
  feed_holds AfterEntry x point at = closed_holds at

  carry_holds : (f : Stage → Tables → Fed) → Keeps f → (r : Fed) → Holds P r → Holds P (carry f r)
  carry_holds f k (on s t) h = k s t h
  carry_holds f k (off c at t) h = h

  finished_holds : (p : Phase) (n : ℕ) → Keeps (finished_in p n)
  finished_holds Start n = λ s t p. p
  finished_holds AfterHead n = stop
  finished_holds WantEntry n = stop
  finished_holds WantName n = stop
  finished_holds AfterEntry n = stop

  pub run_holds : (x : Texts) (n : ℕ) (ws : Running) → (s : Stage) (t : Tables) → P s.names s.rules s.entries t → Holds P (run x n s t ws)
  run_holds x n (more k at ws) s t p = carry_holds (λ s' t'. run x n s' t' ws) (run_holds x n ws) (feed x k at s t) (feed_holds s.phase x k at s t p)
  run_holds x n ended s t p = finished_holds s.phase n s t p
  run_holds x n (wrong f) s t p = stop s t p
