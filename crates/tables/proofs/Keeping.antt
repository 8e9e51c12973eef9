-- Reading leaves the rows below a draft's counts.
use Rattle.std.proofs.Common.{◌≡◌, ℕ, ◌+◌, ◌-◌, ◌*◌, ◌≤◌, List, ◌++◌, length, take, set, replicate, Some, None, Option, ◌∙◌, arith}
use Rattle.std.proofs.lemmas.List.{take-set-le, length-set}
use Rattle.std.proofs.lemmas.Bool.{cond_both}
use Rattle.words.specs.Words.{Token, name, negation, arrow, comma, point}
use Rattle.words.specs.Running.{Running, more, ended, wrong}
use Rattle.tables.specs.declared.Phase.{Phase}
use Rattle.tables.specs.declared.Phase.TheVariants.{Start, AfterHead, WantEntry, WantName, AfterEntry}
use Rattle.tables.specs.Names.{found}
use Rattle.tables.specs.Feed.{Stage, Tables, Texts, Fed, on, off, full, new_row, number_from, with_number, numbered, headed, entered_as, closed, feed_in, feed, finished_in}
use Rattle.tables.specs.Reading.{carry, run}
use Rattle.tables.specs.Draft.{Counts, cleared, cleared_tables}

set_cleared : {X : Type 0} (n : ℕ) (x : X) (xs : List X) (i : ℕ) (v : X) → n ≤ i → cleared n x (set xs i v) ≡ cleared n x xs
set_cleared n x xs i v h = λ j. take-set-le n xs i v h j ++ replicate (length-set xs i v j - n) x

pub record Above (d : Counts) (s : Stage) : Type 0 where
  pub names : d.names ≤ s.names
  pub rules : d.rules ≤ s.rules
  pub entries : d.entries ≤ s.entries

-- z is what the tables are if cleared
abbrev pub Keeps : Counts → Tables → Fed → Type 0
Keeps d z (on s t) = Above d s × (cleared_tables d t ≡ z)
Keeps d z (off c at t) = cleared_tables d t ≡ z

module _ (d : Counts) (z : Tables) where
  abbrev Kept : (Stage → Tables → Fed) → Type 0
  Kept f = (s : Stage) (t : Tables) → Above d s → cleared_tables d t ≡ z → Keeps d z (f s t)

  numbered_keeps : (x : Texts) (bytes : List ℕ) (at : ℕ) (f : ℕ → Stage → Tables → Fed) → ((n : ℕ) → Kept (f n)) → Kept (numbered x bytes at f)
  numbered_keeps x bytes at f k s t a e = go (found x.region x.harbour bytes 0 (take s.names t.names))
    where
      go : (o : Option ℕ) → Keeps d z (with_number at f s t (number_from x bytes at s.names t.names o))
      go (Some n) = k n s t a e
      go None =
          cond_both (full 512 (length t.names) s.names) _ _ (λ n. Keeps d z (with_number at f s t n)) (λ _. e)
          (λ _. k s.names _ _ (record { names = let h = a.names in omega arith; rules = a.rules; entries = a.entries })
          ((λ j. record { names = set_cleared d.names (record { text = 0; first = 0; size = 0 }) t.names s.names (new_row x bytes at) a.names j; rules = (cleared_tables d t).rules; entries = (cleared_tables d t).entries }) ∙ e))

  headed_keeps : (n : ℕ) → Kept (headed n)
  headed_keeps n s t a e = (record { names = a.names; rules = a.rules; entries = a.entries }, e)

  entered_keeps : (at sign n : ℕ) → Kept (entered_as at sign n)
  entered_keeps at sign n s t a e =
      cond_both (full 8192 (length t.entries) s.entries) _ _ (Keeps d z) (λ _. e)
      (λ _. (
        record { names = a.names; rules = a.rules; entries = let h = a.entries in omega arith },
        ((λ j. record { names = (cleared_tables d t).names; rules = (cleared_tables d t).rules; entries = set_cleared d.entries 0 t.entries s.entries (2 * n + sign) a.entries j }) ∙ e),
      ))

  closed_keeps : (at : ℕ) → Kept (closed at)
  closed_keeps at s t a e =
      cond_both (full 2048 (length t.rules) s.rules) _ _ (Keeps d z) (λ _. e)
      (λ _. (
        record { names = a.names; rules = let h = a.rules in omega arith; entries = a.entries },
        ((λ j. record { names = (cleared_tables d t).names; rules = set_cleared d.rules (record { head = 0; first = 0; count = 0 }) t.rules s.rules (record { head = s.head; first = s.first; count = s.entries - s.first }) a.rules j; entries = (cleared_tables d t).entries }) ∙ e),
      ))

  feed_keeps : (p : Phase) (x : Texts) (k : Token) (at : ℕ) → Kept (feed_in p x k at)
  feed_keeps Start x (name b) at s t a e = numbered_keeps x b at headed headed_keeps s t a e
  feed_keeps Start x negation at s t a e = e
  feed_keeps Start x arrow at s t a e = (record { names = a.names; rules = a.rules; entries = a.entries }, e)
  feed_keeps Start x comma at s t a e = e
  feed_keeps Start x point at s t a e = e
  feed_keeps AfterHead x (name b) at s t a e = e
  feed_keeps AfterHead x negation at s t a e = e
  feed_keeps AfterHead x arrow at s t a e = (record { names = a.names; rules = a.rules; entries = a.entries }, e)
  feed_keeps AfterHead x comma at s t a e = e
  feed_keeps AfterHead x point at s t a e = closed_keeps at s t a e
  feed_keeps WantEntry x (name b) at s t a e = numbered_keeps x b at (entered_as at 0) (entered_keeps at 0) s t a e
  feed_keeps WantEntry x negation at s t a e = (record { names = a.names; rules = a.rules; entries = a.entries }, e)
  feed_keeps WantEntry x arrow at s t a e = e
  feed_keeps WantEntry x comma at s t a e = e
  feed_keeps WantEntry x point at s t a e = e
  feed_keeps WantName x (name b) at s t a e = numbered_keeps x b at (entered_as at 1) (entered_keeps at 1) s t a e
  feed_keeps WantName x negation at s t a e = e
  feed_keeps WantName x arrow at s t a e = e
  feed_keeps WantName x comma at s t a e = e
  feed_keeps WantName x point at s t a e = e
  feed_keeps AfterEntry x (name b) at s t a e = e
  feed_keeps AfterEntry x negation at s t a e = e
  feed_keeps AfterEntry x arrow at s t a e = e
  feed_keeps AfterEntry x comma at s t a e = (record { names = a.names; rules = a.rules; entries = a.entries }, e)
  feed_keeps AfterEntry x point at s t a e = closed_keeps at s t a e

  carry_keeps : (f : Stage → Tables → Fed) → Kept f → (r : Fed) → Keeps d z r → Keeps d z (carry f r)
  carry_keeps f k (on s t) h = k s t h.0 h.1
  carry_keeps f k (off c at t) h = h

  finished_keeps : (p : Phase) (n : ℕ) → Kept (finished_in p n)
  finished_keeps Start n s t a e = (a, e)
  finished_keeps AfterHead n s t a e = e
  finished_keeps WantEntry n s t a e = e
  finished_keeps WantName n s t a e = e
  finished_keeps AfterEntry n s t a e = e

  pub run_keeps : (x : Texts) (n : ℕ) (ws : Running) (s : Stage) (t : Tables) → Above d s → cleared_tables d t ≡ z → Keeps d z (run x n s t ws)
  run_keeps x n (more k at ws) s t a e = carry_keeps (λ s' t'. run x n s' t' ws) (run_keeps x n ws) (feed x k at s t) (feed_keeps s.phase x k at s t a e)
  run_keeps x n ended s t a e = finished_keeps s.phase n s t a e
  run_keeps x n (wrong f) s t a e = e
