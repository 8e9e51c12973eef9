-- Reading follows the phases.
use Rattle.std.proofs.Common.{◌≡◌, ℕ, List, length, take, Some, None, Option, refl, arith}
use Rattle.std.proofs.lemmas.Bool.{cond_both}
use Rattle.words.specs.Words.{Token, name, negation, arrow, comma, point}
use Rattle.tables.specs.declared.Cause.TheVariants.{OutOfPlace}
use Rattle.tables.specs.declared.Phase.{Phase}
use Rattle.tables.specs.declared.Phase.TheVariants.{Start, AfterHead, WantEntry, WantName, AfterEntry}
use Rattle.tables.specs.Names.{found}
use Rattle.tables.specs.Feed.{Stage, Tables, Texts, Fed, on, off, full, number_from, with_number, numbered, headed, entered_as, closed, feed_in}
use Rattle.tables.proofs.Walks.{onto}

abbrev pub Agrees : ℕ → Option Phase → Fed → Type 0
Agrees at (Some q) (on s t) = s.phase ≡ q
Agrees at (Some q) (off c k t) = c ≡ OutOfPlace → ⊥
Agrees at None (on s t) = ⊥
Agrees at None (off c k t) = (c ≡ OutOfPlace) × (k ≡ at)

pub numbered_agrees : (x : Texts) (b : List ℕ) (at : ℕ) (f : ℕ → Stage → Tables → Fed) (q : Phase) → ((n : ℕ) (s : Stage) (t : Tables) → Agrees at (Some q) (f n s t)) → (s : Stage) (t : Tables) → Agrees at (Some q) (numbered x b at f s t)
numbered_agrees x b at f q h s t = go (found x.region x.harbour b 0 (take s.names t.names))
  where
    go : (o : Option ℕ) → Agrees at (Some q) (with_number at f s t (number_from x b at s.names t.names o))
    go (Some n) = h n s t
    go None = cond_both (full 512 (length t.names) s.names) _ _ (λ n. Agrees at (Some q) (with_number at f s t n)) (λ _ e. let z : ◌≡◌ {A = ℕ} 0 1 = cc in absurd (omega arith)) (λ _. h _ _ _)

pub entered_agrees : (at sign n : ℕ) (s : Stage) (t : Tables) → Agrees at (Some AfterEntry) (entered_as at sign n s t)
entered_agrees at sign n s t = cond_both (full 8192 (length t.entries) s.entries) _ _ (Agrees at (Some AfterEntry)) (λ _ e. let z : ◌≡◌ {A = ℕ} 0 1 = cc in absurd (omega arith)) (λ _. refl)

pub closed_agrees : (at : ℕ) (s : Stage) (t : Tables) → Agrees at (Some Start) (closed at s t)
closed_agrees at s t = cond_both (full 2048 (length t.rules) s.rules) _ _ (Agrees at (Some Start)) (λ _ e. let z : ◌≡◌ {A = ℕ} 0 1 = cc in absurd (omega arith)) (λ _. refl)

pub feed_agrees : (p : Phase) (x : Texts) (k : Token) (at : ℕ) (s : Stage) (t : Tables) → Agrees at (onto p k) (feed_in p x k at s t)
feed_agrees Start x (name b) at s t = numbered_agrees x b at headed AfterHead (λ n s t. refl) s t
feed_agrees Start x negation at s t = (refl, refl)
feed_agrees Start x arrow at s t = refl
feed_agrees Start x comma at s t = (refl, refl)
feed_agrees Start x point at s t = (refl, refl)
feed_agrees AfterHead x (name b) at s t = (refl, refl)
feed_agrees AfterHead x negation at s t = (refl, refl)
feed_agrees AfterHead x arrow at s t = refl
feed_agrees AfterHead x comma at s t = (refl, refl)
feed_agrees AfterHead x point at s t = closed_agrees at s t
feed_agrees WantEntry x (name b) at s t = numbered_agrees x b at (entered_as at 0) AfterEntry (entered_agrees at 0) s t
feed_agrees WantEntry x negation at s t = refl
feed_agrees WantEntry x arrow at s t = (refl, refl)
feed_agrees WantEntry x comma at s t = (refl, refl)
feed_agrees WantEntry x point at s t = (refl, refl)
feed_agrees WantName x (name b) at s t = numbered_agrees x b at (entered_as at 1) AfterEntry (entered_agrees at 1) s t
feed_agrees WantName x negation at s t = (refl, refl)
feed_agrees WantName x arrow at s t = (refl, refl)
feed_agrees WantName x comma at s t = (refl, refl)
feed_agrees WantName x point at s t = (refl, refl)
feed_agrees AfterEntry x (name b) at s t = (refl, refl)
feed_agrees AfterEntry x negation at s t = (refl, refl)
feed_agrees AfterEntry x arrow at s t = (refl, refl)
feed_agrees AfterEntry x comma at s t = refl
feed_agrees AfterEntry x point at s t = closed_agrees at s t
