-- Clauses: sets of entries, of which one at least must hold.
use Rattle.std.specs.Prelude.{◌≡◌, ℕ, ◌+◌, ◌<◌, ◌≤◌, Bool, true, not, ◌&&◌, ◌||◌, List, length, take, drop, ◌==◌, slice_index_or}
use Rattle.source.specs.Plans.{Whole}
use Rattle.closing.specs.Sets.{contrary, holds, every, In, Codes}
use Rattle.closing.specs.Forces.{Forces}
use Rattle.clauses.specs.declared.run.Run.{Run}

-- what is read past the last run
abbrev pub run0 : Run
run0 = record { first = 0; count = 0 }

-- the entries of clause k
abbrev pub clause_at : List Run → List ℕ → ℕ → List ℕ
clause_at rs es k = take (slice_index_or rs k run0).count (drop (slice_index_or rs k run0).first es)

-- the clause has the entry e
abbrev pub has : ℕ → List ℕ → Bool
has e c = not (every (λ f. not (f == e)) c)

-- e is in the clause and all other entries are contradicted
abbrev pub forces_one : List ℕ → (ℕ → Bool) → ℕ → Bool
forces_one c D e = has e c && every (λ f. (f == e) || D (contrary f)) c

-- all entries are contradicted
abbrev pub contradicted : List ℕ → (ℕ → Bool) → Bool
contradicted c D = every (λ f. D (contrary f)) c

-- one clause as a rule that forces decisions
abbrev pub one_clause : ℕ → List ℕ → Forces
one_clause w c = record { width = w; many = 1; force = λ k D e. forces_one c D e; bar = λ k D. contradicted c D }

-- a clause list as rules that force decisions: each clause the one entry left, and it bars a set that contradicts it whole
abbrev pub clause_forces : ℕ → List Run → List ℕ → Forces
clause_forces w rs es = record { width = w; many = length rs; force = λ k D e. forces_one (clause_at rs es k) D e; bar = λ k D. contradicted (clause_at rs es k) D }

-- an assignment in which every clause has an entry that holds
pub record ClausePlan (w : ℕ) (rs : List Run) (es p : List ℕ) : Type 0 where
  pub whole : Whole w p
  pub each : (k : ℕ) → k < length rs → (e : ℕ) × In e (clause_at rs es k) × (holds p e ≡ true)

-- each run lies among the m entries
abbrev pub RunsFit : List Run → ℕ → Type 0
RunsFit rs m = (k : ℕ) → k < length rs → (slice_index_or rs k run0).first + (slice_index_or rs k run0).count ≤ m

-- the limits of a clause list: its width, its counts, each run among the entries, and each entry naming a statement below the width
pub record ClausesOk (w : ℕ) (rs : List Run) (es : List ℕ) : Type 0 where
  pub narrow : w ≤ 512
  pub few : length rs ≤ 2048
  pub short : length es ≤ 8192
  pub runs : RunsFit rs (length es)
  pub codes : Codes w es
