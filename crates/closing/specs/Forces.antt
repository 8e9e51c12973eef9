-- Rules that force decisions, their closure, and the base that they make.
use Rattle.std.specs.Prelude.{◌≡◌, ℕ, ◌*◌, ◌<◌, ◌≤◌, Bool, true, false, cond, not, ◌&&◌, List}
use Rattle.source.specs.Plans.{Whole}
use Rattle.base.specs.Laws.{Out, clash, fits}
use Rattle.closing.specs.Sets.{contrary, holds, imp, below, all_sets, subset, Within, Sub, tabulate, byte_of}

-- so many rules over so many statements: what each forces, given a set of decisions, and which sets each bars
pub record Forces : Type 0 where
  pub width : ℕ
  pub many : ℕ
  pub force : ℕ → (ℕ → Bool) → ℕ → Bool
  pub bar : ℕ → (ℕ → Bool) → Bool

-- the set has all that the rules force, given it
abbrev pub kept : Forces → (ℕ → Bool) → Bool
kept R D = below R.many (λ k. below (2 * R.width) (λ e. imp (R.force k D e) (D e)))

-- the least set of decisions that contains the partial and has all that the rules force, given it
abbrev pub closure : Forces → List ℕ → ℕ → Bool
closure R p e = all_sets (2 * R.width) (λ D. imp (subset (2 * R.width) (holds p) D && kept R D) (D e))

abbrev pub barred : Forces → (ℕ → Bool) → Bool
barred R D = not (below R.many (λ k. not (R.bar k D)))

-- a clash where a rule bars the closure, else the closure
abbrev pub outcome : Forces → List ℕ → Out
outcome R p = cond (barred R (closure R p)) clash (fits (tabulate R.width (byte_of (closure R p))))

-- THE SAME IN PROPOSITIONS
abbrev pub KeptAt : Forces → ℕ → (ℕ → Bool) → Type 0
KeptAt R k D = (e : ℕ) → e < 2 * R.width → R.force k D e ≡ true → D e ≡ true

abbrev pub Kept : Forces → (ℕ → Bool) → Type 0
Kept R D = (k : ℕ) → k < R.many → KeptAt R k D

abbrev pub Free : Forces → (ℕ → Bool) → Type 0
Free R D = (k : ℕ) → k < R.many → R.bar k D ≡ false

abbrev pub Barred : Forces → (ℕ → Bool) → Type 0
Barred R D = (k : ℕ) × (k < R.many) × (R.bar k D ≡ true)

pub record Least (R : Forces) (p : List ℕ) (C : ℕ → Bool) : Type 0 where
  pub within : Within (2 * R.width) C
  pub contains : (e : ℕ) → e < 2 * R.width → holds p e ≡ true → C e ≡ true
  pub keeps : Kept R C
  pub least : (D : ℕ → Bool) → Within (2 * R.width) D → ((e : ℕ) → e < 2 * R.width → holds p e ≡ true → D e ≡ true) → Kept R D → Sub C D

-- what rules must show
pub record Sound (R : Forces) : Type 0 where
  pub narrow : R.width ≤ 512
  -- more decisions force more and bar more
  pub more : (k : ℕ) (C D : ℕ → Bool) → Sub C D → Sub (R.force k C) (R.force k D)
  pub bars : (k : ℕ) (C D : ℕ → Bool) → Sub C D → R.bar k C ≡ true → R.bar k D ≡ true
  -- a set in which a forced decision meets its contrary is barred
  pub conflict : (k e : ℕ) (D : ℕ → Bool) → k < R.many → e < 2 * R.width → R.force k D e ≡ true → D e ≡ true → D (contrary e) ≡ true → Barred R D

-- what plans must show: they are the assignments that the rules keep and do not bar
pub record Based (R : Forces) (plan : List ℕ → Type 0) : Type 0 where
  pub shaped : (x : List ℕ) → plan x → Whole R.width x
  pub kept_by : (x : List ℕ) → plan x → Kept R (holds x)
  pub free : (x : List ℕ) → plan x → Free R (holds x)
  pub wholes : (x : List ℕ) → Whole R.width x → Kept R (holds x) → Free R (holds x) → plan x
