-- An agenda as a walk keeps it: one partial, a mark for each statement, and the choices that wait.
-- A mark says how many choices waited when the statement was decided, or how many wait now if it is undecided.
-- There may be more marks and choices than statements; those past the width are not looked at.
--   keep_b, keep_m  what stands of the bytes and the marks after a step back
--   note_m          the marks after a choice
--   waits           the partials that wait
--   Marked          a statement with its mark
--   Walk            bytes, marks and choices that keep such an agenda
use Rattle.std.specs.Prelude.{◌≡◌, ℕ, zero, suc, ◌<◌, ◌≤◌, cond, List, [], ◌∷◌, length, min, nat_lt, slice_index, slice_set}
use Rattle.first.specs.Agenda.{Low}

-- the bytes whose mark is at most d; 0 elsewhere
abbrev pub keep_b : ℕ → List ℕ → List ℕ → List ℕ
keep_b d ms [] = []
keep_b d [] (b ∷ bs) = []
keep_b d (m ∷ ms) (b ∷ bs) = cond (nat_lt d m) 0 b ∷ keep_b d ms bs

-- the marks, none over d
abbrev pub keep_m : ℕ → List ℕ → List ℕ → List ℕ
keep_m d bs [] = []
keep_m d [] (m ∷ ms) = m ∷ ms
keep_m d (b ∷ bs) (m ∷ ms) = min m d ∷ keep_m d bs ms

-- d for an undecided statement, and a decided one keeps its mark
abbrev pub note_one : ℕ → ℕ → ℕ → ℕ
note_one d zero m = d
note_one d (suc b) m = m

abbrev pub note_m : ℕ → List ℕ → List ℕ → List ℕ
note_m d bs [] = []
note_m d [] (m ∷ ms) = m ∷ ms
note_m d (b ∷ bs) (m ∷ ms) = note_one d b m ∷ note_m d bs ms

-- the partials that wait: each choice made for "fails", taken back, and made for "holds"
abbrev pub waits : ℕ → List ℕ → List ℕ → List ℕ → List (List ℕ)
waits zero ms cs bs = []
waits (suc d) ms cs bs = slice_set (keep_b d ms bs) (slice_index cs d) 1 ∷ waits d ms cs bs

-- a mark is at most d, and just d for an undecided statement
abbrev pub Marked : ℕ → ℕ → ℕ → Type 0
Marked d m b = (m ≤ d) × (b ≡ 0 → m ≡ d)

-- the bytes are the next partial, and d choices wait below them
pub record Walk (w d : ℕ) (ms cs bs : List ℕ) : Type 0 where
  pub marks_long : w ≤ length ms
  pub choices_long : w ≤ length cs
  pub marked : (k : ℕ) → k < w → Marked d (slice_index ms k) (slice_index bs k)
  -- each choice that waits was marked when it was made, and stands
  pub chosen : (i : ℕ) → i < d → (slice_index cs i < w) × (slice_index ms (slice_index cs i) ≡ suc i) × (0 < slice_index bs (slice_index cs i))
  -- the next partial and those that wait
  pub low : Low w (bs ∷ waits d ms cs bs)
