-- A question asked with parts of longer tables.
use Rattle.std.proofs.Common.{◌≡◌, ℕ, ◌<◌, ◌≤◌, Bool, true, false, List, ◌++◌, length, take, MatchBool, sym, subst, arith}
use Rattle.std.proofs.lemmas.List.{length-take, get_or-take, take_at}
use Rattle.source.specs.Plans.{UpTo, Serves}
use Rattle.source.specs.Asked.{Taken, Finds}
use Rattle.sheet.specs.Asks.{Unserved, Found, NotFound}

pub up_to_take : (n w : ℕ) (xs : List ℕ) → UpTo n xs → w ≤ length xs → UpTo n (take w xs)
up_to_take n w xs u h k l =
    let e : length (take w xs) ≡ w = simp length-take (omega arith) in
    let l' : k < w = omega arith in
    rw get_or-take (u k (omega arith))

pub length_cut : (w u : ℕ) (xs : List ℕ) → u ≡ w → w ≤ length xs → length (take u xs) ≡ w
length_cut w u xs e h = simp length-take (omega arith)

-- parts of longer tables are not refused
pub cut_taken
    : (w u : ℕ) (ps gs before : List ℕ) → u ≡ w → w ≤ length ps → w ≤ length gs → w ≤ length before → UpTo 2 ps → UpTo 1 gs → w ≤ 512
    → Taken w (take u ps) (take u gs) (take u before)
cut_taken w u ps gs before e a b c p g n = (
  (length_cut w u ps e a, length_cut w u gs e b, length_cut w u before e c),
  up_to_take 2 u ps p (omega arith),
  up_to_take 1 u gs g (omega arith),
  n,
)

-- the answer for parts of longer tables
pub found
    : (w u : ℕ) (plan : List ℕ → Type 0) → ((p : List ℕ) → plan p → length p ≡ w) → (ps gs before p rest : List ℕ) (r : Bool) → u ≡ w
    → Taken w (take u ps) (take u gs) before → Finds w plan (take u ps) (take u gs) before r p
    → MatchBool r (Found w plan ps gs (p ++ rest)) (NotFound w plan ps gs)
found w u plan long ps gs before p rest true e t h =
    subst (λ x. plan x × Serves (take w ps) (take w gs) x) (sym (take_at p rest w (long p h.1)))
    (h.1, subst (λ x. Serves (take x ps) (take x gs) p) e h.2)
found w u plan long ps gs before p rest false e t h = subst (λ x. Unserved plan (take x ps) (take x gs)) e (h.0 t)

-- where one is found
pub found_yes
    : (w u : ℕ) (plan : List ℕ → Type 0) → ((p : List ℕ) → plan p → length p ≡ w) → (ps gs before p rest : List ℕ) (r : Bool) → r ≡ true → u ≡ w
    → Taken w (take u ps) (take u gs) before → Finds w plan (take u ps) (take u gs) before r p
    → Found w plan ps gs (p ++ rest)
found_yes w u plan long ps gs before p rest r x e t h =
    subst (λ b. MatchBool b (Found w plan ps gs (p ++ rest)) (NotFound w plan ps gs)) x (found w u plan long ps gs before p rest r e t h)
