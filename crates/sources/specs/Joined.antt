-- Two sources joined: the statements of the first, then those of the second.
--   joined_width   how many statements a pair reports
--   Joining        the plans of a pair
--   Serving        a plan of a source that serves
--   BothServing    a plan of each source that serves its half
--   FoundBoth      such plans, joined
--   JoiningServes  a plan of a pair that serves
--   Posed          what a pair is asked that is not too wide
--   AskedBoth      plans of both that serve are found, or there are none
--   AskedJoining   a plan of a pair that serves is found, or there is none
use Rattle.std.specs.Prelude.{◌≡◌, ℕ, ◌+◌, ◌≤◌, cond, List, ◌++◌, length, take, drop, Option, MatchOption, nat_le}
use Rattle.source.specs.Plans.{UpTo, Of, Serves}

-- all statements of both; 513, which says too wide, where they are over 512
abbrev pub joined_width : ℕ → ℕ → ℕ
joined_width a b = cond (nat_le (a + b) 512) (a + b) 513

-- p is a plan of the first source and then one of the second; a pair that is too wide has no plans
abbrev pub Joining : ℕ → (List ℕ → Type 0) → ℕ → (List ℕ → Type 0) → List ℕ → Type 0
Joining a first b second p =
    (a + b ≤ 512) × ((q : List ℕ) × (r : List ℕ) × Of a first q × Of b second r × (p ≡ q ++ r))

-- p is a plan of a source of width w and serves
abbrev pub Serving : ℕ → (List ℕ → Type 0) → List ℕ → List ℕ → List ℕ → Type 0
Serving w plan pins group p = Of w plan p × Serves pins group p

-- q and r are plans of the two sources, and each serves its half of the pins and a group of its own
abbrev pub BothServing : ℕ → (List ℕ → Type 0) → ℕ → (List ℕ → Type 0) → (pins firstGroup secondGroup : List ℕ) → List ℕ → List ℕ → Type 0
BothServing a first b second pins firstGroup secondGroup q r =
    Serving a first (take a pins) firstGroup q × Serving b second (drop a pins) secondGroup r

-- p is a joining of such plans
abbrev pub FoundBoth : ℕ → (List ℕ → Type 0) → ℕ → (List ℕ → Type 0) → (pins firstGroup secondGroup : List ℕ) → List ℕ → Type 0
FoundBoth a first b second pins firstGroup secondGroup p =
    (q : List ℕ) × (r : List ℕ) × BothServing a first b second pins firstGroup secondGroup q r × (p ≡ q ++ r)

-- p is a plan of a pair and serves
abbrev pub JoiningServes : ℕ → (List ℕ → Type 0) → ℕ → (List ℕ → Type 0) → List ℕ → List ℕ → List ℕ → Type 0
JoiningServes a first b second pins group p = Joining a first b second p × Serves pins group p

-- pins and a group that no source of width w refuses
abbrev pub Posed : ℕ → List ℕ → List ℕ → Type 0
Posed w pins group = (length pins ≡ w) × (length group ≡ w) × UpTo 2 pins × UpTo 1 group × (w ≤ 512)

-- plans of both sources that serve their halves are found, joined in the first bytes, or there are none
abbrev pub AskedBoth : ℕ → (List ℕ → Type 0) → ℕ → (List ℕ → Type 0) → (pins firstGroup secondGroup : List ℕ) → Option (List ℕ) → Type 0
AskedBoth a first b second pins firstGroup secondGroup found =
    MatchOption found ((q r : List ℕ) → BothServing a first b second pins firstGroup secondGroup q r → ⊥) (λ p. FoundBoth a first b second pins firstGroup secondGroup (take (a + b) p))

-- a serving plan of a pair is found, in the first bytes, or there is none
abbrev pub AskedJoining : ℕ → (List ℕ → Type 0) → ℕ → (List ℕ → Type 0) → List ℕ → List ℕ → Option (List ℕ) → Type 0
AskedJoining a first b second pins group found =
    MatchOption found ((p : List ℕ) → JoiningServes a first b second pins group p → ⊥) (λ p. JoiningServes a first b second pins group (take (a + b) p))
