-- What the check of a call finds before the source is asked: the first row that refuses it, with its cause, or all that the call wants.
use Rattle.std.specs.Prelude.{◌≡◌, ℕ, ◌<◌, ◌≤◌, Bool, true, false, ◌⊎◌, List, length, Ok, Err, MatchBool, Result, ◌==◌, ◌≢◌, slice_index}
use Rattle.source.specs.Plans.{UpTo, Marks}
use Rattle.uses.specs.declared.SheetRefusal.{SheetRefusal}
use Rattle.uses.specs.declared.SheetRefusal.TheVariants.{Length, Value, Mark, Wide, Unbegun, Begun, NoneOpen, Group, Statement, Pinned, Candidate}
use Rattle.uses.specs.declared.Word.{Word}
use Rattle.uses.specs.declared.Word.TheVariants.{Open, Certain, Loose}
use Rattle.uses.specs.Model.{number_of, is_open, counted}
use Rattle.table.specs.declared.line.Line.{Line}
use Rattle.table.specs.declared.table.Table.{Table}
use Rattle.uses.specs.declared.Tally.{Tally}
use Rattle.table.specs.Blank.{line_at}
use Rattle.table.specs.Lineup.{width_of}
use Rattle.uses.specs.declared.Way.{Way}
use Rattle.uses.specs.Way.{way_number}
use Rattle.checks.specs.Named.{limit_of}
use Rattle.checks.specs.View.{view}

-- e is the refusal f
abbrev pub is : SheetRefusal → SheetRefusal → Bool
is e f = number_of e == number_of f

-- the number of open candidates of the table
abbrev pub open_in : ℕ → Table → ℕ
open_in w t = counted (view w t) Open (width_of t.over)

-- every marked statement is an open candidate
abbrev pub AllOpen : ℕ → Table → List ℕ → Type 0
AllOpen w t g = (k : ℕ) → slice_index g k ≡ 1 → is_open (view w t) k ≡ true

-- some marked statement is none
abbrev pub NotOpen : ℕ → Table → List ℕ → Type 0
NotOpen w t g = (k : ℕ) × (slice_index g k ≡ 1) × (is_open (view w t) k ≡ false)

-- a begin with the candidates c
abbrev pub MayBegin : ℕ → Table → List ℕ → Result (Unit {0}) SheetRefusal → Type 0
MayBegin w t c (Ok _) = (length c ≡ w) × UpTo 1 c × (w ≤ 512) × ((view w t).begun ≡ false)
MayBegin w t c (Err e) =
    MatchBool (is e Length) (length c ≢ w)
    (MatchBool (is e Mark) ((length c ≡ w) × (UpTo 1 c → ⊥))
    (MatchBool (is e Wide) ((length c ≡ w) × UpTo 1 c × (512 < w))
    (MatchBool (is e Begun) ((length c ≡ w) × UpTo 1 c × (w ≤ 512) × ((view w t).begun ≡ true)) ⊥)))

-- a settling of the group g
abbrev pub MaySettle : ℕ → Table → List ℕ → Result (Unit {0}) SheetRefusal → Type 0
MaySettle w t g (Ok _) =
    (length g ≡ w) × UpTo 1 g × ((view w t).begun ≡ true) × (open_in w t ≢ 0) × Marks g × AllOpen w t g
MaySettle w t g (Err e) =
    MatchBool (is e Length) (length g ≢ w)
    (MatchBool (is e Mark) ((length g ≡ w) × (UpTo 1 g → ⊥))
    (MatchBool (is e Unbegun) ((length g ≡ w) × UpTo 1 g × ((view w t).begun ≡ false))
    (MatchBool (is e NoneOpen) ((length g ≡ w) × UpTo 1 g × ((view w t).begun ≡ true) × (open_in w t ≡ 0))
    (MatchBool (is e Group) ((length g ≡ w) × UpTo 1 g × ((view w t).begun ≡ true) × (open_in w t ≢ 0) × ((Marks g → ⊥) ⊎ NotOpen w t g)) ⊥))))

-- a settling by name: how many of the lowest open candidates it marks at most
abbrev pub MaySettleBy : ℕ → Table → List ℕ → ℕ → Result ℕ SheetRefusal → Type 0
MaySettleBy w t name size (Ok limit) =
    ((view w t).begun ≡ true) × (open_in w t ≢ 0) × (Ok limit ≡ limit_of name size (width_of t.over))
MaySettleBy w t name size (Err e) =
    MatchBool (is e Unbegun) ((view w t).begun ≡ false)
    (MatchBool (is e NoneOpen) (((view w t).begun ≡ true) × (open_in w t ≡ 0))
    (((view w t).begun ≡ true) × (open_in w t ≢ 0) × (Err e ≡ limit_of name size (width_of t.over))))

-- a byte is the way of a pin: 1 holds, 2 fails
abbrev pub IsWay : ℕ → Type 0
IsWay way = (way ≡ 1) ⊎ (way ≡ 2)

-- a pin, with its way
abbrev pub MayPin : ℕ → Table → ℕ → ℕ → Result Way SheetRefusal → Type 0
MayPin w t s way (Ok v) = (way_number v ≡ way) × ((view w t).begun ≡ true) × (s < width_of t.over) × ((line_at t.lines.rows s).pin ≡ 0)
MayPin w t s way (Err e) =
    MatchBool (is e Value) (IsWay way → ⊥)
    (MatchBool (is e Unbegun) (IsWay way × ((view w t).begun ≡ false))
    (MatchBool (is e Statement) (IsWay way × ((view w t).begun ≡ true) × (width_of t.over ≤ s))
    (MatchBool (is e Pinned) (IsWay way × ((view w t).begun ≡ true) × (s < width_of t.over) × ((line_at t.lines.rows s).pin ≢ 0)) ⊥)))

-- a tell, with its answer
abbrev pub MayTell : ℕ → Table → ℕ → Result Word SheetRefusal → Type 0
MayTell w t s (Ok v) =
    ((view w t).begun ≡ true) × (s < width_of t.over) × ((view w t).mark s ≡ true) × (v ≡ (line_at t.lines.rows s).word)
MayTell w t s (Err e) =
    MatchBool (is e Unbegun) ((view w t).begun ≡ false)
    (MatchBool (is e Statement) (((view w t).begun ≡ true) × (width_of t.over ≤ s))
    (MatchBool (is e Candidate) (((view w t).begun ≡ true) × (s < width_of t.over) × ((view w t).mark s ≡ false)) ⊥))

-- a tally, with its answer
abbrev pub MayTally : ℕ → Table → Result Tally SheetRefusal → Type 0
MayTally w t (Ok n) =
    ((view w t).begun ≡ true)
    × (n.open ≡ counted (view w t) Open (width_of t.over)) × (n.certain ≡ counted (view w t) Certain (width_of t.over)) × (n.loose ≡ counted (view w t) Loose (width_of t.over))
MayTally w t (Err e) = MatchBool (is e Unbegun) ((view w t).begun ≡ false) ⊥

-- the bytes b have a mark or none for each of w statements
abbrev pub IsMarks : ℕ → List ℕ → Result (Unit {0}) SheetRefusal → Type 0
IsMarks w b (Ok _) = (length b ≡ w) × UpTo 1 b
IsMarks w b (Err e) =
    MatchBool (is e Length) (length b ≢ w)
    (MatchBool (is e Mark) ((length b ≡ w) × (UpTo 1 b → ⊥)) ⊥)

-- the line of the statement s in a begun table
abbrev pub HasLine : ℕ → Table → ℕ → Result Line SheetRefusal → Type 0
HasLine w t s (Ok l) = ((view w t).begun ≡ true) × (s < width_of t.over) × (l ≡ line_at t.lines.rows s)
HasLine w t s (Err e) =
    MatchBool (is e Unbegun) ((view w t).begun ≡ false)
    (MatchBool (is e Statement) (((view w t).begun ≡ true) × (width_of t.over ≤ s)) ⊥)
