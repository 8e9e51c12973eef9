-- The plans of a base that meet a group, as a base over it.
--   MeetingPlan  a plan below that meets the group
--   CanFail      an undecided statement that can still fail
--   SomeCanFail  a marked statement that can still fail
--   MayMeet      the group is met, or a marked statement can still fail
--   may_meet     the same as a test
--   narrowed     the outcome: that below, and a clash also where the group can no longer be met
--   CutStands    a cut drops no plan that meets the group
use Rattle.std.specs.Prelude.{◌≡◌, ℕ, zero, suc, ◌<◌, Bool, true, false, cond, not, ◌&&◌, ◌||◌, ◌⊎◌, List, length, ◌==◌, ◌≢◌, nat_eq, slice_index, slice_set}
use Rattle.source.specs.Plans.{Partial, Agrees, Marks, FailsMarked, Meets}
use Rattle.base.specs.Laws.{Out, clash, fits}

-- a plan of the base below that meets the group
abbrev pub MeetingPlan : (List ℕ → Type 0) → List ℕ → List ℕ → Type 0
MeetingPlan plan group p = plan p × Meets group p

-- k is undecided in r, and the base below extends r with k failing
abbrev pub CanFail : (List ℕ → Out) → List ℕ → ℕ → Type 0
CanFail o r k = (slice_index r k ≡ 0) × (o (slice_set r k 2) ≢ clash)

-- a marked statement can still fail
abbrev pub SomeCanFail : (List ℕ → Out) → List ℕ → List ℕ → Type 0
SomeCanFail o group r = (k : ℕ) × (k < length r) × (slice_index group k ≡ 1) × CanFail o r k

-- where the group marks any statement, a marked one fails in r or can still fail
abbrev pub MayMeet : (List ℕ → Out) → List ℕ → List ℕ → Type 0
MayMeet o group r = Marks group → FailsMarked group r ⊎ SomeCanFail o group r

-- some number below n passes the test
abbrev pub some_below : ℕ → (ℕ → Bool) → Bool
some_below zero f = false
some_below (suc n) f = f n || some_below n f

-- the base extends
abbrev pub fitting : Out → Bool
fitting clash = false
fitting (fits r) = true

-- MayMeet as a test
abbrev pub may_meet : (List ℕ → Out) → List ℕ → List ℕ → Bool
may_meet o group r =
    not (some_below (length group) (λ k. nat_eq (slice_index group k) 1))
    || (some_below (length group) (λ k. (slice_index group k == 1) && slice_index r k == 2)
    || some_below (length r) (λ k. (slice_index group k == 1) && (slice_index r k == 0 && fitting (o (slice_set r k 2)))))

-- an outcome of the base below (o), but a clash also where the group can no longer be met
abbrev pub narrowed : (List ℕ → Out) → List ℕ → Out → Out
narrowed o group clash = clash
narrowed o group (fits r) = cond (may_meet o group r) (fits r) clash

-- a cut drops no plan that meets the group: where the narrowed base clashes, no such plan agrees with the partial
abbrev pub CutStands : ℕ → (List ℕ → Type 0) → (List ℕ → Out) → List ℕ → Type 0
CutStands w plan o group = (q : List ℕ) → Partial w q → narrowed o group (o q) ≡ clash → (p : List ℕ) → plan p → Agrees q p → Meets group p → ⊥
