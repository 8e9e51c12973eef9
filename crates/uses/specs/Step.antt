-- What each call does to a sheet over a source of width w with the plans `plan`.
use Rattle.std.specs.Prelude.{◌≡◌, ℕ, ◌+◌, ◌<◌, ◌≤◌, Bool, true, false, cond, List, length, codes, ◌==◌, ◌≢◌, nat_eq, slice_index}
use Rattle.source.specs.Plans.{UpTo, AgreesAt}
use Rattle.uses.specs.declared.SheetRefusal.{SheetRefusal}
use Rattle.uses.specs.declared.SheetRefusal.TheVariants.{Length, Value, Mark, Wide, Unbegun, Begun, NoneOpen, Group, Name, Statement, Pinned, NoPlan, Candidate}
use Rattle.uses.specs.declared.Word.TheVariants.{Open, Certain, Loose}
use Rattle.uses.specs.Model.{number_of, word_number, State, is_open, counted, lowest, Call, Reply, begin, settle, settle_by, pin, tell, tally, refused, done, settled, told, tallied}

-- the pins with one more, at the statement s
abbrev pub pinned_at : (ℕ → ℕ) → ℕ → ℕ → ℕ → ℕ
pinned_at pins s way k = cond (k == s) way (pins k)

-- the word of a statement by its byte in a plan: loose if it fails there, else open
abbrev pub word_by : ℕ → ℕ
word_by b = cond (b == 2) (word_number Loose) (word_number Open)

-- the word of the candidate k after s is pinned, where it was v and the byte of k in the plan found is b
abbrev pub after_pin : ℕ → ℕ → ℕ → ℕ → ℕ → ℕ
after_pin s way k v b =
    cond (cond (k == s) (way == 1) false) (word_number Certain) (cond (v == word_number Certain) (word_number Certain) (word_by b))

-- a technique by its name, its size, the width, and how many of the lowest open candidates it marks at most
pub data Technique : List ℕ → ℕ → ℕ → ℕ → Type 0 where
  over : {w size : ℕ} → Technique (codes "over") size w w
  under : {w size : ℕ} → Technique (codes "under") size w 1
  chunk : {w size : ℕ} → Technique (codes "chunk") size w size

module _ (w : ℕ) (plan : List ℕ → Type 0) (m : State) where
  -- the causes for which a call is refused
  pub data Cause : Call → SheetRefusal → Type 0 where
    begin_length : {c : List ℕ} → (length c ≢ w) → Cause (begin c) Length
    begin_mark : {c : List ℕ} → (UpTo 1 c → ⊥) → Cause (begin c) Mark
    begin_wide : {c : List ℕ} → 512 < w → Cause (begin c) Wide
    begin_begun : {c : List ℕ} → m.begun ≡ true → Cause (begin c) Begun
    begin_none : {c : List ℕ} → ((p : List ℕ) → plan p → ⊥) → Cause (begin c) NoPlan
    settle_length : {g : List ℕ} → (length g ≢ w) → Cause (settle g) Length
    settle_mark : {g : List ℕ} → (UpTo 1 g → ⊥) → Cause (settle g) Mark
    settle_unbegun : {g : List ℕ} → m.begun ≡ false → Cause (settle g) Unbegun
    settle_closed : {g : List ℕ} → ((k : ℕ) → is_open m k ≢ true) → Cause (settle g) NoneOpen
    settle_empty : {g : List ℕ} → ((k : ℕ) → slice_index g k ≢ 1) → Cause (settle g) Group
    settle_other : {g : List ℕ} (k : ℕ) → slice_index g k ≡ 1 → is_open m k ≡ false → Cause (settle g) Group
    by_unbegun : {n : List ℕ} {size : ℕ} → m.begun ≡ false → Cause (settle_by n size) Unbegun
    by_closed : {n : List ℕ} {size : ℕ} → ((k : ℕ) → is_open m k ≢ true) → Cause (settle_by n size) NoneOpen
    by_zero : {n : List ℕ} {size : ℕ} → n ≡ codes "chunk" → size ≡ 0 → Cause (settle_by n size) Group
    by_unknown : {n : List ℕ} {size : ℕ} → ((limit : ℕ) → Technique n size w limit → ⊥) → Cause (settle_by n size) Name
    pin_way : {s way : ℕ} → (way ≢ 1) → (way ≢ 2) → Cause (pin s way) Value
    pin_unbegun : {s way : ℕ} → m.begun ≡ false → Cause (pin s way) Unbegun
    pin_outside : {s way : ℕ} → w ≤ s → Cause (pin s way) Statement
    pin_again : {s way : ℕ} → (m.pin s ≢ 0) → Cause (pin s way) Pinned
    pin_none : {s way : ℕ} → ((p : List ℕ) → plan p → AgreesAt (pinned_at m.pin s way) p → ⊥) → Cause (pin s way) NoPlan
    tell_unbegun : {s : ℕ} → m.begun ≡ false → Cause (tell s) Unbegun
    tell_outside : {s : ℕ} → w ≤ s → Cause (tell s) Statement
    tell_other : {s : ℕ} → m.mark s ≡ false → Cause (tell s) Candidate
    tally_unbegun : m.begun ≡ false → Cause tally Unbegun

  -- the call is refused for e: its cause is there, and none of a lower number
  pub record Sent (c : Call) (e : SheetRefusal) : Type 0 where
    pub cause : Cause c e
    pub first : (f : SheetRefusal) → number_of f < number_of e → Cause c f → ⊥

  -- the words of n are those of m after the group g, a set of statements, was settled
  pub data Settles (g : ℕ → Bool) (n : State) : Type 0 where
    -- no plan that agrees with the pins fails at a marked one: all marked become certain
    none
        : ((p : List ℕ) → plan p → AgreesAt m.pin p → (k : ℕ) → g k ≡ true → slice_index p k ≢ 2)
        → ((k : ℕ) → n.word k ≡ cond (g k) (word_number Certain) (m.word k))
        → Settles g n
    -- p is one that does: every open candidate that fails in it becomes loose
    some
        : (p : List ℕ) → plan p → AgreesAt m.pin p
        → (k : ℕ) → g k ≡ true → slice_index p k ≡ 2
        → ((k : ℕ) → n.word k ≡ cond (is_open m k) (cond (slice_index p k == 2) (word_number Loose) (m.word k)) (m.word k))
        → Settles g n

  -- all but the words of n is as in m
  pub record Rest (n : State) : Type 0 where
    pub begun : n.begun ≡ m.begun
    pub mark : (k : ℕ) → n.mark k ≡ m.mark k
    pub pin : (k : ℕ) → n.pin k ≡ m.pin k

  -- what a call that is not refused answers, and the sheet n that it leaves
  pub data Effect : Call → Reply → State → Type 0 where
    begins
        : {c : List ℕ} {n : State} (p : List ℕ) → plan p
        → n.begun ≡ true
        → ((k : ℕ) → n.mark k ≡ (slice_index c k == 1))
        → ((k : ℕ) → n.pin k ≡ 0)
        → ((k : ℕ) → n.word k ≡ cond (slice_index c k == 1) (word_by (slice_index p k)) (word_number Open))
        → Effect (begin c) done n
    settles
        : {g : List ℕ} {n : State} {t : ℕ}
        → Settles (λ k. nat_eq (slice_index g k) 1) n → Rest n
        → t + counted n Open w ≡ counted m Open w
        → Effect (settle g) (settled t) n
    settles_by
        : {name : List ℕ} {size : ℕ} {n : State} {t : ℕ} (limit : ℕ)
        → Technique name size w limit
        → Settles (lowest m limit) n → Rest n
        → t + counted n Open w ≡ counted m Open w
        → Effect (settle_by name size) (settled t) n
    pins
        : {s way : ℕ} {n : State} (p : List ℕ) → plan p → AgreesAt (pinned_at m.pin s way) p
        → n.begun ≡ m.begun
        → ((k : ℕ) → n.mark k ≡ m.mark k)
        → ((k : ℕ) → n.pin k ≡ pinned_at m.pin s way k)
        → ((k : ℕ) → n.word k ≡ cond (m.mark k) (after_pin s way k (m.word k) (slice_index p k)) (m.word k))
        → Effect (pin s way) done n
    tells : {s : ℕ} → Effect (tell s) (told (m.word s)) m
    tallies : Effect tally (tallied (counted m Open w) (counted m Certain w) (counted m Loose w)) m

  -- a call from the sheet m, its answer, and the sheet that it leaves: a refused call leaves all as it was
  pub data Step : Call → Reply → State → Type 0 where
    sent : {c : Call} {e : SheetRefusal} → Sent c e → Step c (refused e) m
    taken : {c : Call} {r : Reply} {n : State} → ((e : SheetRefusal) → Cause c e → ⊥) → Effect c r n → Step c r n
