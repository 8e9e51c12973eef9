-- One step of the walk, from what its parts promise.
use Rattle.std.proofs.Common.{◌≡◌, ℕ, zero, suc, ◌<◌, ◌≤◌, List, [], ◌∷◌, length, get_or, set, Some, Ok, sym, refl, ap, ◌∙◌, subst, arith}
use Rattle.std.specs.declared.ops.ControlFlow.{ControlFlow}
use Rattle.std.specs.declared.ops.ControlFlow.TheVariants.{Continue, Break}
use Rattle.source.specs.declared.Answer.{Answer}
use Rattle.source.specs.declared.Answer.TheVariants.{Plan, Nothing}
use Rattle.source.specs.Plans.{Partial, Agrees}
use Rattle.base.specs.Laws.{Out, clash, fits, Lawful}
use Rattle.first.specs.Tree.{unset, lowest, with, Node, dead, leaf, split, seen, node_of}
use Rattle.first.specs.Agenda.{answers, left, turn_of, answer_after, left_after}
use Rattle.first.proofs.Zeros.{low_some}
use Rattle.first.proofs.Turns.{answer_turned, left_turned}
use Rattle.trail.specs.Walks.{keep_b, keep_m, note_m, waits, Walk}
use Rattle.trail.proofs.States.{extended, extended_waits, waits_length, split_waits, split_walk, back_waits, back_walk}
use Rattle.walk.specs.declared.memory.Trail.{Trail}
use Rattle.walk.specs.Turning.{Walks, waiting, Forks, Backs, Turns}

-- no more choices wait than there are statements
pub height : (w : ℕ) (t : Trail) (q : List ℕ) → Walks w t q → t.level ≤ w
height w t q x = omega (arith, x.low.1, waits_length t.level t.marks t.choices q)

-- with a statement undecided, one more may wait
pub room : (w : ℕ) (t : Trail) (q : List ℕ) → Walks w t q → lowest q < length q → t.level < w
room w t q x h = omega (arith, x.low.1, waits_length t.level t.marks t.choices q, low_some q h)

-- a fork as its writes make it
pub forked : (t : Trail) (r : List ℕ) → Walks (length r) t r → lowest r < length r
    → (s d : ℕ) (ms cs q : List ℕ) → s ≡ lowest r → d ≡ suc t.level
    → ms ≡ note_m d r t.marks → cs ≡ set t.choices t.level s → q ≡ set r s 2
    → Forks t r (record { marks = ms; choices = cs; level = d }) q
forked t r x h s d ms cs q es ed em ec eq =
    subst (λ y. Forks t r (record { marks = y; choices = cs; level = d }) q) (sym em)
    (subst (λ y. Forks t r (record { marks = note_m d r t.marks; choices = y; level = d }) q) (sym ec)
    (subst (λ y. Forks t r (record { marks = note_m d r t.marks; choices = set t.choices t.level s; level = d }) y) (sym eq)
    (subst (λ y. Forks t r (record { marks = note_m d r t.marks; choices = set t.choices t.level y; level = d }) (set r y 2)) (sym es)
    (subst (λ y. Forks t r (record { marks = note_m y r t.marks; choices = set t.choices t.level (lowest r); level = y }) (with r 2)) (sym ed)
    (go (unset r) refl)))))
  where
    go : (n : ℕ) → unset r ≡ n → Forks t r (record { marks = note_m (suc t.level) r t.marks; choices = set t.choices t.level (lowest r); level = suc t.level }) (with r 2)
    go zero z = let k : ⊥ = omega (arith, low_some r h) in absurd k
    go (suc m) z = (
      split_walk (length r) t.level t.marks t.choices r m z x,
      ap (λ y. with r 2 ∷ y) (split_waits (length r) t.level t.marks t.choices r m z x),
    )

-- a step back as its writes make it
pub backed : (t : Trail) (r : List ℕ) → Walks (length r) t r
    → (s d : ℕ) (ms q : List ℕ) → suc d ≡ t.level → s ≡ get_or t.choices d 0
    → ms ≡ keep_m d r t.marks → q ≡ set (keep_b d t.marks r) s 1
    → Backs t r (Continue tt) (record { marks = ms; choices = t.choices; level = d }) q
backed t r x s d ms q ed es em eq =
    subst (λ y. Backs t r (Continue tt) (record { marks = y; choices = t.choices; level = d }) q) (sym em)
    (subst (λ y. Backs t r (Continue tt) (record { marks = keep_m d r t.marks; choices = t.choices; level = d }) y) (sym eq)
    (subst (λ y. Backs t r (Continue tt) (record { marks = keep_m d r t.marks; choices = t.choices; level = d }) (set (keep_b d t.marks r) y 1)) (sym es)
    (subst (λ y. Walk (length r) y t.marks t.choices r
    → Walk (length r) d (keep_m d r t.marks) t.choices (set (keep_b d t.marks r) (get_or t.choices d 0) 1)
    × (waits y t.marks t.choices r ≡ set (keep_b d t.marks r) (get_or t.choices d 0) 1
    ∷ waits d (keep_m d r t.marks) t.choices (set (keep_b d t.marks r) (get_or t.choices d 0) 1))) ed
    (λ z. (
      back_walk (length r) d t.marks t.choices r z,
      ap (λ y. set (keep_b d t.marks r) (get_or t.choices d 0) 1 ∷ y) (back_waits (length r) d t.marks t.choices r z),
    )) x)))

-- with no choice that waits, none is left
pub none_waits : (t : Trail) (q : List ℕ) → t.level ≡ 0 → waiting t q ≡ []
none_waits t q e = ap (λ d. waits d t.marks t.choices q) e

-- an extension of q, the first of the agenda
module _ (w : ℕ) (plan : List ℕ → Type 0) (o : List ℕ → Out) (laws : Lawful w plan o) (t : Trail) (q : List ℕ) (x : Walks w t q) where
  answer_at : (n : Node) → node_of (o q) ≡ n → answers w o (q ∷ waiting t q) ≡ answer_after w o (turn_of n (waiting t q))
  answer_at n e = answer_turned w plan o laws q (waiting t q) x.low.0 ∙ ap (λ y. answer_after w o (turn_of y (waiting t q))) e

  left_at : (n : Node) → node_of (o q) ≡ n → left w o (q ∷ waiting t q) ≡ suc (left_after w o (turn_of n (waiting t q)))
  left_at n e = left_turned w plan o laws q (waiting t q) x.low.0 ∙ ap (λ y. suc (left_after w o (turn_of y (waiting t q)))) e

  long : length q ≡ w
  long = x.low.0.0

  clashed : (f : ControlFlow Answer Unit) (t' : Trail) (q' : List ℕ) → o q ≡ clash → Backs t q f t' q' → Turns w o (q ∷ waiting t q) t' q' (Ok f)
  clashed (Continue _) t' q' e b = (
    subst (λ n. Walks n t' q') long b.0,
    answer_at dead (ap node_of e) ∙ ap (answers w o) b.1,
    left_at dead (ap node_of e) ∙ ap (λ a. suc (left w o a)) b.1,
  )
  clashed (Break Nothing) t' q' e b = answer_at dead (ap node_of e) ∙ ap (answers w o) b
  clashed (Break Plan) t' q' e b = absurd b

  -- a clash leaves the partial, and then comes the step back
  pub step_back : (f : ControlFlow Answer Unit) (t' : Trail) (r q' : List ℕ) → o q ≡ clash → r ≡ q → Backs t r f t' q' → Turns w o (q ∷ waiting t q) t' q' (Ok f)
  step_back f t' r q' e same b = clashed f t' q' e (subst (λ y. Backs t y f t' q') same b)

  module _ (r : List ℕ) (e : o q ≡ fits r) where
    written : Partial w r
    written = laws.written q r x.low.0 e

    stays : Agrees q r
    stays = laws.stay q r x.low.0 e

    -- nothing is undecided
    pub step_leaf : unset r ≡ 0 → answers w o (q ∷ waiting t q) ≡ Some r
    step_leaf z = answer_at (leaf r) (ap node_of e ∙ ap (seen r) z)

    -- the walk goes on from the extended partial
    pub fork_walks : Walks (length r) t r
    fork_walks = subst (λ n. Walks n t r) (sym written.0) (extended w t.level t.marks t.choices q r written stays x)

    seen_split : (n : ℕ) → 0 < n → seen r n ≡ split r
    seen_split zero h = let z : ⊥ = omega arith in absurd z
    seen_split (suc n) h = refl

    pub step_fork : (t' : Trail) (q' : List ℕ) → lowest r < length r → Forks t r t' q' → Turns w o (q ∷ waiting t q) t' q' (Ok (Continue tt))
    step_fork t' q' h f =
        let n : node_of (o q) ≡ split r = ap node_of e ∙ seen_split (unset r) (low_some r h) in
        let a : with r 2 ∷ (with r 1 ∷ waiting t q) ≡ q' ∷ waiting t' q' =
        ap (λ y. with r 2 ∷ (with r 1 ∷ y)) (extended_waits w t.level t.marks t.choices q r written stays x) ∙ sym f.1 in (
          subst (λ m. Walks m t' q') written.0 f.0,
          answer_at (split r) n ∙ ap (answers w o) a,
          left_at (split r) n ∙ ap (λ y. suc (left w o y)) a,
        )
