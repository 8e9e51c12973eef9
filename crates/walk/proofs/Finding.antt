-- From the tree's answer to that of a walk.
use Rattle.std.proofs.Common.{◌≡◌, ◌≢◌, ℕ, suc, ◌<◌, ◌≤◌, List, length, get_or, replicate, Ok, sym, refl, ap, ◌∙◌, subst, arith}
use Rattle.std.proofs.lemmas.List.{get_or-replicate, length-replicate}
use Rattle.source.specs.declared.Answer.{Answer}
use Rattle.source.specs.declared.Answer.TheVariants.{Plan, Nothing}
use Rattle.source.specs.Plans.{Partial, First}
use Rattle.base.specs.Laws.{Out, Lawful}
use Rattle.first.specs.Tree.{tree, Below, Finds}
use Rattle.first.proofs.Zeros.{unset_long}
use Rattle.first.proofs.Firsts.{first_found}
use Rattle.trail.specs.Walks.{Walk}
use Rattle.walk.specs.declared.memory.Trail.{Trail}
use Rattle.walk.specs.Turning.{Walks, Ran}
use Rattle.walk.specs.Finding.{FirstOf}

-- a walk starts with no choice that waits
pub start_walk : (w : ℕ) (t : Trail) (q : List ℕ) → w ≤ 512 → Partial w q → t.marks ≡ replicate 512 0 → length t.choices ≡ 512 → t.level ≡ 0 → Walks w t q
start_walk w t q hw p em lc ed =
    let zero_at : (k : ℕ) → k < w → get_or t.marks k 0 ≡ 0 = λ k h. ap (λ ms. get_or ms k 0) em ∙ get_or-replicate 512 k 0 0 (omega arith) in
    subst (λ d. Walk w d t.marks t.choices q) (sym ed) (record {
      marks_long = omega (arith, ap length em, length-replicate {A = ℕ} 512 0);
      choices_long = omega arith;
      marked = λ k h. (omega (arith, zero_at k h), λ _. zero_at k h);
      chosen = λ i h. let z : ⊥ = omega arith in absurd z;
      low = (p, omega (arith, unset_long q, p.0), tt);
    })

-- what a run found is the first plan below the pins, delivered if it is one
module _ (w : ℕ) (plan : List ℕ → Type 0) (o : List ℕ → Out) (laws : Lawful w plan o) (pins : List ℕ) (p : Partial w pins) (q : List ℕ) (copied : q ≡ pins) (bs before : List ℕ) where
  pub first_delivered : (a : Answer) (after : List ℕ) → a ≡ Plan → Ran w o q bs (Ok a) → after ≡ bs → FirstOf (Below plan pins) before a after
  first_delivered Plan after e ran d =
      subst (First (Below plan pins)) (sym d)
      (subst (Finds (Below plan pins)) (ap (tree o (suc w)) (sym copied) ∙ ran) (first_found w plan o laws pins p))
  first_delivered Nothing after e ran d = let z : ⊥ = cc in absurd z

  pub none_delivered : (a : Answer) → a ≢ Plan → Ran w o q bs (Ok a) → FirstOf (Below plan pins) before a before
  none_delivered Plan n ran = absurd (n refl)
  none_delivered Nothing n ran = (subst (Finds (Below plan pins)) (ap (tree o (suc w)) (sym copied) ∙ ran) (first_found w plan o laws pins p), refl)
