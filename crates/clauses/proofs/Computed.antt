-- The cases by computation.
use Rattle.std.proofs.Common.{◌≡◌, ℕ, not, List, [], length, refl}
use Rattle.base.specs.Settled.{picked, sure_from}
use Rattle.base.proofs.Settling.{settle}
use Rattle.closing.specs.Sets.{holds, every, some_to, some_from, below_to, below_from}
use Rattle.clauses.specs.declared.run.Run.{Run}
use Rattle.clauses.specs.Clauses.{clause_at, ClausePlan}
use Rattle.clauses.specs.Cases.{is_plan, PlansAre, NoPlan}

module _ (w : ℕ) (rs : List Run) (es : List ℕ) where
  pub settled : (pins : List ℕ) (rows : List (List ℕ)) (sure : List ℕ) → picked w (is_plan rs es) pins ≡ rows → sure_from 0 w rows ≡ sure → PlansAre w rs es pins rows sure
  settled = settle w (λ p. ClausePlan w rs es p) (is_plan rs es)
      (λ p c. (c.whole, below_from (length rs) _ (λ k l. let x = c.each k l in some_from (holds p) (clause_at rs es k) x.0 x.1 x.2)))
      (λ p v t. record { whole = v; each = λ k l. some_to (holds p) (clause_at rs es k) (below_to (length rs) (λ j. not (every (λ e. not (holds p e)) (clause_at rs es j))) t k l) })

  pub no_plan : picked w (is_plan rs es) [] ≡ [] → NoPlan w rs es
  no_plan e p c = ((settled [] [] _ e refl).plans p).0 c (λ k n. absurd (n refl))
