-- The cases by computation.
use Rattle.std.proofs.Common.{◌≡◌, ℕ, ◌*◌, List, [], refl, arith}
use Rattle.base.specs.Settled.{picked, sure_from}
use Rattle.base.proofs.Settling.{settle}
use Rattle.base.proofs.Partials.{whole_long}
use Rattle.closing.specs.Sets.{holds}
use Rattle.closing.specs.Closures.{holds_within}
use Rattle.stable.specs.Books.{Book, BookPlan}
use Rattle.stable.specs.Decide.{is_plan_row}
use Rattle.stable.specs.Cases.{PlansAre, NoPlan}
use Rattle.stable.proofs.Plans.{plan_to, plan_from}

pub settled : (rb : Book) (pins : List ℕ) (rows : List (List ℕ)) (sure : List ℕ) → picked rb.width (is_plan_row rb) pins ≡ rows → sure_from 0 rb.width rows ≡ sure → PlansAre rb pins rows sure
settled rb = settle rb.width (λ p. BookPlan rb p) (is_plan_row rb)
    (λ p b. (b.whole, plan_from rb (λ s. holds p (2 * s)) b.plan))
    (λ p w t. record { whole = w; plan = plan_to rb (λ s. holds p (2 * s)) (λ s l. holds_within rb.width p (whole_long rb.width p w) (2 * s) (omega arith)) t })

pub no_plan : (rb : Book) → picked rb.width (is_plan_row rb) [] ≡ [] → NoPlan rb
no_plan rb e p b = ((settled rb [] [] _ e refl).plans p).0 b (λ k n. absurd (n refl))
