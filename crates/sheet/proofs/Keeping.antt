-- The law, as the calls over the code's table promise it.
use Rattle.std.proofs.Common.{◌≡◌, ℕ, List, subst}
use Rattle.source.specs.Plans.{Of}
use Rattle.uses.specs.Model.{Fresh, Call, Reply}
use Rattle.uses.proofs.Law
use Rattle.table.specs.declared.table.Table.{Table}
use Rattle.checks.specs.View.{view}
use Rattle.sheet.specs.View.{Steps, LawStarts, LawContinues}

pub law_starts : (w : ℕ) (plan : List ℕ → Type 0) (t : Table) → Fresh (view w t) → LawStarts w plan t
unfolding LawStarts
law_starts w plan t f = Law.starts w (Of w plan) (λ p q. q.1) (view w t) f

pub law_continues : (w : ℕ) (plan : List ℕ → Type 0) (t u : Table) (c : Call) (r : Reply) → Steps w plan t c r u → LawContinues w plan t c r u
unfolding Steps LawContinues
law_continues w plan t u c r s = Law.continues w (Of w plan) (λ p q. q.1) s

-- what a check said of the table and the width that it was given
pub checked : (P : ℕ → Table → Type 0) (v w : ℕ) (u t : Table) → v ≡ w → u ≡ t → P v u → P w t
checked P v w u t e f p = subst (P w) f (subst (λ x. P x u) e p)
