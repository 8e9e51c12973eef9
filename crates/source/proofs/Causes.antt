-- The causes of refusals exclude one another, and a question that is taken has none.
use Rattle.std.proofs.Common.{◌≡◌, ℕ, List, Ok, Err, Result, refl, ap, arith}
use Rattle.source.specs.Asked.{Refused, Taken, Checked}
use Rattle.source.specs.declared.Refusal.{Refusal}
use Rattle.source.specs.declared.Refusal.TheVariants.{Length, Value, Mark, Wide}

-- a question has one cause at most
pub one_cause : (w : ℕ) (pins group place : List ℕ) (e f : Refusal) → Refused w pins group place e → Refused w pins group place f → e ≡ f
one_cause w pins group place Length Length a b = refl
one_cause w pins group place Length Value a b = absurd (a b.0)
one_cause w pins group place Length Mark a b = absurd (a b.0)
one_cause w pins group place Length Wide a b = absurd (a b.0)
one_cause w pins group place Value Length a b = absurd (b a.0)
one_cause w pins group place Value Value a b = refl
one_cause w pins group place Value Mark a b = absurd (a.1 b.1)
one_cause w pins group place Value Wide a b = absurd (a.1 b.1)
one_cause w pins group place Mark Length a b = absurd (b a.0)
one_cause w pins group place Mark Value a b = absurd (b.1 a.1)
one_cause w pins group place Mark Mark a b = refl
one_cause w pins group place Mark Wide a b = absurd (a.2 b.2)
one_cause w pins group place Wide Length a b = absurd (b a.0)
one_cause w pins group place Wide Value a b = absurd (b.1 a.1)
one_cause w pins group place Wide Mark a b = absurd (b.2 a.2)
one_cause w pins group place Wide Wide a b = refl

-- a question that is taken has none
pub no_cause : (w : ℕ) (pins group place : List ℕ) (e : Refusal) → Taken w pins group place → Refused w pins group place e → ⊥
no_cause w pins group place Length t b = b t.0
no_cause w pins group place Value t b = b.1 t.1
no_cause w pins group place Mark t b = b.2 t.2
no_cause w pins group place Wide t b = omega (arith, t.3, b.3)

-- so the cause found is the only one
pub cause_only : (w : ℕ) (pins group place : List ℕ) (r : Result Unit Refusal) → Checked w pins group place r → (e : Refusal) → Refused w pins group place e → r ≡ Err e
cause_only w pins group place (Err f) h e b = ap Err (one_cause w pins group place f e h b)
cause_only w pins group place (Ok _) h e b = absurd (no_cause w pins group place e h b)

-- and none is found only where there is none
pub cause_none : (w : ℕ) (pins group place : List ℕ) (r : Result Unit Refusal) → Checked w pins group place r → Taken w pins group place → r ≡ Ok tt
cause_none w pins group place (Err f) h t = absurd (no_cause w pins group place f t h)
cause_none w pins group place (Ok tt) h t = refl
