-- Settling by name.
use Rattle.std.proofs.Common.{◌≡◌, ℕ, Bool, true, false, cond, eqb, List, Ok, Err, codes, Decides, Result, sym, refl, ◌∙◌, subst, eq-eqb, eqb-true}
use borrow.Author.Tests.{both_ways}
use Rattle.std.specs.Str.{bytes_eq}
use Rattle.std.proofs.lemmas.Slice.Eq.{bytes_eq-Decides}
use Rattle.uses.specs.declared.SheetRefusal.{SheetRefusal}
use Rattle.uses.specs.declared.SheetRefusal.TheVariants.{Group, Name}
use Rattle.uses.specs.Step.{Technique, over, under, chunk}
use Rattle.table.specs.declared.table.Table.{Table}
use Rattle.checks.specs.Named.{limit_from, limit_of}
use Rattle.checks.specs.declared.technique.Technique.TheVariants.{Over, Under, Chunk}
use Rattle.table.specs.Lineup.{width_of}
use Rattle.checks.specs.View.{view}
use Rattle.table.proofs.Blanks.{tied}

-- what the limit of a technique says
pub data Limit (name : List ℕ) (size w : ℕ) : Result ℕ SheetRefusal → Type 0 where
  marked : {l : ℕ} → Technique name size w l → (name ≡ codes "chunk" → size ≡ 0 → ⊥) → Limit name size w (Ok l)
  zeroed : name ≡ codes "chunk" → size ≡ 0 → Limit name size w (Err Group)
  unknown : ((l : ℕ) → Technique name size w l → ⊥) → Limit name size w (Err Name)

no_method
    : (name : List ℕ) (size w l : ℕ) → (name ≡ codes "over" → ⊥) → (name ≡ codes "under" → ⊥) → (name ≡ codes "chunk" → ⊥) → Technique name size w l → ⊥
no_method _ size w l a b c over = a refl
no_method _ size w l a b c under = b refl
no_method _ size w l a b c chunk = c refl

not_chunk : (name other : List ℕ) → name ≡ other → bytes_eq other (codes "chunk") ≡ false → name ≡ codes "chunk" → ⊥
not_chunk name other e f h = both_ways (bytes_eq other (codes "chunk")) f ((bytes_eq-Decides other (codes "chunk")).1 (sym e ∙ h))

limit_cases
    : (name : List ℕ) (size w : ℕ) (a b c d : Bool)
    → Decides a (name ≡ codes "over") → Decides b (name ≡ codes "under") → Decides c (name ≡ codes "chunk") → eqb size 0 ≡ d
    → Limit name size w (limit_from (cond a (Ok Over) (cond b (Ok Under) (cond c (Ok Chunk) (Err Name)))) size w)
limit_cases name size w true b c d p q r s =
    let e = p.0 refl in marked (subst (λ n. Technique n size w w) (sym e) over) (λ h. absurd (not_chunk name (codes "over") e refl h))
limit_cases name size w false true c d p q r s =
    let e = q.0 refl in marked (subst (λ n. Technique n size w 1) (sym e) under) (λ h. absurd (not_chunk name (codes "under") e refl h))
limit_cases name size w false false true true p q r s =
    subst (λ b. Limit name size w (cond b (Err Group) (Ok size))) (sym s) (zeroed (r.0 refl) (eqb-true size 0 s))
limit_cases name size w false false true false p q r s =
    subst (λ b. Limit name size w (cond b (Err Group) (Ok size))) (sym s)
    (marked (subst (λ n. Technique n size w size) (sym (r.0 refl)) chunk) (λ h z. both_ways (eqb size 0) s (eq-eqb size 0 z)))
limit_cases name size w false false false d p q r s =
    unknown (λ l. no_method name size w l (λ h. both_ways false refl (p.1 h)) (λ h. both_ways false refl (q.1 h)) (λ h. both_ways false refl (r.1 h)))

pub limit_of_lem : (name : List ℕ) (size w : ℕ) (r : Result ℕ SheetRefusal) → r ≡ limit_of name size w → Limit name size w r
limit_of_lem name size w r e =
    subst (Limit name size w) (sym e)
    (limit_cases name size w (bytes_eq name (codes "over")) (bytes_eq name (codes "under")) (bytes_eq name (codes "chunk")) (eqb size 0)
    (bytes_eq-Decides name (codes "over")) (bytes_eq-Decides name (codes "under")) (bytes_eq-Decides name (codes "chunk")) refl)

-- the same over the width that the sheet was begun over
pub limit_tied
    : (w : ℕ) (t : Table) (name : List ℕ) (size : ℕ) (r : Result ℕ SheetRefusal) → (view w t).begun ≡ true → r ≡ limit_of name size (width_of t.over)
    → Limit name size w r
limit_tied w t name size r b e = subst (λ v. Limit name size v r) (tied t.over w b) (limit_of_lem name size (width_of t.over) r e)
