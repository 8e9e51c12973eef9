-- What begin does to the sheet.
use Rattle.std.proofs.Common.{◌≡◌, ℕ, ◌<◌, ◌≤◌, Bool, true, false, cond, eqb, List, Some, length, get_or, take, sym, refl, ap, ◌∙◌, ⊎_elim, arith, eq-eqb}
use Rattle.std.proofs.lemmas.Bool.{cases_lt}
use Rattle.std.proofs.lemmas.List.{get_or_past, get_or-take}
use Rattle.table.specs.declared.line.Line.{Line}
use Rattle.uses.specs.declared.Word.TheVariants.{Open, Loose}
use Rattle.table.specs.declared.table.Table.{Table}
use Rattle.uses.specs.Model.{State, word_number, begin, done}
use Rattle.uses.specs.Step.{Effect, begins}
use Rattle.checks.specs.View.{view}
use Rattle.table.specs.Blank.{line_at}
use Rattle.table.specs.Lineup.{begun_over, begun_line}

word_number_lem : (b d : Bool) → word_number (cond b (cond d Loose Open) Open) ≡ cond b (cond d 2 0) 0
word_number_lem true true = refl
word_number_lem true false = refl
word_number_lem false d = refl

-- what begin does to the sheet
module _ (w : ℕ) (plan : List ℕ → Type 0) (cs marks place : List ℕ) (fits : length cs ≡ w) (same : (k : ℕ) → get_or marks k 0 ≡ get_or cs k 0) (m : State) (t : Table) where
  pub begin_effect
      : plan (take w place) → t.over ≡ Some w → ((k : ℕ) → line_at t.lines.rows k ≡ begun_line (get_or marks k 0) (get_or place k 0))
      → Effect w plan m (begin cs) done (view w t)
  begin_effect q e f =
      begins (take w place) q
      (ap (λ o. begun_over o w) e ∙ eq-eqb w w refl)
      (λ k. ap (λ (l : Line). l.candidate) (g k))
      (λ k. ap (λ (l : Line). l.pin) (g k))
      word
    where
      g : (k : ℕ) → line_at t.lines.rows k ≡ begun_line (get_or cs k 0) (get_or place k 0)
      g k = f k ∙ ap (λ x. begun_line x (get_or place k 0)) (same k)

      word : (k : ℕ) → word_number (line_at t.lines.rows k).word ≡ cond (eqb (get_or cs k 0) 1) (cond (eqb (get_or (take w place) k 0) 2) 2 0) 0
      word k =
          ap (λ (l : Line). word_number l.word) (g k)
          ∙ word_number_lem (eqb (get_or cs k 0) 1) (eqb (get_or place k 0) 2)
          ∙ ⊎_elim
          (λ (h : k < w). ap (λ x. cond (eqb (get_or cs k 0) 1) (cond (eqb x 2) 2 0) 0) (sym (get_or-take w place k 0 h)))
          (λ (h : w ≤ k). let z : get_or cs k 0 ≡ 0 = get_or_past cs k 0 (omega arith) in rw z refl)
          (cases_lt k w)
