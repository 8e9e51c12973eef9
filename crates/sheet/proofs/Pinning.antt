-- What a pin does to the sheet.
use Rattle.std.proofs.Common.{◌≡◌, ℕ, ◌<◌, ◌≤◌, Bool, true, false, cond, eqb, ◌⊎◌, List, get_or, take, replicate, sym, refl, ap, ◌∙◌, subst, ⊎_elim, arith, ne_eqb}
use Rattle.std.proofs.lemmas.Bool.{cases_lt, cases_eq}
use Rattle.std.proofs.lemmas.List.{get_or-take}
use Rattle.source.specs.Plans.{UpTo, AgreesAt}
use Rattle.uses.specs.declared.Word.TheVariants.{Open, Certain, Loose}
use Rattle.uses.specs.Model.{word_number, pin, done}
use Rattle.uses.specs.Step.{pinned_at, after_pin, Effect, pins}
use Rattle.table.specs.declared.line.Line.{Line}
use Rattle.table.specs.declared.table.Table.{Table}
use Rattle.sheet.specs.Asks.{Found, NotFound}
use Rattle.table.specs.Blank.{line_at}
use Rattle.table.specs.Lineup.{width_of, begun_over, pinned_word, pinned_line}
use Rattle.checks.specs.View.{view}
use Rattle.sheet.proofs.Settling.{number_if, to_view, from_view, pin_inside}
use Rattle.std.specs.Bool.{then_some}
use Rattle.std.specs.Option.{unwrap_or}
use Rattle.table.proofs.Zeros.{zeros_meet}

numbers : (a b c : Bool) → word_number (cond a Certain (cond b Certain (cond c Loose Open))) ≡ cond a 1 (cond b 1 (cond c 2 0))
numbers true b c = refl
numbers false true c = refl
numbers false false true = refl
numbers false false false = refl

-- the pin of a line after a pin that was kept
pin_then : (b : Bool) (way old : ℕ) → unwrap_or (then_some b way) old ≡ cond b way old
pin_then true way old = refl
pin_then false way old = refl

holds_then : (b : Bool) (way : ℕ) → eqb (unwrap_or (then_some b way) 0) 1 ≡ cond b (eqb way 1) false
holds_then true way = refl
holds_then false way = refl

pub way_few : (way : ℕ) → (way ≡ 1) ⊎ (way ≡ 2) → way ≤ 2
way_few way h = ⊎_elim (λ (e : way ≡ 1). omega arith) (λ (e : way ≡ 2). omega arith) h

module _ (w : ℕ) (t : Table) (s way : ℕ) (wide : width_of t.over ≡ w) (inside : s < width_of t.over) where
  -- a statement with a pin after this one
  pinned_inside : (k : ℕ) → (pinned_at (view w t).pin s way k ≡ 0 → ⊥) → k < w
  pinned_inside k h =
      ⊎_elim
      (λ (e : k ≡ s). omega arith)
      (λ (ne : k ≡ s → ⊥). pin_inside w t wide k (λ z. h (ap (λ b. cond b way ((view w t).pin k)) (ne_eqb k s ne) ∙ z)))
      (cases_eq k s)

  pub pinned_few : (ps : List ℕ) → way ≤ 2 → ((k : ℕ) → get_or ps k 0 ≡ pinned_at (view w t).pin s way k) → UpTo 2 ps
  pinned_few ps l e k h = subst (λ x. x ≤ 2) (sym (e k)) (bound (eqb k s))
    where
      f : (view w t).pin k ≤ 2
      f = t.few k

      bound : (b : Bool) → cond b way ((view w t).pin k) ≤ 2
      bound true = l
      bound false = f

  module _ (plan : List ℕ → Type 0) (ps place : List ℕ) (n : ℕ) (same : (k : ℕ) → get_or ps k 0 ≡ pinned_at (view w t).pin s way k) where
    pub none_agrees
        : NotFound w plan ps (replicate n 0)
        → (p : List ℕ) → plan p → AgreesAt (pinned_at (view w t).pin s way) p → ⊥
    none_agrees f p q a = f p q (from_view w ps (pinned_at (view w t).pin s way) same pinned_inside p a, zeros_meet w n p)

    pub found_agrees : Found w plan ps (replicate n 0) place → AgreesAt (pinned_at (view w t).pin s way) (take w place)
    found_agrees f = to_view w ps (pinned_at (view w t).pin s way) same pinned_inside (take w place) f.1.0

    pub pin_effect
        : (u : Table) → Found w plan ps (replicate n 0) place → u.over ≡ t.over
        → ((k : ℕ) → line_at u.lines.rows k ≡ pinned_line (then_some (eqb k s) way) (line_at t.lines.rows k) (get_or place k 0))
        → Effect w plan (view w t) (pin s way) done (view w u)
    pin_effect u f e ls =
        pins (take w place) f.0 (found_agrees f)
        (ap (λ o. begun_over o w) e)
        (λ k. ap (λ (l : Line). l.candidate) (ls k))
        (λ k. ap (λ (l : Line). l.pin) (ls k) ∙ pin_then (eqb k s) way (line_at t.lines.rows k).pin)
        word
      where
        word
            : (k : ℕ) → word_number (line_at u.lines.rows k).word
            ≡ cond (line_at t.lines.rows k).candidate (after_pin s way k (word_number (line_at t.lines.rows k).word) (get_or (take w place) k 0)) (word_number (line_at t.lines.rows k).word)
        word k =
            ap (λ (l : Line). word_number l.word) (ls k)
            ∙ number_if (line_at t.lines.rows k).candidate (pinned_word (then_some (eqb k s) way) (line_at t.lines.rows k).word (get_or place k 0)) (line_at t.lines.rows k).word
            ∙ ap (λ x. cond (line_at t.lines.rows k).candidate x (word_number (line_at t.lines.rows k).word))
            (numbers (eqb (unwrap_or (then_some (eqb k s) way) 0) 1) (eqb (word_number (line_at t.lines.rows k).word) 1) (eqb (get_or place k 0) 2)
            ∙ ap (λ b. cond b 1 (cond (eqb (word_number (line_at t.lines.rows k).word) 1) 1 (cond (eqb (get_or place k 0) 2) 2 0))) (holds_then (eqb k s) way))
            ∙ ⊎_elim
            (λ (h : k < w).
            ap
            (λ x. cond (line_at t.lines.rows k).candidate (after_pin s way k (word_number (line_at t.lines.rows k).word) x) (word_number (line_at t.lines.rows k).word))
            (sym (get_or-take w place k 0 h)))
            (λ (h : w ≤ k). let z = t.unmarked k (omega arith) in rw z refl)
            (cases_lt k w)
