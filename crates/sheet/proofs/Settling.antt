-- What a settling does to the sheet.
use Rattle.std.proofs.Common.{◌≡◌, ℕ, ◌+◌, ◌-◌, ◌<◌, ◌≤◌, Bool, true, false, cond, eqb, List, length, get_or, take, Option, Some, None, MatchOption, sym, refl, ap, ◌∙◌, subst, ⊎_elim, arith, eq-eqb, eqb-true}
use Rattle.std.proofs.lemmas.Bool.{cases_lt}
use Rattle.std.proofs.lemmas.List.{get_or_past, get_or-take, length-take}
use Rattle.source.specs.Plans.{UpTo, Whole, AgreesAt}
use Rattle.table.specs.declared.line.Line.{Line}
use Rattle.uses.specs.declared.Word.{Word}
use Rattle.uses.specs.declared.Word.TheVariants.{Open, Certain, Loose}
use Rattle.table.specs.declared.table.Table.{Table}
use Rattle.sheet.specs.Asks.{Found, NotFound}
use Rattle.table.specs.Blank.{line_at}
use Rattle.table.specs.Lineup.{width_of, begun_over, byte_in, settled_line}
use Rattle.uses.specs.Model.{State, is_open, counted, word_number}
use Rattle.uses.specs.Step.{Settles, Rest, none, some}
use Rattle.checks.specs.View.{view}
use Rattle.uses.proofs.Law
use Rattle.table.proofs.Blanks.{tied}

take_past : (w : ℕ) (xs : List ℕ) (k : ℕ) → w ≤ k → get_or (take w xs) k 0 ≡ 0
take_past w xs k h = get_or_past (take w xs) k 0 (simp length-take (omega arith))

-- the word of a line, by a test
pub number_if : (b : Bool) (x y : Word) → word_number (cond b x y) ≡ cond b (word_number x) (word_number y)
number_if true x y = refl
number_if false x y = refl

-- the pins as a question has them, and as a function from statements
module _ (w : ℕ) (pins : List ℕ) (f : ℕ → ℕ) (ps : (k : ℕ) → get_or pins k 0 ≡ f k) (within : (k : ℕ) → (f k ≡ 0 → ⊥) → k < w) where
  cut_pin : (k : ℕ) → k < w → get_or (take w pins) k 0 ≡ f k
  cut_pin k h = get_or-take w pins k 0 h ∙ ps k

  pub to_view : (p : List ℕ) → AgreesAt (λ k. get_or (take w pins) k 0) p → AgreesAt f p
  to_view p a k h =
      let l = within k h in
      a k (λ e. h (sym (cut_pin k l) ∙ e)) ∙ cut_pin k l

  pub from_view : (p : List ℕ) → AgreesAt f p → AgreesAt (λ k. get_or (take w pins) k 0) p
  from_view p a k h =
      ⊎_elim
      (λ (l : k < w). a k (λ e. h (cut_pin k l ∙ e)) ∙ sym (cut_pin k l))
      (λ (l : w ≤ k). absurd (h (take_past w pins k l)))
      (cases_lt k w)

-- a pinned statement is one of the source's
pub pin_inside : (w : ℕ) (t : Table) → width_of t.over ≡ w → (k : ℕ) → ((line_at t.lines.rows k).pin ≡ 0 → ⊥) → k < w
pin_inside w t e k h = ⊎_elim (λ (x : k < w). x) (λ (x : w ≤ k). absurd (h (t.unpinned k (omega arith)))) (cases_lt k w)

module _ (w : ℕ) (plan : List ℕ → Type 0) (whole : (p : List ℕ) → plan p → Whole w p) (t u : Table) (pins marks : List ℕ)
    (wide : width_of t.over ≡ w)
    (ps : (k : ℕ) → get_or pins k 0 ≡ (line_at t.lines.rows k).pin) where
  mark_inside : (k : ℕ) → get_or (take w marks) k 0 ≡ 1 → k < w
  mark_inside k h =
      ⊎_elim (λ (x : k < w). x) (λ (x : w ≤ k). let z = take_past w marks k x in absurd (omega arith)) (cases_lt k w)

  closed_outside : (k : ℕ) → w ≤ k → is_open (view w t) k ≡ false
  closed_outside k h = ap (λ b. cond b (eqb (word_number (line_at t.lines.rows k).word) 0) false) (t.unmarked k (omega arith))

  pub settles_from
      : (found : Option (List ℕ)) → MatchOption found (NotFound w plan pins marks) (Found w plan pins marks)
      → ((k : ℕ) × (get_or marks k 0 ≡ 1) × (k < w))
      → ((k : ℕ) → line_at u.lines.rows k ≡ settled_line (byte_in found k) (line_at t.lines.rows k) (get_or marks k 0))
      → Settles w plan (view w t) (λ k. eqb (get_or marks k 0) 1) (view w u)
  settles_from (Some place) (q, (a, m)) s ls =
      some (take w place) q (to_view w pins (view w t).pin ps (pin_inside w t wide) (take w place) a) j.0
      (eq-eqb (get_or marks j.0 0) 1 (sym (get_or-take w marks j.0 0 in') ∙ j.1)) j.2 word
    where
      j : (k : ℕ) × (get_or (take w marks) k 0 ≡ 1) × (get_or (take w place) k 0 ≡ 2)
      j = m (s.0, get_or-take w marks s.0 0 s.2 ∙ s.1)

      in' : j.0 < w
      in' = mark_inside j.0 j.1

      word
          : (k : ℕ) → word_number (line_at u.lines.rows k).word
          ≡ cond (is_open (view w t) k) (cond (eqb (get_or (take w place) k 0) 2) 2 (word_number (line_at t.lines.rows k).word)) (word_number (line_at t.lines.rows k).word)
      word k =
          ap (λ (l : Line). word_number l.word) (ls k)
          ∙ number_if (is_open (view w t) k) (cond (eqb (get_or place k 0) 2) Loose (line_at t.lines.rows k).word) (line_at t.lines.rows k).word
          ∙ ap (λ x. cond (is_open (view w t) k) x (word_number (line_at t.lines.rows k).word)) (number_if (eqb (get_or place k 0) 2) Loose (line_at t.lines.rows k).word)
          ∙ ⊎_elim
          (λ (h : k < w).
          ap
          (λ x. cond (is_open (view w t) k) (cond (eqb x 2) 2 (word_number (line_at t.lines.rows k).word)) (word_number (line_at t.lines.rows k).word))
          (sym (get_or-take w place k 0 h)))
          (λ (h : w ≤ k). rw (closed_outside k h) refl)
          (cases_lt k w)
  settles_from None f s ls =
      none
      (λ p q a k g e.
      f p q (
        from_view w pins (view w t).pin ps (pin_inside w t wide) p a,
        λ x. (k, get_or-take w marks k 0 (inside p q k e) ∙ eqb-true (get_or marks k 0) 1 g, e),
      ))
      (λ k. ap (λ (l : Line). word_number l.word) (ls k) ∙ number_if (eqb (get_or marks k 0) 1) Certain (line_at t.lines.rows k).word)
    where
      inside : (p : List ℕ) → plan p → (k : ℕ) → get_or p k 0 ≡ 2 → k < w
      inside p q k e =
          let l : length p ≡ w = (whole p q).0 in
          ⊎_elim (λ (x : k < w). x) (λ (x : w ≤ k). let z = get_or_past p k 0 (omega arith) in absurd (omega arith)) (cases_lt k w)

  pub rest_from
      : (found : Option (List ℕ)) → u.over ≡ t.over
      → ((k : ℕ) → line_at u.lines.rows k ≡ settled_line (byte_in found k) (line_at t.lines.rows k) (get_or marks k 0))
      → Rest w plan (view w t) (view w u)
  rest_from found e ls =
      record {
        begun = ap (λ o. begun_over o w) e;
        mark = λ k. ap (λ (l : Line). l.candidate) (ls k);
        pin = λ k. ap (λ (l : Line). l.pin) (ls k);
      }

-- a settling leaves no more open than there were
pub fewer
    : (w : ℕ) (plan : List ℕ → Type 0) (whole : (p : List ℕ) → plan p → Whole w p) {m n : State} (g : ℕ → Bool)
    → Rest w plan m n → Settles w plan m g n → counted n Open w ≤ counted m Open w
fewer w plan whole {m} {n} g r s = Law.counted_le m n (Law.settle_shrinks w plan whole g r s) w

-- all that a settling does, over the tables before and after
pub record Done (w : ℕ) (plan : List ℕ → Type 0) (t u : Table) (marks : List ℕ) (before after : ℕ) : Type 0 where
  pub rest : Rest w plan (view w t) (view w u)
  pub settles : Settles w plan (view w t) (λ k. eqb (get_or marks k 0) 1) (view w u)
  pub fewer : after ≤ before
  pub counts : before - after + counted (view w u) Open w ≡ counted (view w t) Open w

pub all_done
    : (w : ℕ) (plan : List ℕ → Type 0) → ((p : List ℕ) → plan p → Whole w p)
    → (t u : Table) (pins marks : List ℕ) (before after : ℕ) (found : Option (List ℕ))
    → (view w t).begun ≡ true
    → ((k : ℕ) × (get_or marks k 0 ≡ 1) × (k < w))
    → before ≡ counted (view w t) Open (width_of t.over)
    → ((k : ℕ) → get_or pins k 0 ≡ (line_at t.lines.rows k).pin)
    → MatchOption found (NotFound w plan pins marks) (Found w plan pins marks)
    → ((k : ℕ) → line_at u.lines.rows k ≡ settled_line (byte_in found k) (line_at t.lines.rows k) (get_or marks k 0))
    → u.over ≡ t.over
    → after ≡ counted (view w u) Open (width_of u.over)
    → Done w plan t u marks before after
all_done w plan whole t u pins marks before after found b s n ps f ls uo a =
    record { rest = r; settles = x; fewer = omega (arith, l, n', a'); counts = omega (arith, l, n', a') }
  where
    e : width_of t.over ≡ w
    e = tied t.over w b

    r : Rest w plan (view w t) (view w u)
    r = rest_from w plan whole t u pins marks e ps found uo ls

    x : Settles w plan (view w t) (λ k. eqb (get_or marks k 0) 1) (view w u)
    x = settles_from w plan whole t u pins marks e ps found f s ls

    l : counted (view w u) Open w ≤ counted (view w t) Open w
    l = fewer w plan whole (λ k. eqb (get_or marks k 0) 1) r x

    n' : before ≡ counted (view w t) Open w
    n' = n ∙ ap (counted (view w t) Open) e

    a' : after ≡ counted (view w u) Open w
    a' = a ∙ ap (counted (view w u) Open) (ap width_of uo ∙ e)

-- another way to write the same group
pub settles_by_lem
    : (w : ℕ) (plan : List ℕ → Type 0) (m n : State) (f g : ℕ → Bool) → ((k : ℕ) → f k ≡ g k) → Settles w plan m f n → Settles w plan m g n
settles_by_lem w plan m n f g e (none x y) =
    none (λ p q a k h. x p q a k (e k ∙ h)) (λ k. y k ∙ ap (λ b. cond b 1 (m.word k)) (e k))
settles_by_lem w plan m n f g e (some p q a k h i y) = some p q a k (sym (e k) ∙ h) i y

-- a group in a longer table
pub widened_few : (b : ℕ) (g ms : List ℕ) → UpTo b g → ((k : ℕ) → get_or ms k 0 ≡ get_or g k 0) → UpTo b ms
widened_few b g ms u e k h =
    ⊎_elim
    (λ (l : k < length g). subst (λ x. x ≤ b) (sym (e k)) (u k l))
    (λ (l : length g ≤ k). let z = get_or_past g k 0 l in let y = e k in omega arith)
    (cases_lt k (length g))
