-- Rows lie inside what is lent and are whole partials, and the first row that serves answers a question.
use Rattle.std.proofs.Common.{◌≡◌, ℕ, ◌+◌, ◌*◌, ◌<◌, ◌≤◌, List, length, get_or, drop, Ok, sym, ◌∙◌, subst, mul-le-mul_right, suc-mul, arith}
use Rattle.source.specs.Plans.{Whole, Of, Serves}
use Rattle.source.specs.Asked.{Taken, Asked}
use Rattle.source.specs.declared.Answer.TheVariants.{Plan, Nothing}
use Rattle.sources.specs.Rows.{row_at, Among, Decided, Listable, FirstServing, NoneServing}
use Rattle.std.proofs.lemmas.List.{length-take, length-drop, get_or-take, get_or-drop}

pub row_inside : (w n i : ℕ) → i < n → i * w + w ≤ n * w
row_inside w n i h = let a = mul-le-mul_right w h in let b = suc-mul i w in omega arith

-- byte k of row i
pub row_byte : (w : ℕ) (rows : List ℕ) (i k : ℕ) → k < w → get_or (row_at w rows i) k 0 ≡ get_or rows (i * w + k) 0
row_byte w rows i k h = get_or-take w (drop (i * w) rows) k 0 h ∙ get_or-drop (i * w) rows k 0

pub row_whole : (w n : ℕ) (rows p : List ℕ) → length rows ≡ n * w → Decided rows → Among w n rows p → Whole w p
row_whole w n rows p l d a =
    let inside = row_inside w n a.0 a.1 in
    rw a.2 (
      simp (length-take, length-drop) (omega arith),
      λ k h.
          let e = row_byte w rows a.0 k h in
          let y = d (a.0 * w + k) (omega arith) in
          grind arith,
    )

-- the first row that serves, copied into the place, is what a question asks for
pub first_answers :
    (w n : ℕ) (rows pins group before after : List ℕ) (i : ℕ) → Listable w n rows → Taken w pins group before → FirstServing w n rows pins group i → after ≡ row_at w rows i
    → Asked w (Of w (Among w n rows)) pins group before (Ok Plan) after
first_answers w n rows pins group before after i l t f e =
    let a : Among w n rows after = (i, f.0, e) in
    (t, (a, row_whole w n rows after l.2 l.3 a), subst (Serves pins group) (sym e) f.1)

-- where no row serves, no plan listed does
pub none_answers :
    (w n : ℕ) (rows pins group before after : List ℕ) → Taken w pins group before → NoneServing w n rows pins group → after ≡ before
    → Asked w (Of w (Among w n rows)) pins group before (Ok Nothing) after
none_answers w n rows pins group before after t f e =
    (t, λ p o s. f o.0.0 o.0.1 (subst (Serves pins group) o.0.2 s), e)
