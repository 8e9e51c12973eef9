-- A joining of two plans serves exactly where its halves do, each its half of the pins and of a group that is shared out.
use Rattle.std.proofs.Common.{◌≡◌, append_assoc, ℕ, ◌+◌, ◌-◌, ◌<◌, ◌≤◌, ◌⊎◌, List, ◌++◌, length, get_or, take, drop, replicate, Some, None, Option, MatchOption, sym, ap, ◌∙◌, subst, inl, inr, ⊎_elim, arith}
use Rattle.std.proofs.lemmas.List.{length-take, length-append, get_or-take, get_or_past, length-replicate, get_or-replicate, get_or_append_left, get_or-append_right, get_or-append-add, take-append-drop, take_at}
use Rattle.std.proofs.lemmas.Bool.{cases_lt}
use Rattle.source.specs.Plans.{Whole, Of, Agrees, Marks, FailsMarked, Meets, Serves}
use Rattle.sources.specs.Joined.{Serving, BothServing, FoundBoth, JoiningServes, Posed, AskedBoth, AskedJoining}
use Rattle.sources.specs.Shares.{Blank, Shared}
use Rattle.sources.specs.declared.pair.Share.TheVariants.{First, Second, Either}

pub blank_no_marks : (g : List ℕ) → Blank g → Marks g → ⊥
blank_no_marks g z m = let e = z m.0 in let f : get_or g m.0 0 ≡ 1 = m.1 in omega arith

pub blank_zeros : (n : ℕ) → Blank (replicate n 0)
blank_zeros n k = grind (arith, get_or-replicate, get_or_past, length-replicate)

-- a group that marks nothing, cut
pub blank_take : (n : ℕ) (g : List ℕ) → Blank g → Blank (take n g)
blank_take n g z k = let e = z k in grind (arith, get_or-take, get_or_past, length-take)

-- a byte that is not 0 is inside
pub inside : (xs : List ℕ) (k : ℕ) → (get_or xs k 0 ≡ 0 → ⊥) → k < length xs
inside xs k n = grind (arith, get_or_past)

-- what is read behind the first list is the second's
pub at_second : (xs ys : List ℕ) (n k : ℕ) → length xs ≡ n → get_or (xs ++ ys) (n + k) 0 ≡ get_or ys k 0
at_second xs ys n k l = grind (arith, get_or-append_right)

pub agrees_first : (fp sp q r : List ℕ) → length q ≡ length fp → Agrees (fp ++ sp) (q ++ r) → Agrees fp q
agrees_first fp sp q r l s k n =
    let i = inside fp k n in
    let t = s k in
    grind (arith, get_or_append_left)

pub agrees_second : (fp sp q r : List ℕ) → length q ≡ length fp → Agrees (fp ++ sp) (q ++ r) → Agrees sp r
agrees_second fp sp q r l s k n =
    let t = s (length fp + k) in
    grind (arith, at_second)

pub agrees_both : (fp sp q r : List ℕ) → length q ≡ length fp → Agrees fp q → Agrees sp r → Agrees (fp ++ sp) (q ++ r)
agrees_both fp sp q r l s t k n =
    let u = s k in
    let v = t (k - length fp) in
    grind (arith, get_or_append_left, get_or-append_right)

-- a mark of either part is one of the whole
pub marks_first : (fg sg : List ℕ) → Marks fg → Marks (fg ++ sg)
marks_first fg sg m = (m.0, grind (arith, inside, get_or_append_left))

pub marks_second : (fg sg : List ℕ) → Marks sg → Marks (fg ++ sg)
marks_second fg sg m = (length fg + m.0, get_or-append-add fg sg m.0 0 ∙ m.1)

-- and so of a marked statement that fails
pub fails_first : (fg sg q r : List ℕ) → length q ≡ length fg → FailsMarked fg q → FailsMarked (fg ++ sg) (q ++ r)
fails_first fg sg q r l f = (f.0, grind (arith, inside, get_or_append_left), grind (arith, inside, get_or_append_left))

pub fails_second : (fg sg q r : List ℕ) → length q ≡ length fg → FailsMarked sg r → FailsMarked (fg ++ sg) (q ++ r)
fails_second fg sg q r l f = (length fg + f.0, get_or-append-add fg sg f.0 0 ∙ f.1, at_second q r (length fg) f.0 l ∙ f.2)

-- a mark of the whole is one of either part, and a marked statement of the whole that fails is one of either plan
pub marks_either : (fg sg : List ℕ) → Marks (fg ++ sg) → Marks fg ⊎ Marks sg
marks_either fg sg m =
    ⊎_elim
    (λ (h : m.0 < length fg). inl (m.0, grind (arith, get_or_append_left)))
    (λ (h : length fg ≤ m.0). inr (m.0 - length fg, grind (arith, get_or-append_right)))
    (cases_lt m.0 (length fg))

pub fails_either : (fg sg q r : List ℕ) → length q ≡ length fg → FailsMarked (fg ++ sg) (q ++ r) → FailsMarked fg q ⊎ FailsMarked sg r
fails_either fg sg q r l f =
    ⊎_elim
    (λ (h : f.0 < length fg). inl (f.0, grind (arith, get_or_append_left), grind (arith, get_or_append_left)))
    (λ (h : length fg ≤ f.0). inr (f.0 - length fg, grind (arith, get_or-append_right), grind (arith, get_or-append_right)))
    (cases_lt f.0 (length fg))

-- two whole partials joined are one
pub whole_both : (a b : ℕ) (q r : List ℕ) → Whole a q → Whole b r → Whole (a + b) (q ++ r)
whole_both a b q r u v =
    let lq : length q ≡ a = u.0 in
    let lr : length r ≡ b = v.0 in (
      simp length-append (omega arith),
      λ k h.
          let s = u.1 k in
          let t = v.1 (k - a) in
          grind (arith, get_or_append_left, get_or-append_right),
    )

-- where the first plan meets its part of the group, and that marks a statement or the second part marks none, the two serve
pub serve_by_first :
    (fp sp fg sg q r : List ℕ) → length q ≡ length fp → length q ≡ length fg → Marks fg ⊎ (Marks sg → ⊥) → Serves fp fg q → Agrees sp r → Serves (fp ++ sp) (fg ++ sg) (q ++ r)
serve_by_first fp sp fg sg q r l n c s t = (
  agrees_both fp sp q r l s.0 t,
  λ m. fails_first fg sg q r n (s.1 (⊎_elim (λ (f : Marks fg). f) (λ (f : Marks sg). ⊎_elim (λ (x : Marks fg). x) (λ (x : Marks sg → ⊥). absurd (x f)) c) (marks_either fg sg m))),
)

-- and where the second meets its part, and that marks a statement
pub serve_by_second :
    (fp sp fg sg q r : List ℕ) → length q ≡ length fp → length q ≡ length fg → Marks sg → Agrees fp q → Serves sp sg r → Serves (fp ++ sp) (fg ++ sg) (q ++ r)
serve_by_second fp sp fg sg q r l n m s t = (agrees_both fp sp q r l s t.0, λ x. fails_second fg sg q r n (t.1 m))

-- of two plans that serve joined, one meets its part: the first where the second part marks nothing
pub meets_first : (fg sg q r : List ℕ) → length q ≡ length fg → (Marks sg → ⊥) → Meets (fg ++ sg) (q ++ r) → Meets fg q
meets_first fg sg q r l n s m =
    ⊎_elim (λ (f : FailsMarked fg q). f) (λ (f : FailsMarked sg r). absurd (n (f.0, f.1))) (fails_either fg sg q r l (s (marks_first fg sg m)))

-- the second where the first part marks nothing
pub meets_second : (fg sg q r : List ℕ) → length q ≡ length fg → (Marks fg → ⊥) → Meets (fg ++ sg) (q ++ r) → Meets sg r
meets_second fg sg q r l n s m =
    ⊎_elim (λ (f : FailsMarked fg q). absurd (n (f.0, f.1))) (λ (f : FailsMarked sg r). f) (fails_either fg sg q r l (s (marks_second fg sg m)))

-- the one or the other where both mark a statement
pub meets_either : (fg sg q r : List ℕ) → length q ≡ length fg → Marks fg → Meets (fg ++ sg) (q ++ r) → Meets fg q ⊎ Meets sg r
meets_either fg sg q r l m s =
    ⊎_elim (λ (f : FailsMarked fg q). inl (λ _. f)) (λ (f : FailsMarked sg r). inr (λ _. f)) (fails_either fg sg q r l (s (marks_first fg sg m)))

-- the plans written one behind the other, over whatever stood there, are a joining of them
pub both_found :
    (a : ℕ) (first : List ℕ → Type 0) (b : ℕ) (second : List ℕ → Type 0) (pins fg sg fp sp q r ys zs : List ℕ) (cut : ℕ)
    → cut ≡ a → fp ≡ take cut pins → sp ≡ drop cut pins → Serving a first fp fg q → Serving b second sp sg r
    → FoundBoth a first b second pins fg sg (take (a + b) (take cut (q ++ ys) ++ (r ++ zs)))
both_found a first b second pins fg sg fp sp q r ys zs cut e f s u v =
    let lq : length q ≡ a = u.0.1.0 in
    let lr : length r ≡ b = v.0.1.0 in (
      q,
      r,
      (
        subst (λ (xs : List ℕ). Serving a first xs fg q) (f ∙ ap (λ n. take n pins) e) u,
        subst (λ (xs : List ℕ). Serving b second xs sg r) (s ∙ ap (λ n. drop n pins) e) v,
      ),
      ap (λ xs. take (a + b) (xs ++ (r ++ zs))) (take_at q ys cut (omega arith))
          ∙ ap (take (a + b)) (sym (append_assoc q r zs)) ∙ take_at (q ++ r) zs (a + b) (simp length-append (omega arith)),
    )

-- a question to a pair that is not too wide, and its group cut after the statements of the first source
pub record Cut (a b : ℕ) (pins group fg sg : List ℕ) : Type 0 where
  pub narrow : a + b ≤ 512
  pub long : a ≤ length pins
  pub first_long : length fg ≡ a
  pub parts : fg ++ sg ≡ group

pub cut_made :
    (a b : ℕ) (pins group fg sg : List ℕ) (cut : ℕ) → Posed (a + b) pins group → cut ≡ a → fg ≡ take cut group → sg ≡ drop cut group → length fg ≡ cut → Cut a b pins group fg sg
cut_made a b pins group fg sg cut p e f s m =
    record { narrow = p.4; long = omega (arith, p.0); first_long = m ∙ e; parts = rw (f, s) (take-append-drop cut group) }

-- plans found for the two halves make a plan of the pair
pub found_joins :
    (a : ℕ) (first : List ℕ → Type 0) (b : ℕ) (second : List ℕ → Type 0) (pins group fg sg f s found : List ℕ)
    → Cut a b pins group fg sg
    → ((q r : List ℕ) → length q ≡ length (take a pins) → length q ≡ length fg → BothServing a first b second pins f s q r → Serves (take a pins ++ drop a pins) (fg ++ sg) (q ++ r))
    → FoundBoth a first b second pins f s found → JoiningServes a first b second pins group found
found_joins a first b second pins group fg sg f s found c k h =
    let l : length h.0 ≡ a = h.2.0.0.1.0 in (
      (c.narrow, (h.0, h.1, h.2.0.0, h.2.1.0, h.3)),
      subst (Serves pins group) (sym h.3) (rw (← take-append-drop a pins, ← c.parts) (k h.0 h.1 (simp length-take (omega arith)) (omega arith) h.2)),
    )

-- no plan of the pair serves where no two plans do that it could be made of
pub none_joins :
    (a : ℕ) (first : List ℕ → Type 0) (b : ℕ) (second : List ℕ → Type 0) (pins group fg sg : List ℕ)
    → Cut a b pins group fg sg
    → ((q r : List ℕ) → length q ≡ length fg → Of a first q × Agrees (take a pins) q → Of b second r × Agrees (drop a pins) r → Meets (fg ++ sg) (q ++ r) → ⊥)
    → (p : List ℕ) → JoiningServes a first b second pins group p → ⊥
none_joins a first b second pins group fg sg c k p j =
    let q = j.0.1.0 in
    let r = j.0.1.1 in
    let lq : length q ≡ a = j.0.1.2.1.0 in
    let l : length q ≡ length (take a pins) = simp length-take (omega arith) in
    let s : Serves (take a pins ++ drop a pins) (fg ++ sg) (q ++ r) = rw (take-append-drop a pins, c.parts) (subst (Serves pins group) j.0.1.4 j.1) in
    k q r (omega arith) (j.0.1.2, agrees_first _ _ q r l s.0) (j.0.1.3, agrees_second _ _ q r l s.0) s.1

-- the answer where the second half of the group marks nothing
pub share_first :
    (a : ℕ) (first : List ℕ → Type 0) (b : ℕ) (second : List ℕ → Type 0) (pins group fg sg none : List ℕ) (o : Option (List ℕ))
    → Cut a b pins group fg sg → Blank none → Shared fg sg First → AskedBoth a first b second pins fg none o → AskedJoining a first b second pins group o
share_first a first b second pins group fg sg none (Some p) c z m h =
    found_joins a first b second pins group fg sg fg none (take (a + b) p) c (λ q r l n s. serve_by_first _ _ fg sg q r l n (inr m) s.0.1 s.1.1.0) h
share_first a first b second pins group fg sg none None c z m h =
    none_joins a first b second pins group fg sg c (λ q r n u v s. h q r ((u.0, (u.1, meets_first fg sg q r n m s)), (v.0, (v.1, λ x. absurd (blank_no_marks none z x)))))

-- the answer where only the second half marks a statement
pub share_second :
    (a : ℕ) (first : List ℕ → Type 0) (b : ℕ) (second : List ℕ → Type 0) (pins group fg sg none : List ℕ) (o : Option (List ℕ))
    → Cut a b pins group fg sg → Blank none → Shared fg sg Second → AskedBoth a first b second pins none sg o → AskedJoining a first b second pins group o
share_second a first b second pins group fg sg none (Some p) c z m h =
    found_joins a first b second pins group fg sg none sg (take (a + b) p) c (λ q r l n s. serve_by_second _ _ fg sg q r l n m.1 s.0.1.0 s.1.1) h
share_second a first b second pins group fg sg none None c z m h =
    none_joins a first b second pins group fg sg c (λ q r n u v s. h q r ((u.0, (u.1, λ x. absurd (blank_no_marks none z x))), (v.0, (v.1, meets_second fg sg q r n m.0 s))))

-- the answer where both mark one: that of the second half, or else that of the first
pub share_either :
    (a : ℕ) (first : List ℕ → Type 0) (b : ℕ) (second : List ℕ → Type 0) (pins group fg sg firstNone secondNone : List ℕ) (o p : Option (List ℕ))
    → Cut a b pins group fg sg → Blank firstNone → Blank secondNone → Shared fg sg Either → AskedBoth a first b second pins firstNone sg o
    → MatchOption o (AskedBoth a first b second pins fg secondNone p) (λ x. p ≡ Some x) → AskedJoining a first b second pins group p
share_either a first b second pins group fg sg firstNone secondNone (Some x) p c y z m h e =
    subst (AskedJoining a first b second pins group) (sym e)
    (found_joins a first b second pins group fg sg firstNone sg (take (a + b) x) c (λ q r l n s. serve_by_second _ _ fg sg q r l n m.1 s.0.1.0 s.1.1) h)
share_either a first b second pins group fg sg firstNone secondNone None (Some x) c y z m h e =
    found_joins a first b second pins group fg sg fg secondNone (take (a + b) x) c (λ q r l n s. serve_by_first _ _ fg sg q r l n (inl m.0) s.0.1 s.1.1.0) e
share_either a first b second pins group fg sg firstNone secondNone None None c y z m h e =
    none_joins a first b second pins group fg sg c
    (λ q r n u v s.
    ⊎_elim
    (λ (f : Meets fg q). e q r ((u.0, (u.1, f)), (v.0, (v.1, λ x. absurd (blank_no_marks secondNone z x)))))
    (λ (f : Meets sg r). h q r ((u.0, (u.1, λ x. absurd (blank_no_marks firstNone y x))), (v.0, (v.1, f))))
    (meets_either fg sg q r n m.0 s))
