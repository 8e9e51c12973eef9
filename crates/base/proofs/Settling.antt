-- A case is settled by running through all rows.
use Rattle.std.proofs.Common.{◌≡◌, ℕ, zero, suc, ◌+◌, ◌<◌, ◌≤◌, Bool, true, ◌&&◌, ◌||◌, eqb, ◌⊎◌, List, [], ◌∷◌, ◌++◌, map, filter, get_or, sym, refl, ap, subst, inl, inr, arith}
use Rattle.std.proofs.lemmas.Bool.{eqb-true, eq-eqb, cases_Bool, cases_eq, and_parts, and_from, or_cases, or_left, or_right, cond-true, cond-false}
use Rattle.source.specs.Plans.{Whole, Agrees}
use Rattle.base.specs.Settled.{Among, Exactly, Settled, all_rows, agreeing, picked, holds_in, sure_from}

among_left : {X : Type 0} (x : X) (xs ys : List X) → Among x xs → Among x (xs ++ ys)
among_left x [] ys m = absurd m
among_left x (y ∷ xs) ys (inl e) = inl e
among_left x (y ∷ xs) ys (inr m) = inr (among_left x xs ys m)

among_right : {X : Type 0} (x : X) (xs ys : List X) → Among x ys → Among x (xs ++ ys)
among_right x [] ys m = m
among_right x (y ∷ xs) ys m = inr (among_right x xs ys m)

among_cases : {X : Type 0} (x : X) (xs ys : List X) → Among x (xs ++ ys) → Among x xs ⊎ Among x ys
among_cases x [] ys m = inr m
among_cases x (y ∷ xs) ys (inl e) = inl (inl e)
among_cases x (y ∷ xs) ys (inr m) = elim (among_cases x xs ys m) [ inl a ↦ inl (inr a) | inr b ↦ inr b ]

among_map : {X Y : Type 0} (f : X → Y) (x : X) (xs : List X) → Among x xs → Among (f x) (map f xs)
among_map f x [] m = absurd m
among_map f x (y ∷ xs) (inl e) = inl (ap f e)
among_map f x (y ∷ xs) (inr m) = inr (among_map f x xs m)

among_mapped : {X Y : Type 0} (f : X → Y) (y : Y) (xs : List X) → Among y (map f xs) → (x : X) × Among x xs × (f x ≡ y)
among_mapped f y [] m = absurd m
among_mapped f y (x ∷ xs) (inl e) = (x, inl refl, e)
among_mapped f y (x ∷ xs) (inr m) = let r = among_mapped f y xs m in (r.0, inr r.1, r.2)

-- all rows are the whole rows
whole_more : (n b : ℕ) (p : List ℕ) → (b ≡ 1) ⊎ (b ≡ 2) → Whole n p → Whole (suc n) (b ∷ p)
whole_more n b p o w = (ap suc w.0, at)
  where
    at : (k : ℕ) → k < suc n → (get_or (b ∷ p) k 0 ≡ 1) ⊎ (get_or (b ∷ p) k 0 ≡ 2)
    at zero l = o
    at (suc k) l = w.1 k (omega arith)

whole_rest : (n b : ℕ) (p : List ℕ) → Whole (suc n) (b ∷ p) → Whole n p
whole_rest n b p w = (let l = w.0 in omega arith, λ k l. w.1 (suc k) (omega arith))

rows_to : (w : ℕ) (p : List ℕ) → Among p (all_rows w) → Whole w p
rows_to zero p (inl e) = subst (Whole 0) e (refl, λ k l. absurd (omega arith))
rows_to zero p (inr m) = absurd m
rows_to (suc n) p m = elim (among_cases p (map (λ r. 2 ∷ r) (all_rows n)) (map (λ r. 1 ∷ r) (all_rows n)) m) [
  | inl a ↦ (let r = among_mapped (λ r. 2 ∷ r) p (all_rows n) a in subst (Whole (suc n)) r.2 (whole_more n 2 r.0 (inr refl) (rows_to n r.0 r.1)))
  | inr b ↦ (let r = among_mapped (λ r. 1 ∷ r) p (all_rows n) b in subst (Whole (suc n)) r.2 (whole_more n 1 r.0 (inl refl) (rows_to n r.0 r.1)))
]

rows_from : (w : ℕ) (p : List ℕ) → Whole w p → Among p (all_rows w)
rows_from zero [] h = inl refl
rows_from zero (b ∷ p) h = let l = h.0 in absurd (omega arith)
rows_from (suc n) [] h = let l = h.0 in absurd (omega arith)
rows_from (suc n) (b ∷ p) h =
    let r = rows_from n p (whole_rest n b p h) in
    elim (h.1 0 (omega arith)) [
      | inl e ↦ among_right _ (map (λ r. 2 ∷ r) (all_rows n)) (map (λ r. 1 ∷ r) (all_rows n)) (subst (λ z. Among (z ∷ p) (map (λ r. 1 ∷ r) (all_rows n))) (sym e) (among_map (λ r. 1 ∷ r) p (all_rows n) r))
      | inr e ↦ among_left _ (map (λ r. 2 ∷ r) (all_rows n)) (map (λ r. 1 ∷ r) (all_rows n)) (subst (λ z. Among (z ∷ p) (map (λ r. 2 ∷ r) (all_rows n))) (sym e) (among_map (λ r. 2 ∷ r) p (all_rows n) r))
    ]

filter_to : (f : List ℕ → Bool) (rs : List (List ℕ)) (p : List ℕ) → Among p (filter f rs) → Among p rs × (f p ≡ true)
filter_to f [] p m = absurd m
filter_to f (r ∷ rs) p m = elim (cases_Bool (f r)) [
  | inl t ↦ first (filter_to f rs p) (subst (Among p) (cond-true (f r) (r ∷ filter f rs) (filter f rs) t) m) t
  | inr t ↦ (let x = filter_to f rs p (subst (Among p) (cond-false (f r) (r ∷ filter f rs) (filter f rs) t) m) in (inr x.0, x.1))
]
  where
    first : (Among p (filter f rs) → Among p rs × (f p ≡ true)) → Among p (r ∷ filter f rs) → f r ≡ true → Among p (r ∷ rs) × (f p ≡ true)
    first rest (inl e) t = (inl e, subst (λ z. f z ≡ true) e t)
    first rest (inr n) t = let x = rest n in (inr x.0, x.1)

filter_from : (f : List ℕ → Bool) (rs : List (List ℕ)) (p : List ℕ) → Among p rs → f p ≡ true → Among p (filter f rs)
filter_from f [] p m t = absurd m
filter_from f (r ∷ rs) p (inl e) t = subst (Among p) (sym (cond-true (f r) (r ∷ filter f rs) (filter f rs) (subst (λ z. f z ≡ true) (sym e) t))) (inl e)
filter_from f (r ∷ rs) p (inr m) t = elim (cases_Bool (f r)) [
  | inl u ↦ subst (Among p) (sym (cond-true (f r) (r ∷ filter f rs) (filter f rs) u)) (inr (filter_from f rs p m t))
  | inr u ↦ subst (Among p) (sym (cond-false (f r) (r ∷ filter f rs) (filter f rs) u)) (filter_from f rs p m t)
]

agrees_to : (pins p : List ℕ) → agreeing pins p ≡ true → Agrees pins p
agrees_to [] p t k n = absurd (n refl)
agrees_to (b ∷ bs) [] t zero n = absurd (n (eqb-true b 0 (and_parts (eqb b 0) _ t).0))
agrees_to (b ∷ bs) [] t (suc k) n = agrees_to bs [] (and_parts (eqb b 0) _ t).1 k n
agrees_to (b ∷ bs) (x ∷ p) t zero n = elim (or_cases (eqb b 0) (eqb x b) (and_parts (eqb b 0 || eqb x b) _ t).0) [ inl e ↦ absurd (n (eqb-true b 0 e)) | inr e ↦ eqb-true x b e ]
agrees_to (b ∷ bs) (x ∷ p) t (suc k) n = agrees_to bs p (and_parts (eqb b 0 || eqb x b) _ t).1 k n

agrees_from : (pins p : List ℕ) → Agrees pins p → agreeing pins p ≡ true
agrees_from [] p h = refl
agrees_from (b ∷ bs) [] h = and_from _ _ (elim (cases_eq b 0) [ inl e ↦ eq-eqb b 0 e | inr e ↦ (let z = h 0 e in absurd (e (sym z))) ]) (agrees_from bs [] (λ k. h (suc k)))
agrees_from (b ∷ bs) (x ∷ p) h = and_from _ _ (elim (cases_eq b 0) [ inl e ↦ or_left (eqb b 0) (eqb x b) (eq-eqb b 0 e) | inr e ↦ or_right (eqb b 0) (eqb x b) (eq-eqb x b (h 0 e)) ]) (agrees_from bs p (λ k. h (suc k)))

holds_to : (s : ℕ) (rows : List (List ℕ)) → holds_in s rows ≡ true → (p : List ℕ) → Among p rows → get_or p s 0 ≡ 1
holds_to s [] t p m = absurd m
holds_to s (r ∷ rs) t p (inl e) = subst (λ z. get_or z s 0 ≡ 1) e (eqb-true _ _ (and_parts (eqb (get_or r s 0) 1) _ t).0)
holds_to s (r ∷ rs) t p (inr m) = holds_to s rs (and_parts (eqb (get_or r s 0) 1) _ t).1 p m

holds_from : (s : ℕ) (rows : List (List ℕ)) → ((p : List ℕ) → Among p rows → get_or p s 0 ≡ 1) → holds_in s rows ≡ true
holds_from s [] h = refl
holds_from s (r ∷ rs) h = and_from _ _ (eq-eqb _ _ (h r (inl refl))) (holds_from s rs (λ p m. h p (inr m)))

sure_to : (a n : ℕ) (rows : List (List ℕ)) (s : ℕ) → Among s (sure_from a n rows) → holds_in s rows ≡ true
sure_to a zero rows s m = absurd m
sure_to a (suc n) rows s m = elim (cases_Bool (holds_in a rows)) [
  | inl t ↦ first (sure_to (suc a) n rows s) (subst (Among s) (cond-true (holds_in a rows) (a ∷ sure_from (suc a) n rows) (sure_from (suc a) n rows) t) m) t
  | inr t ↦ sure_to (suc a) n rows s (subst (Among s) (cond-false (holds_in a rows) (a ∷ sure_from (suc a) n rows) (sure_from (suc a) n rows) t) m)
]
  where
    first : (Among s (sure_from (suc a) n rows) → holds_in s rows ≡ true) → Among s (a ∷ sure_from (suc a) n rows) → holds_in a rows ≡ true → holds_in s rows ≡ true
    first rest (inl e) t = subst (λ z. holds_in z rows ≡ true) e t
    first rest (inr k) t = rest k

sure_from_lem : (a n : ℕ) (rows : List (List ℕ)) (s : ℕ) → a ≤ s → s < a + n → holds_in s rows ≡ true → Among s (sure_from a n rows)
sure_from_lem a zero rows s l m t = absurd (omega arith)
sure_from_lem a (suc n) rows s l m t = elim (cases_eq a s) [
  | inl e ↦ subst (Among s) (sym (cond-true (holds_in a rows) (a ∷ sure_from (suc a) n rows) (sure_from (suc a) n rows) (subst (λ z. holds_in z rows ≡ true) (sym e) t))) (inl e)
  | inr e ↦ (let r = sure_from_lem (suc a) n rows s (omega arith) (omega arith) t in elim (cases_Bool (holds_in a rows)) [
    | inl u ↦ subst (Among s) (sym (cond-true (holds_in a rows) (a ∷ sure_from (suc a) n rows) (sure_from (suc a) n rows) u)) (inr r)
    | inr u ↦ subst (Among s) (sym (cond-false (holds_in a rows) (a ∷ sure_from (suc a) n rows) (sure_from (suc a) n rows) u)) r
  ])
]

-- plans that a test tells among the whole rows are settled by computation
pub settle : (w : ℕ) (plan : List ℕ → Type 0) (test : List ℕ → Bool) → ((p : List ℕ) → plan p → Whole w p × (test p ≡ true)) → ((p : List ℕ) → Whole w p → test p ≡ true → plan p) →
    (pins : List ℕ) (rows : List (List ℕ)) (sure : List ℕ) → picked w test pins ≡ rows → sure_from 0 w rows ≡ sure → Settled w plan pins rows sure
settle w plan test to from pins rows sure e f = record {
  plans = exactly;
  certain = λ s l. (
    (λ c. subst (Among s) f (sure_from_lem 0 w rows s (omega arith) (omega arith) (holds_from s rows (λ p m. let x = (exactly p).1 m in c p x.0 x.1)))),
    (λ m p pl ag. holds_to s rows (sure_to 0 w rows s (subst (Among s) (sym f) m)) p ((exactly p).0 pl ag)),
  );
}
  where
    exactly : Exactly plan pins rows
    exactly p = (
      (λ pl ag. let t = to p pl in subst (Among p) e (filter_from (λ r. test r && agreeing pins r) (all_rows w) p (rows_from w p t.0) (and_from _ _ t.1 (agrees_from pins p ag)))),
      (λ m. let r = filter_to (λ r. test r && agreeing pins r) (all_rows w) p (subst (Among p) (sym e) m) in
          let b = and_parts (test p) _ r.1 in (from p (rows_to w p r.0) b.0, agrees_to pins p b.1)),
    )
