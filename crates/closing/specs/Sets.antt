-- Sets of numbers as tests, run through one by one; sets of decisions.
use Rattle.std.specs.Prelude.{◌≡◌, ℕ, zero, suc, ◌+◌, ◌-◌, ◌*◌, ◌/◌, ◌%◌, ◌<◌, ◌≤◌, Bool, true, false, cond, not, ◌&&◌, ◌||◌, ◌≢◌, ◌⊎◌, List, [], ◌∷◌, length, take, drop, ◌==◌, slice_index, refl}
use Rattle.std.proofs.Common.{sym, ap, ◌∙◌, subst, inl, inr, arith}
use Rattle.std.proofs.Math.Path.{fun_ext}
use Rattle.std.proofs.lemmas.List.{length-take, length-drop, get_or-take, get_or-drop}
use Rattle.std.specs.Bool.{one_answer}
use Rattle.base.specs.Settled.{Among}
use Rattle.std.proofs.lemmas.Bool.{eqb-true, cases_Bool, cases_eq, and_parts, and_from, and_cases, both_ways, not-true, not_from_false, not-false, ne_eqb, eq-eqb, or_from}

-- An entry is a code: twice the statement's number, plus 1 if it says "not". The contrary has the same statement.
abbrev pub contrary : ℕ → ℕ
contrary e = (e + 1) - 2 * (e % 2)

-- an entry holds in a partial
abbrev pub holds : List ℕ → ℕ → Bool
holds p e = slice_index p (e / 2) == 1 + e % 2

abbrev pub imp : Bool → Bool → Bool
imp true b = b
imp false b = true

abbrev pub every : (ℕ → Bool) → List ℕ → Bool
every f [] = true
every f (x ∷ xs) = f x && every f xs

abbrev pub below : ℕ → (ℕ → Bool) → Bool
below zero f = true
below (suc n) f = f n && below n f

abbrev pub adding : ℕ → (ℕ → Bool) → ℕ → Bool
adding n X s = s == n || X s

-- every set of numbers below n passes the test
abbrev pub all_sets : ℕ → ((ℕ → Bool) → Bool) → Bool
all_sets zero f = f (λ s. false)
all_sets (suc n) f = all_sets n f && all_sets n (λ X. f (adding n X))

abbrev pub subset : ℕ → (ℕ → Bool) → (ℕ → Bool) → Bool
subset n X Y = below n (λ s. imp (X s) (Y s))

-- nothing at or past n
abbrev pub Within : ℕ → (ℕ → Bool) → Type 0
Within n X = (s : ℕ) → n ≤ s → X s ≡ false

abbrev pub Sub : (ℕ → Bool) → (ℕ → Bool) → Type 0
Sub C D = (e : ℕ) → C e ≡ true → D e ≡ true

-- all that a partial decides is in a set of decisions
abbrev pub Under : (ℕ → Bool) → List ℕ → Type 0
Under C p = Sub (holds p) C

-- e is in the list
abbrev pub In : ℕ → List ℕ → Type 0
In e xs = Among e xs

-- each code names a statement below n
abbrev pub Codes : ℕ → List ℕ → Type 0
Codes n xs = (k : ℕ) → k < length xs → slice_index xs k < 2 * n

-- the bytes of a set of decisions
abbrev pub tabulate : ℕ → (ℕ → ℕ) → List ℕ
tabulate zero f = []
tabulate (suc n) f = f zero ∷ tabulate n (λ s. f (suc s))

unfoldable pub byte_of : (ℕ → Bool) → ℕ → ℕ
byte_of C s = cond (C (2 * s)) 1 (cond (C (2 * s + 1)) 2 0)

-- two sets that have all of each other are the same
pub sub_both : (C D : ℕ → Bool) → Sub C D → Sub D C → C ≡ D
sub_both C D f g = fun_ext (λ e. one_answer (C e) (D e) (f e, g e) ((λ h. h), (λ h. h)))

pub imp_to : (a b : Bool) → imp a b ≡ true → a ≡ true → b ≡ true
imp_to true b h p = h
imp_to false b h p = absurd (both_ways false refl p)

pub imp_from : (a b : Bool) → (a ≡ true → b ≡ true) → imp a b ≡ true
imp_from true b h = h refl
imp_from false b h = refl

pub every_to : (f : ℕ → Bool) (xs : List ℕ) → every f xs ≡ true → (e : ℕ) → In e xs → f e ≡ true
every_to f [] h e m = absurd m
every_to f (x ∷ xs) h e (inl p) = subst (λ z. f z ≡ true) p (and_parts (f x) (every f xs) h).0
every_to f (x ∷ xs) h e (inr m) = every_to f xs (and_parts (f x) (every f xs) h).1 e m

pub every_from : (f : ℕ → Bool) (xs : List ℕ) → ((e : ℕ) → In e xs → f e ≡ true) → every f xs ≡ true
every_from f [] h = refl
every_from f (x ∷ xs) h = and_from (f x) (every f xs) (h x (inl refl)) (every_from f xs (λ e m. h e (inr m)))

pub every_or : (f : ℕ → Bool) (xs : List ℕ) → ((e : ℕ) → In e xs → f e ≡ true) ⊎ ((e : ℕ) × In e xs × (f e ≡ false))
every_or f [] = inl (λ e i. absurd i)
every_or f (x ∷ xs) = first (cases_Bool (f x)) (every_or f xs)
  where
    first : (f x ≡ true) ⊎ (f x ≡ false) → ((e : ℕ) → In e xs → f e ≡ true) ⊎ ((e : ℕ) × In e xs × (f e ≡ false)) →
        ((e : ℕ) → In e (x ∷ xs) → f e ≡ true) ⊎ ((e : ℕ) × In e (x ∷ xs) × (f e ≡ false))
    first (inr h) r = inr (x, inl refl, h)
    first (inl h) (inr r) = inr (r.0, inr r.1, r.2)
    first (inl h) (inl r) = inl (λ e i. elim i [ inl p ↦ subst (λ z. f z ≡ true) p h | inr j ↦ r e j ])

-- some element passes the test
pub some_to : (f : ℕ → Bool) (xs : List ℕ) → not (every (λ e. not (f e)) xs) ≡ true → (e : ℕ) × In e xs × (f e ≡ true)
some_to f xs h = elim (every_or (λ e. not (f e)) xs) [
  | inl all ↦ absurd (both_ways _ (not-true _ h) (every_from _ xs all))
  | inr c ↦ (c.0, c.1, not-false _ c.2)
]

pub some_from : (f : ℕ → Bool) (xs : List ℕ) (e : ℕ) → In e xs → f e ≡ true → not (every (λ x. not (f x)) xs) ≡ true
some_from f xs e m p = elim (cases_Bool (every (λ x. not (f x)) xs)) [
  | inl all ↦ absurd (both_ways _ (not-true _ (every_to (λ x. not (f x)) xs all e m)) p)
  | inr q ↦ not_from_false _ q
]

pub below_to : (n : ℕ) (f : ℕ → Bool) → below n f ≡ true → (i : ℕ) → i < n → f i ≡ true
below_to zero f h i l = absurd (omega arith)
below_to (suc n) f h i l = elim (cases_eq i n) [
  | inl p ↦ subst (λ z. f z ≡ true) (sym p) (and_parts (f n) (below n f) h).0
  | inr p ↦ below_to n f (and_parts (f n) (below n f) h).1 i (omega arith)
]

pub below_from : (n : ℕ) (f : ℕ → Bool) → ((i : ℕ) → i < n → f i ≡ true) → below n f ≡ true
below_from zero f h = refl
below_from (suc n) f h = and_from (f n) (below n f) (h n (omega arith)) (below_from n f (λ i l. h i (omega arith)))

-- some number below n passes the test
pub some_below_to : (n : ℕ) (f : ℕ → Bool) → not (below n (λ k. not (f k))) ≡ true → (k : ℕ) × (k < n) × (f k ≡ true)
some_below_to zero f h = absurd (both_ways _ refl h)
some_below_to (suc n) f h = elim (cases_Bool (f n)) [
  | inl q ↦ (n, omega arith, q)
  | inr q ↦ (let r = some_below_to n f (not_from_false _ (below_rest q)) in (r.0, (let l = r.1 in omega arith), r.2))
]
  where
    below_rest : f n ≡ false → below n (λ k. not (f k)) ≡ false
    below_rest q = elim (and_cases (not (f n)) _ (not-true _ h)) [ inl x ↦ absurd (both_ways _ q (not-false _ x)) | inr x ↦ x ]

pub some_below_from : (n : ℕ) (f : ℕ → Bool) (k : ℕ) → k < n → f k ≡ true → not (below n (λ k. not (f k))) ≡ true
some_below_from n f k l h = elim (cases_Bool (below n (λ j. not (f j)))) [
  | inl q ↦ absurd (both_ways _ (not-true _ (below_to n (λ j. not (f j)) q k l)) h)
  | inr q ↦ not_from_false _ q
]

pub sets_to : (n : ℕ) (f : (ℕ → Bool) → Bool) → all_sets n f ≡ true → (X : ℕ → Bool) → Within n X → f X ≡ true
sets_to zero f h X w = subst (λ Z. f Z ≡ true) (fun_ext (λ s. sym (w s (omega arith)))) h
sets_to (suc n) f h X w = elim (cases_Bool (X n)) [
  | inl p ↦ subst (λ Z. f Z ≡ true) (fun_ext (back p)) (sets_to n (λ Z. f (adding n Z)) (and_parts _ _ h).1 less less_within)
  | inr p ↦ sets_to n f (and_parts _ _ h).0 X (hasnt p)
]
  where
    less : ℕ → Bool
    less s = X s && not (s == n)

    hasnt : X n ≡ false → Within n X
    hasnt p s l = elim (cases_eq s n) [ inl q ↦ ap X q ∙ p | inr q ↦ w s (omega arith) ]

    less_within : Within n less
    less_within s l = elim (cases_eq s n) [
      | inl q ↦ cut (X s) (s == n) (inr (eq-eqb s n q))
      | inr q ↦ cut (X s) (s == n) (inl (w s (omega arith)))
    ]
      where
        cut : (a b : Bool) → (a ≡ false) ⊎ (b ≡ true) → (a && not b) ≡ false
        cut true true e = refl
        cut true false (inl e) = e
        cut true false (inr e) = sym e
        cut false true e = refl
        cut false false e = refl

    back : X n ≡ true → (s : ℕ) → adding n less s ≡ X s
    back p s = elim (cases_eq s n) [
      | inl q ↦ join (s == n) (X s) (inr (ap X q ∙ p))
      | inr q ↦ join (s == n) (X s) (inl (ne_eqb s n q))
    ]
      where
        join : (b a : Bool) → (b ≡ false) ⊎ (a ≡ true) → (b || (a && not b)) ≡ a
        join true true e = refl
        join true false (inl e) = e
        join true false (inr e) = sym e
        join false true e = refl
        join false false e = refl

pub sets_from : (n : ℕ) (f : (ℕ → Bool) → Bool) → ((X : ℕ → Bool) → Within n X → f X ≡ true) → all_sets n f ≡ true
sets_from zero f h = h (λ s. false) (λ s l. refl)
sets_from (suc n) f h = and_from _ _
    (sets_from n f (λ X w. h X (λ s l. w s (omega arith))))
    (sets_from n (λ X. f (adding n X)) (λ X w. h (adding n X) (λ s l. or_from (s == n) (X s) (ne_eqb s n (λ q. omega arith)) (w s (omega arith)))))

pub move : (D : ℕ → Bool) (a b : ℕ) → a ≡ b → D a ≡ true → D b ≡ true
move D a b p h = subst (λ z. D z ≡ true) p h

pub contrary_back : (e : ℕ) → contrary (contrary e) ≡ e
contrary_back e = omega arith

pub contrary_less : (e n : ℕ) → e < 2 * n → contrary e < 2 * n
contrary_less e n l = omega arith

pub holds_once : (p : List ℕ) (e : ℕ) → holds p e ≡ true → holds p (contrary e) ≢ true
holds_once p e a b =
    let x = eqb-true _ _ a in let y = eqb-true _ _ b in
    let hf : contrary e / 2 ≡ e / 2 = omega arith in
    let z = ap (λ k. slice_index p k) hf in omega arith

pub in_to : (b : List ℕ) (e : ℕ) → In e b → (k : ℕ) × (k < length b) × (slice_index b k ≡ e)
in_to [] e m = absurd m
in_to (x ∷ xs) e (inl p) = (0, omega arith, p)
in_to (x ∷ xs) e (inr m) = let r = in_to xs e m in (suc r.0, (let l = r.1 in omega arith), r.2)

pub in_from : (b : List ℕ) (k : ℕ) → k < length b → In (slice_index b k) b
in_from [] k l = absurd (omega arith)
in_from (x ∷ xs) zero l = inl refl
in_from (x ∷ xs) (suc k) l = inr (in_from xs k (omega arith))

pub part_codes : (n : ℕ) (es : List ℕ) (f c : ℕ) → Codes n es → f + c ≤ length es → Codes n (take c (drop f es))
part_codes n es f c ok fit k l =
    let x = length-take c (drop f es) in let y = length-drop f es in
    let lt : k < c = omega arith in
    let z = get_or-take c (drop f es) k 0 lt in let v = get_or-drop f es k 0 in
    let o = ok (f + k) (omega arith) in omega arith
