-- A list of calls.
use Rattle.std.proofs.Common.{Result, ◌≡◌, ℕ, zero, suc, ◌+◌, ◌<◌, ◌≤◌, ◌⊎◌, List, [], ◌∷◌, ◌++◌, reverse, length, min, get_or, take, drop, set, sym, refl, ap, ◌∙◌, subst, inl, inr, ⊎_elim, add-one, arith}
use Rattle.std.proofs.lemmas.Bool.{cases_lt}
use Rattle.std.proofs.lemmas.List.{drop-set-lt, reverse-append, length-set, get_or-take, take_all}
use Rattle.source.specs.Plans.{Whole}
use Rattle.uses.specs.Model.{State, Fresh}
use Rattle.uses.specs.Step.{Step}
use Rattle.uses.specs.Use.{Event, event, Use, from, stop, next}
use Rattle.uses.proofs.Law
use Rattle.uses.specs.declared.SheetRefusal.{SheetRefusal}
use Rattle.runs.specs.declared.call.Call.{Call}
use Rattle.runs.specs.declared.call.Reply.{Reply}
use Rattle.table.specs.declared.table.Table.{Table}
use Rattle.runs.specs.Run.{call_of, reply_of, happened, Ran}
use Rattle.checks.specs.View.{view}

use_more
    : (w : ℕ) (plan : List ℕ → Type 0) {es : List Event} {m n : State} (c : Call) (r : Result Reply SheetRefusal)
    → Use w plan es m → Step w plan m (call_of c) (reply_of r) n → Use w plan (event (call_of c) (reply_of r) ∷ es) n
use_more w plan c r (from f s) x = from f (next s x)

-- one call more
happened_suc
    : (cs : List Call) (rs : List (Result Reply SheetRefusal)) (i : ℕ) (d : Call) (r : Result Reply SheetRefusal) → i < length cs → i < length rs
    → happened (take (suc i) cs) (set rs i r) ≡ happened (take i cs) rs ++ event (call_of (get_or cs i d)) (reply_of r) ∷ []
happened_suc [] rs i d r a b = absurd (omega arith)
happened_suc (c ∷ cs) [] i d r a b = absurd (omega arith)
happened_suc (c ∷ cs) (x ∷ rs) zero d r a b = refl
happened_suc (c ∷ cs) (x ∷ rs) (suc i) d r a b = ap (λ es. event (call_of c) (reply_of x) ∷ es) (happened_suc cs rs i d r (omega arith) (omega arith))

happened_more
    : (cs : List Call) (rs : List (Result Reply SheetRefusal)) (i : ℕ) (d : Call) (r : Result Reply SheetRefusal) → i < length cs → i < length rs
    → reverse (happened (take (i + 1) cs) (set rs i r)) ≡ event (call_of (get_or cs i d)) (reply_of r) ∷ reverse (happened (take i cs) rs)
happened_more cs rs i d r a b =
    ap (λ n. reverse (happened (take n cs) (set rs i r))) (add-one i)
    ∙ ap reverse (happened_suc cs rs i d r a b)
    ∙ reverse-append (happened (take i cs) rs) (event (call_of (get_or cs i d)) (reply_of r) ∷ [])

-- past the replies
happened_cut : (cs : List Call) (rs : List (Result Reply SheetRefusal)) (i : ℕ) → length rs ≤ i → happened (take i cs) rs ≡ happened cs rs
happened_cut [] [] zero h = refl
happened_cut [] (r ∷ rs) zero h = refl
happened_cut [] rs (suc i) h = refl
happened_cut (c ∷ cs) [] zero h = refl
happened_cut (c ∷ cs) [] (suc i) h = refl
happened_cut (c ∷ cs) (r ∷ rs) zero h = absurd (omega arith)
happened_cut (c ∷ cs) (r ∷ rs) (suc i) h = ap (λ es. event (call_of c) (reply_of r) ∷ es) (happened_cut cs rs i (omega arith))

pub happened_all : (cs : List Call) (rs : List (Result Reply SheetRefusal)) (i : ℕ) → (length cs ≤ i) ⊎ (length rs ≤ i) → happened (take i cs) rs ≡ happened cs rs
happened_all cs rs i h = ⊎_elim (λ l. ap (λ xs. happened xs rs) (take_all i cs l)) (happened_cut cs rs i) h

left : (cs : List Call) (rs : List (Result Reply SheetRefusal)) → length cs ≤ length rs → length (happened cs rs) ≡ length cs
left [] rs h = refl
left (c ∷ cs) [] h = absurd (omega arith)
left (c ∷ cs) (r ∷ rs) h = ap suc (left cs rs (omega arith))

right : (cs : List Call) (rs : List (Result Reply SheetRefusal)) → length rs ≤ length cs → length (happened cs rs) ≡ length rs
right [] [] h = refl
right [] (r ∷ rs) h = absurd (omega arith)
right (c ∷ cs) [] h = refl
right (c ∷ cs) (r ∷ rs) h = ap suc (right cs rs (omega arith))

pub number
    : (cs : List Call) (rs : List (Result Reply SheetRefusal)) (n : ℕ) → (n ≤ length cs) × (n ≤ length rs) × ((n ≡ length cs) ⊎ (n ≡ length rs))
    → n ≡ length (happened cs rs)
number cs rs n h =
    let a : n ≤ length cs = h.0 in
    let b : n ≤ length rs = h.1 in
    ⊎_elim
    (λ (e : n ≡ length cs). e ∙ sym (left cs rs (omega arith)))
    (λ (e : n ≡ length rs). e ∙ sym (right cs rs (omega arith)))
    h.2

-- the places past the replies
drop_suc : (rs : List (Result Reply SheetRefusal)) (i : ℕ) → drop (suc i) rs ≡ drop 1 (drop i rs)
drop_suc rs zero = refl
drop_suc [] (suc i) = refl
drop_suc (x ∷ rs) (suc i) = drop_suc rs i

drop_more : (rs old : List (Result Reply SheetRefusal)) (i : ℕ) (r : Result Reply SheetRefusal) → drop i rs ≡ drop i old → drop (i + 1) (set rs i r) ≡ drop (i + 1) old
drop_more rs old i r e =
    ap (λ n. drop n (set rs i r)) (add-one i) ∙ drop-set-lt (suc i) rs i r (omega arith) ∙ drop_suc rs i ∙ ap (drop 1) e ∙ sym (drop_suc old i) ∙ sym (ap (λ n. drop n old) (add-one i))

-- what holds after i calls
pub record Sofar (w : ℕ) (plan : List ℕ → Type 0) (calls : List Call) (before now : List (Result Reply SheetRefusal)) (i : ℕ) (m : State) : Type 0 where
  pub same : length now ≡ length before
  pub rest : drop i now ≡ drop i before
  pub is_use : Use w plan (reverse (happened (take i calls) now)) m

pub sofar_none
    : {X : Type 0} (wide : X → ℕ) (plan : X → List ℕ → Type 0) (a b : X) (t : Table) (calls : List Call) (rs : List (Result Reply SheetRefusal)) → b ≡ a → Fresh (view (wide a) t)
    → Sofar (wide b) (plan b) calls rs rs 0 (view (wide b) t)
sofar_none wide plan a b t calls rs e f =
    record { same = refl; rest = refl; is_use = from (subst (λ y. Fresh (view (wide y) t)) (sym e) f) stop }

pub sofar_more
    : {X : Type 0} (wide : X → ℕ) (plan : X → List ℕ → Type 0) (a b : X) (calls : List Call) (before rs : List (Result Reply SheetRefusal)) (n i : ℕ) (d : Call) (r : Result Reply SheetRefusal) (t u : Table)
    → n ≤ length calls → i < n → i < length rs → b ≡ a
    → Sofar (wide a) (plan a) calls before rs i (view (wide a) t)
    → Step (wide b) (plan b) (view (wide b) t) (call_of (get_or (take n calls) i d)) (reply_of r) (view (wide b) u)
    → Sofar (wide a) (plan a) calls before (set rs i r) (i + 1) (view (wide a) u)
sofar_more wide plan a b calls before rs n i d r t u m l k e o s =
    record {
      same = length-set rs i r ∙ o.same;
      rest = drop_more rs before i r o.rest;
      is_use =
          subst (λ es. Use (wide a) (plan a) es (view (wide a) u)) (sym (happened_more calls rs i d r (omega arith) k))
          (use_more (wide a) (plan a) (get_or calls i d) r o.is_use
          (subst (λ y. Step (wide y) (plan y) (view (wide y) t) (call_of (get_or calls i d)) (reply_of r) (view (wide y) u)) e
          (subst (λ c. Step (wide b) (plan b) (view (wide b) t) (call_of c) (reply_of r) (view (wide b) u)) (get_or-take n calls i d l) s)));
    }

pub ran
    : {X : Type 0} (wide : X → ℕ) (plan : X → List ℕ → Type 0) (whole : (s : X) (p : List ℕ) → plan s p → Whole (wide s) p)
    → (a b : X) (calls : List Call) (before after : List (Result Reply SheetRefusal)) (i n : ℕ) (t : Table) → b ≡ a
    → n ≡ min (length calls) (length before) → i ≡ n
    → Sofar (wide b) (plan b) calls before after i (view (wide b) t)
    → Ran (wide a) (plan a) calls before after n (view (wide a) t)
ran wide plan whole a b calls before after i n t e m q o =
    subst (λ y. Ran (wide y) (plan y) calls before after n (view (wide y) t)) e
    (record {
      number = number calls before n h;
      same = o.same;
      rest = subst (λ x. drop x after ≡ drop x before) q o.rest;
      is_use = u;
      law = Law.kept (wide b) (plan b) (whole b) (reverse (happened calls after)) (view (wide b) t);
    })
  where
    h : (n ≤ length calls) × (n ≤ length before) × ((n ≡ length calls) ⊎ (n ≡ length before))
    h = (
      omega arith,
      omega arith,
      ⊎_elim (λ (l : length calls < length before). inl (omega arith)) (λ (l : length before ≤ length calls). inr (omega arith)) (cases_lt (length calls) (length before)),
    )

    end : (length calls ≤ i) ⊎ (length after ≤ i)
    end = ⊎_elim (λ (x : n ≡ length calls). inl (omega arith)) (λ (x : n ≡ length before). let s = o.same in inr (omega arith)) h.2

    u : Use (wide b) (plan b) (reverse (happened calls after)) (view (wide b) t)
    u = subst (λ es. Use (wide b) (plan b) (reverse es) (view (wide b) t)) (happened_all calls after i end) o.is_use
