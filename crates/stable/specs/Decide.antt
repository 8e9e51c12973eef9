-- The definitions of rulebooks again, as tests that compute: the five rules as rules that force decisions, and plans by running through all sets.
use Rattle.std.specs.Prelude.{ℕ, ◌+◌, ◌-◌, ◌*◌, Bool, true, false, cond, not, ◌&&◌, ◌||◌, List, length, ◌==◌, nat_eq, nat_lt}
use Rattle.std.proofs.Math.Option.{Option, some, none}
use Rattle.closing.specs.Sets.{contrary, holds, imp, every, below, all_sets, subset}
use Rattle.closing.specs.Forces.{Forces}
use Rattle.stable.specs.Books.{stmt, negated, Rule, Book, rows, row}

-- the head, if there is one, passes the test
abbrev pub on_head : Option ℕ → Bool → (ℕ → Bool) → Bool
on_head none b f = b
on_head (some h) b f = f h

-- an entry of the body is contradicted
abbrev pub cancelled : (ℕ → Bool) → Rule → Bool
cancelled D r = not (every (λ e. not (D (contrary e))) r.body)

-- each rule with its head in U is cancelled or has a plain entry in U
abbrev pub unfounded : Book → (ℕ → Bool) → (ℕ → Bool) → Bool
unfounded rb D U =
    below (rows rb) (λ i. on_head (row rb i).head true (λ h.
    imp (U h) (cancelled D (row rb i) || not (every (λ e. negated e || not (U (stmt e))) (row rb i).body))))

-- the rule has the head s
abbrev pub heads : ℕ → Rule → Bool
heads s r = on_head r.head false (λ h. nat_eq h s)

-- some number below n passes
abbrev pub some_below : ℕ → (ℕ → Bool) → Bool
some_below n f = not (below n (λ k. not (f k)))

-- some element passes
abbrev pub some_in : (ℕ → Bool) → List ℕ → Bool
some_in f xs = not (every (λ e. not (f e)) xs)

-- forward: the head of a body that holds. contraposition: where the head fails or is missing, the contrary of the one entry left
abbrev pub row_forces : Rule → (ℕ → Bool) → ℕ → Bool
row_forces r D e =
    on_head r.head false (λ h. (e == 2 * h) && every D r.body) ||
    (on_head r.head true (λ h. D (2 * h + 1)) && some_in (λ f. (e == contrary f) && every (λ g. (g == f) || D g) r.body) r.body)

-- all cancelled: not s, where all its rules are cancelled
abbrev pub all_cancelled : Book → ℕ → (ℕ → Bool) → Bool
all_cancelled rb s D = below (rows rb) (λ i. imp (heads s (row rb i)) (cancelled D (row rb i)))

-- backchain: where s holds, the entries of the one rule left
abbrev pub others_cancelled : Book → ℕ → ℕ → (ℕ → Bool) → Bool
others_cancelled rb s i D = below (rows rb) (λ j. imp (not (j == i) && heads s (row rb j)) (cancelled D (row rb j)))

-- i is the one rule left for s, and has the entry e
abbrev pub only_row : Book → ℕ → (ℕ → Bool) → ℕ → ℕ → Bool
only_row rb s D e i = heads s (row rb i) && (others_cancelled rb s i D && some_in (λ f. nat_eq f e) (row rb i).body)

-- all cancelled and backchain, for the statement s
abbrev pub statement_forces : Book → ℕ → (ℕ → Bool) → ℕ → Bool
statement_forces rb s D e = (e == 2 * s + 1 && all_cancelled rb s D) || (D (2 * s) && some_below (rows rb) (only_row rb s D e))

-- unfounded: not s, where an unfounded set has s
abbrev pub unfounded_forces : Book → (ℕ → Bool) → ℕ → Bool
unfounded_forces rb D e = negated e && not (all_sets rb.width (λ U. not (unfounded rb D U && U (stmt e))))

-- a headless rule with an empty body
abbrev pub empties : Rule → Bool
empties r = on_head r.head (length r.body == 0) (λ h. false)

-- a value for each of the three kinds
abbrev pub kind : {A : Type 0} → Book → ℕ → A → A → A → A
kind rb k x y z = cond (nat_lt k (rows rb)) x (cond (nat_lt k (rows rb + rb.width)) y z)

-- the five rules as rules that force decisions, row by row, statement by statement, and one for all unfounded sets
abbrev pub book_forces : Book → Forces
book_forces rb = record {
  width = rb.width;
  many = rows rb + rb.width + 1;
  force = λ k D e. kind rb k (row_forces (row rb k) D e) (statement_forces rb (k - rows rb) D e) (unfounded_forces rb D e);
  bar = λ k D. kind rb k (empties (row rb k)) (D (2 * (k - rows rb)) && D (2 * (k - rows rb) + 1)) false;
}

-- PLANS

-- the reduct by X keeps the rule
abbrev pub in_reduct : (ℕ → Bool) → Rule → Bool
in_reduct X r = every (λ e. imp (negated e) (not (X (stmt e)))) r.body

-- the plain entries of the body lie inside Y
abbrev pub inside : (ℕ → Bool) → Rule → Bool
inside Y r = every (λ e. imp (not (negated e)) (Y (stmt e))) r.body

-- Y is closed under the headed rules of the reduct by X
abbrev pub closed : Book → (ℕ → Bool) → (ℕ → Bool) → Bool
closed rb X Y = below (rows rb) (λ i. on_head (row rb i).head true (λ h. imp (in_reduct X (row rb i) && inside Y (row rb i)) (Y h)))

-- X is the least set closed under the reduct's headed rules, and no headless rule of the reduct has its body inside X
abbrev pub is_plan : Book → (ℕ → Bool) → Bool
is_plan rb X =
    closed rb X X && all_sets rb.width (λ Y. imp (closed rb X Y) (subset rb.width X Y)) &&
    below (rows rb) (λ i. on_head (row rb i).head (not (in_reduct X (row rb i) && inside X (row rb i))) (λ h. true))

-- the same of a row of bytes
abbrev pub is_plan_row : Book → List ℕ → Bool
is_plan_row rb p = is_plan rb (λ s. holds p (2 * s))
