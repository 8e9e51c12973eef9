-- The test for plans says what the definition says.
use Rattle.std.proofs.Common.{◌≡◌, ℕ, ◌<◌, Bool, true, false, not, ◌&&◌, refl, inl, inr}
use Rattle.std.proofs.Math.Option.{Option, some, none}
use Rattle.std.proofs.lemmas.Bool.{and_parts, and_from, not-true, not_from_false, both_ways, cases_lt}
use Rattle.closing.specs.Sets.{Within, subset, imp_to, imp_from, every_to, every_from, below_to, below_from, sets_to, sets_from}
use Rattle.stable.specs.Books.{negated, Rule, Book, rows, row, InReduct, Inside, Closed, IsPlan}
use Rattle.stable.specs.Decide.{on_head, in_reduct, inside, closed, is_plan}
use Rattle.stable.proofs.Bridge.{head_to, head_from}

pub bare_to : (o : Option ℕ) (b : Bool) → on_head o b (λ h. true) ≡ true → o ≡ none → b ≡ true
bare_to none b e p = e
bare_to (some g) b e p = absurd (cc)

pub bare_from : (o : Option ℕ) (b : Bool) → (o ≡ none → b ≡ true) → on_head o b (λ h. true) ≡ true
bare_from none b e = e refl
bare_from (some g) b e = refl

red_to : (X : ℕ → Bool) (r : Rule) → in_reduct X r ≡ true → InReduct X r
red_to X r h e m p = not-true _ (imp_to (negated e) _ (every_to _ r.body h e m) p)

red_from : (X : ℕ → Bool) (r : Rule) → InReduct X r → in_reduct X r ≡ true
red_from X r h = every_from _ r.body (λ e m. imp_from (negated e) _ (λ p. not_from_false _ (h e m p)))

ins_to : (Y : ℕ → Bool) (r : Rule) → inside Y r ≡ true → Inside Y r
ins_to Y r h e m p = imp_to (not (negated e)) _ (every_to _ r.body h e m) (not_from_false _ p)

ins_from : (Y : ℕ → Bool) (r : Rule) → Inside Y r → inside Y r ≡ true
ins_from Y r h = every_from _ r.body (λ e m. imp_from (not (negated e)) _ (λ p. h e m (not-true _ p)))

closed_to : (rb : Book) (X Y : ℕ → Bool) → closed rb X Y ≡ true → Closed rb X Y
closed_to rb X Y c i h l hd red ins =
    imp_to _ (Y h) (head_to (row rb i).head _ (below_to (rows rb) _ c i l) h hd) (and_from _ _ (red_from X (row rb i) red) (ins_from Y (row rb i) ins))

closed_from : (rb : Book) (X Y : ℕ → Bool) → Closed rb X Y → closed rb X Y ≡ true
closed_from rb X Y c = below_from (rows rb) _ (λ i l. head_from (row rb i).head _ (λ h hd. imp_from _ _ (λ b.
    c i h l hd (red_to X (row rb i) (and_parts _ _ b).0) (ins_to Y (row rb i) (and_parts _ _ b).1))))

sub_to : (n : ℕ) (X Y : ℕ → Bool) → subset n X Y ≡ true → (s : ℕ) → s < n → X s ≡ true → Y s ≡ true
sub_to n X Y h s l = imp_to (X s) (Y s) (below_to n _ h s l)

sub_from : (n : ℕ) (X Y : ℕ → Bool) → ((s : ℕ) → X s ≡ true → Y s ≡ true) → subset n X Y ≡ true
sub_from n X Y h = below_from n _ (λ s l. imp_from (X s) (Y s) (h s))

pub in_of_within : (n : ℕ) (X : ℕ → Bool) → Within n X → (s : ℕ) → X s ≡ true → s < n
in_of_within n X w s h = elim (cases_lt s n) [ inl a ↦ a | inr b ↦ absurd (both_ways (X s) (w s b) h) ]

-- PLANS

pub plan_to : (rb : Book) (X : ℕ → Bool) → Within rb.width X → is_plan rb X ≡ true → IsPlan rb X
plan_to rb X w h = record {
  closed = closed_to rb X X (and_parts _ _ (and_parts _ _ h).0).0;
  least = λ Y wy c s p. sub_to rb.width X Y (imp_to (closed rb X Y) _ (sets_to rb.width _ (and_parts _ _ (and_parts _ _ h).0).1 Y wy) (closed_from rb X Y c)) s (in_of_within _ X w s p) p;
  allowed = λ i l hd red ins. both_ways _ (not-true _ (bare_to (row rb i).head _ (below_to (rows rb) _ (and_parts _ _ h).1 i l) hd)) (and_from _ _ (red_from X (row rb i) red) (ins_from X (row rb i) ins));
}

pub plan_from : (rb : Book) (X : ℕ → Bool) → IsPlan rb X → is_plan rb X ≡ true
plan_from rb X h = and_from _ _ (and_from _ _
    (closed_from rb X X h.closed)
    (sets_from rb.width _ (λ Y wy. imp_from (closed rb X Y) _ (λ c. sub_from rb.width X Y (h.least Y wy (closed_to rb X Y c))))))
    (below_from (rows rb) _ (λ i l. bare_from (row rb i).head _ (λ hd. no_both _ _ (λ red ins. h.allowed i l hd (red_to X (row rb i) red) (ins_to X (row rb i) ins)))))
  where
    no_both : (a b : Bool) → (a ≡ true → b ≡ true → ⊥) → not (a && b) ≡ true
    no_both true true k = absurd (k refl refl)
    no_both true false k = refl
    no_both false true k = refl
    no_both false false k = refl
