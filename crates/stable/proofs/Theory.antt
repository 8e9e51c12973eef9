use Rattle.std.proofs.Common.{◌≡◌, ℕ, ◌+◌, ◌*◌, ◌%◌, ◌<◌, Bool, true, false, cond, not, ◌&&◌, eqb, ◌≢◌, ◌⊎◌, List, [], ◌∷◌, sym, refl, ap, ◌∙◌, subst, inl, inr, arith}
use Rattle.std.proofs.Math.Option.{Option, some, none}
use Rattle.std.proofs.lemmas.Bool.{eqb-true, eqb-false, cases_Bool, cases_eq, and_parts, and_from, not-true, not_from_false, not-false, both_ways, cases_lt, and_left, ne_eqb, eq-eqb, cond-true, cond-false}
use Rattle.closing.specs.Sets.{contrary, In, Within, move, every_or}
use Rattle.stable.specs.Books.{stmt, negated, Rule, Book, rows, row, Sound, InReduct, Inside, Closed, IsPlan, Cancelled, HeadFails, Unfounded, Kept, Total, holding, Bodiless}
use Rattle.stable.specs.Laws.{PlansAreKept, KeptArePlans}

-- codes
pub plain_code : (e : ℕ) → negated e ≡ false → e ≡ 2 * stmt e
plain_code e h = let k = eqb-false (e % 2) 1 h in omega arith

pub not_code : (e : ℕ) → negated e ≡ true → e ≡ 2 * stmt e + 1
not_code e h = let k = eqb-true (e % 2) 1 h in omega arith

contrary_plain : (e : ℕ) → negated e ≡ false → contrary e ≡ 2 * stmt e + 1
contrary_plain e h = let k = eqb-false (e % 2) 1 h in omega arith

contrary_not : (e : ℕ) → negated e ≡ true → contrary e ≡ 2 * stmt e
contrary_not e h = let k = eqb-true (e % 2) 1 h in omega arith

pub contrary_twice : (s : ℕ) → contrary (2 * s) ≡ 2 * s + 1
contrary_twice s = omega arith

pub contrary_twice_1 : (s : ℕ) → contrary (2 * s + 1) ≡ 2 * s
contrary_twice_1 s = omega arith

module _ (rb : Book) (sound : Sound rb) (D : ℕ → Bool) (whole : Total rb.width D) where
  fails_else : (s : ℕ) → s < rb.width → D (2 * s) ≡ false → D (2 * s + 1) ≡ true
  fails_else s l h = elim (whole.total (2 * s) (omega arith)) [
    | inl p ↦ absurd (both_ways _ h p)
    | inr p ↦ move D _ _ (contrary_twice s) p
  ]

  not_both : (s : ℕ) → D (2 * s) ≡ true → D (2 * s + 1) ≡ true → ⊥
  not_both s p q = whole.consistent (2 * s) p (move D _ _ (sym (contrary_twice s)) q)

  -- the decided statements' body: it holds as a whole, or as the reduct sees it
  body_holds : (i : ℕ) → i < rows rb → InReduct (holding D) (row rb i) → Inside (holding D) (row rb i) →
      (e : ℕ) → In e (row rb i).body → D e ≡ true
  body_holds i l red ins e m = elim (cases_Bool (negated e)) [
    | inl p ↦ move D _ _ (sym (not_code e p)) (fails_else (stmt e) (let b = sound.entries i e l m in omega arith) (red e m p))
    | inr p ↦ move D _ _ (sym (plain_code e p)) (ins e m p)
  ]

  in_reduct_lem : (r : Rule) → ((e : ℕ) → In e r.body → D e ≡ true) → InReduct (holding D) r
  in_reduct_lem r all e m p = elim (cases_Bool (D (2 * stmt e))) [
    | inl q ↦ absurd (whole.consistent e (all e m) (move D _ _ (sym (contrary_not e p)) q))
    | inr q ↦ q
  ]

  inside : (r : Rule) → ((e : ℕ) → In e r.body → D e ≡ true) → Inside (holding D) r
  inside r all e m p = move D _ _ (plain_code e p) (all e m)

  -- every plan's decisions are kept by the five rules
  module _ (plan : IsPlan rb (holding D)) where
    s_forward : (i h : ℕ) → i < rows rb → (row rb i).head ≡ some h → ((e : ℕ) → In e (row rb i).body → D e ≡ true) → D (2 * h) ≡ true
    s_forward i h l hd all = plan.closed i h l hd (in_reduct_lem (row rb i) all) (inside (row rb i) all)

    s_contraposition : (i e : ℕ) → i < rows rb → HeadFails D (row rb i).head → In e (row rb i).body →
        ((f : ℕ) → In f (row rb i).body → f ≢ e → D f ≡ true) → D (contrary e) ≡ true
    s_contraposition i e l hf m others = elim (whole.total e (sound.entries i e l m)) [
      | inr p ↦ p
      | inl p ↦ absurd (go p (row rb i).head refl hf)
    ]
      where
        all : D e ≡ true → (f : ℕ) → In f (row rb i).body → D f ≡ true
        all p f mf = elim (cases_eq f e) [ inl q ↦ move D _ _ (sym q) p | inr q ↦ others f mf q ]

        go : D e ≡ true → (o : Option ℕ) → (row rb i).head ≡ o → HeadFails D o → ⊥
        go p none hd u = plan.allowed i l hd (in_reduct_lem (row rb i) (all p)) (inside (row rb i) (all p))
        go p (some h) hd u = not_both h (s_forward i h l hd (all p)) u

    s_unfounded_fails : (U : ℕ → Bool) → Within rb.width U → Unfounded rb D U → (s : ℕ) → U s ≡ true → D (2 * s + 1) ≡ true
    s_unfounded_fails U wu unf s us = elim (cases_Bool (D (2 * s))) [
      | inr q ↦ fails_else s in_width q
      | inl q ↦ absurd (both_ways (U s) (not-true (U s) (and_parts (D (2 * s)) (not (U s)) (plan.least Y wy closed s q)).1) us)
    ]
      where
        in_width : s < rb.width
        in_width = elim (cases_lt s rb.width) [ inl a ↦ a | inr b ↦ absurd (both_ways (U s) (wu s b) us) ]

        Y : ℕ → Bool
        Y t = D (2 * t) && not (U t)

        wy : Within rb.width Y
        wy t le = and_left (D (2 * t)) (not (U t)) (whole.within (2 * t) (omega arith))

        closed : Closed rb (holding D) Y
        closed i h l hd red ins = and_from (D (2 * h)) (not (U h)) xh (elim (cases_Bool (U h)) [
          | inr q ↦ not_from_false (U h) q
          | inl q ↦ absurd (out (unf i h l hd q))
        ])
          where
            ins_x : Inside (holding D) (row rb i)
            ins_x e m p = (and_parts (D (2 * stmt e)) (not (U (stmt e))) (ins e m p)).0

            xh : D (2 * h) ≡ true
            xh = plan.closed i h l hd red ins_x

            out : Cancelled D (row rb i) ⊎ ((e : ℕ) × In e (row rb i).body × (negated e ≡ false) × (U (stmt e) ≡ true)) → ⊥
            out (inl c) = whole.consistent c.0 (body_holds i l red ins_x c.0 c.1) c.2
            out (inr c) = both_ways (U (stmt c.0)) (not-true _ (and_parts (D (2 * stmt c.0)) (not (U (stmt c.0))) (ins c.0 c.1 c.2)).1) c.3

    s_all_cancelled : (s : ℕ) → s < rb.width → ((i : ℕ) → i < rows rb → (row rb i).head ≡ some s → Cancelled D (row rb i)) → D (2 * s + 1) ≡ true
    s_all_cancelled s l all = s_unfounded_fails (λ t. eqb t s) (λ t le. ne_eqb t s (λ p. omega arith))
        (λ i h li hd uh. inl (all i li (hd ∙ ap some (eqb-true h s uh)))) s (eq-eqb s s refl)

    s_backchain : (i s : ℕ) → i < rows rb → (row rb i).head ≡ some s → D (2 * s) ≡ true →
        ((j : ℕ) → j < rows rb → j ≢ i → (row rb j).head ≡ some s → Cancelled D (row rb j)) →
        (e : ℕ) → In e (row rb i).body → D e ≡ true
    s_backchain i s l hd ds others e m = elim (whole.total e (sound.entries i e l m)) [
      | inl p ↦ p
      | inr p ↦ absurd (not_both s ds (s_all_cancelled s (sound.heads i s l hd) (λ j lj hj. elim (cases_eq j i) [
        | inl q ↦ (e, subst (λ k. In e (row rb k).body) (sym q) m, p)
        | inr q ↦ others j lj q hj
      ])))
    ]

    plan_kept : Kept rb D
    plan_kept = record { forward = s_forward; contraposition = s_contraposition; all_cancelled = s_all_cancelled; backchain = s_backchain; unfounded_fails = s_unfounded_fails }

  -- a whole set that the five rules keep is a plan's
  module _ (kept : Kept rb D) (no-bar : Bodiless rb → ⊥) where
    w_closed : Closed rb (holding D) (holding D)
    w_closed i h l hd red ins = kept.forward i h l hd (body_holds i l red ins)

    w_least : (Y : ℕ → Bool) → Within rb.width Y → Closed rb (holding D) Y → (s : ℕ) → D (2 * s) ≡ true → Y s ≡ true
    w_least Y wy closed s xs = elim (cases_Bool (Y s)) [
      | inl q ↦ q
      | inr q ↦ absurd (not_both s xs (kept.unfounded_fails U wu unf s (and_from (D (2 * s)) (not (Y s)) xs (not_from_false (Y s) q))))
    ]
      where
        U : ℕ → Bool
        U t = D (2 * t) && not (Y t)

        wu : Within rb.width U
        wu t le = and_left (D (2 * t)) (not (Y t)) (whole.within (2 * t) (omega arith))

        unf : Unfounded rb D U
        unf i h l hd uh = elim (every_or test (row rb i).body) [ inl all ↦ absurd (none_left all) | inr c ↦ found c.0 c.1 c.2 ]
          where
            test : ℕ → Bool
            test e = cond (negated e) (not (D (2 * stmt e))) (Y (stmt e))

            none_left : ((e : ℕ) → In e (row rb i).body → test e ≡ true) → ⊥
            none_left all = both_ways (Y h) (not-true (Y h) (and_parts (D (2 * h)) (not (Y h)) uh).1) (closed i h l hd
                (λ e m p. not-true _ (sym (cond-true (negated e) _ (Y (stmt e)) p) ∙ all e m))
                (λ e m p. sym (cond-false (negated e) (not (D (2 * stmt e))) _ p) ∙ all e m))

            found : (e : ℕ) → In e (row rb i).body → test e ≡ false →
                Cancelled D (row rb i) ⊎ ((e : ℕ) × In e (row rb i).body × (negated e ≡ false) × (U (stmt e) ≡ true))
            found e m t = elim (cases_Bool (negated e)) [
              | inl p ↦ inl (e, m, move D _ _ (sym (contrary_not e p)) (not-false _ (sym (cond-true (negated e) _ (Y (stmt e)) p) ∙ t)))
              | inr p ↦ elim (cases_Bool (D (2 * stmt e))) [
                | inl q ↦ inr (e, m, p, and_from (D (2 * stmt e)) (not (Y (stmt e))) q (not_from_false _ (sym (cond-false (negated e) (not (D (2 * stmt e))) _ p) ∙ t)))
                | inr q ↦ inl (e, m, move D _ _ (sym (contrary_plain e p)) (fails_else (stmt e) (let b = sound.entries i e l m in omega arith) q))
              ]
            ]

    w_allowed : (i : ℕ) → i < rows rb → (row rb i).head ≡ none → InReduct (holding D) (row rb i) → Inside (holding D) (row rb i) → ⊥
    w_allowed i l hd red ins = go (row rb i).body refl
      where
        all : (e : ℕ) → In e (row rb i).body → D e ≡ true
        all = body_holds i l red ins

        go : (b : List ℕ) → (row rb i).body ≡ b → ⊥
        go [] p = no-bar (i, l, hd, p)
        go (x ∷ xs) p = whole.consistent x (all x m) (kept.contraposition i x l (subst (HeadFails D) (sym hd) tt) m (λ f mf ne. all f mf))
          where
            m : In x (row rb i).body
            m = subst (In x) (sym p) (inl refl)

    kept_plan : IsPlan rb (holding D)
    kept_plan = record { closed = w_closed; least = w_least; allowed = w_allowed }

pub plans_are_kept : PlansAreKept
plans_are_kept rb sound D whole plan = plan_kept rb sound D whole plan

pub kept_are_plans : KeptArePlans
kept_are_plans rb sound D whole kept no-bar = kept_plan rb sound D whole kept no-bar
