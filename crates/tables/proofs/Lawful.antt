-- The law of reading, from its parts.
use Rattle.std.proofs.Common.{◌≡◌, ℕ, ◌<◌, ◌≤◌, Bool, true, false, cond, ◌||◌, ltb, leb, List, [], ◌∷◌, ◌++◌, length, take, Some, None, Ok, Err, Option, sym, refl, ap, ◌∙◌, subst, append_assoc, arith, ltb-false, leb-false}
use Rattle.std.proofs.lemmas.Bool.{cond_both, or_parts}
use Rattle.words.specs.Words.{Token, name, negation, arrow, comma, point}
use Rattle.words.specs.Running.{Running, more, ended, wrong, running}
use Rattle.words.specs.declared.Fault as Words
use Rattle.tables.specs.declared.Fault.{Fault}
use Rattle.tables.specs.declared.Cause.{Cause}
use Rattle.tables.specs.declared.Cause.TheVariants.{LongText, ThirdText, ShortTable}
use Rattle.tables.specs.declared.Phase.{Phase}
use Rattle.tables.specs.declared.Phase.TheVariants.{Start}
use Rattle.tables.specs.Only.{OnlyNew}
use Rattle.tables.specs.Feed.{Tables, Texts, Fed, on, off, new_row}
use Rattle.tables.specs.Reading.{run}
use Rattle.tables.specs.Grammar.{Spot, spot, spots, Rule, IsText}
use Rattle.tables.specs.Beginnings.{Ended, EndsAt, Begins}
use Rattle.tables.specs.Limits.{names_max, rules_max, entries_max}
use Rattle.tables.specs.Room.{used_in, none_known, also_known, new_names, rules_in, entries_in, known_in, Within, Fits}
use Rattle.tables.specs.Draft.{Counts, Outcome, line_of, owner_after, refused, refusal_of, short, texts_for, stage_from, settled, read_if, read_of}
use Rattle.tables.specs.Law.{WrittenAs, Means, Against, misplaced, no_name_row, no_entry_row, no_rule_row, FirstFault, at_word, at_end, at_no_word, Refuted, Reads}
use Rattle.tables.proofs.Owners.{owned}
use Rattle.tables.proofs.Ruled.{Ruled}
use Rattle.tables.proofs.Invariant.{Holds}
use Rattle.tables.proofs.OnlyNew.{New, only_new}
use Rattle.tables.proofs.Meanings.{On, text_means}
use Rattle.tables.proofs.Owning.{own_text, running_own}
use Rattle.tables.proofs.Walks.{onto, also, walk, walk_append, text_walks, viable, stuck, sound}
use Rattle.tables.proofs.Writes.{run_written}
use Rattle.tables.proofs.FirstUse.{known_is_used}
use Rattle.tables.proofs.Rooms as R
use Rattle.tables.proofs.Rooms.{Ready, FitsAt, After, Stops, Tells, run_tells}

-- a draft within its limits
pub record Limited (d : Counts) : Type 0 where
  pub names : d.names ≤ names_max
  pub rules : d.rules ≤ rules_max
  pub entries : d.entries ≤ entries_max

-- more words bring no fewer names, rules and entries
fewer : (limit size m n : ℕ) → m ≤ n → Within limit size n → Within limit size m
fewer limit size m n h w = let u = w.0 in let v = w.1 in (omega arith, omega arith)

module _ (x : Texts) where
  names_less : (us vs : List Spot) (known : List ℕ → Bool) → length (new_names x known us) ≤ length (new_names x known (us ++ vs))
  names_less [] vs known = omega arith
  names_less (spot (name b) k ∷ us) vs known =
      elim (known b) as (λ c. length (cond c (new_names x known us) (new_row x b k ∷ new_names x (also_known b known) us)) ≤ length (cond c (new_names x known (us ++ vs)) (new_row x b k ∷ new_names x (also_known b known) (us ++ vs))))
      [ true ↦ names_less us vs known | false ↦ (let h = names_less us vs (also_known b known) in omega arith) ]
  names_less (spot negation k ∷ us) vs known = names_less us vs known
  names_less (spot arrow k ∷ us) vs known = names_less us vs known
  names_less (spot comma k ∷ us) vs known = names_less us vs known
  names_less (spot point k ∷ us) vs known = names_less us vs known

rules_less : (us vs : List Spot) → rules_in us ≤ rules_in (us ++ vs)
rules_less [] vs = omega arith
rules_less (spot (name b) k ∷ us) vs = rules_less us vs
rules_less (spot negation k ∷ us) vs = rules_less us vs
rules_less (spot arrow k ∷ us) vs = rules_less us vs
rules_less (spot comma k ∷ us) vs = rules_less us vs
rules_less (spot point k ∷ us) vs = let h = rules_less us vs in omega arith

entries_less : (us vs : List Spot) (start : Bool) → entries_in start us ≤ entries_in start (us ++ vs)
entries_less [] vs start = omega arith
entries_less (spot (name b) k ∷ us) vs start = let h = entries_less us vs false in omega arith
entries_less (spot negation k ∷ us) vs start = entries_less us vs false
entries_less (spot arrow k ∷ us) vs start = entries_less us vs false
entries_less (spot comma k ∷ us) vs start = entries_less us vs false
entries_less (spot point k ∷ us) vs start = entries_less us vs true

not_both : (f : Words.Fault) (ws : Running) → Ended ws → EndsAt f ws → ⊥
not_both f (more k at ws) e g = not_both f ws e g
not_both f ended e g = g
not_both f (wrong h) e g = e

same_phase : (p q : Phase) → Some p ≡ Some q → p ≡ q
same_phase p q e = cc

begins : (us : List Spot) (q : Phase) → walk us Start ≡ Some q → Begins us
begins us q e = let v = viable us q e in record { vs = v.0; rules = v.1.rules; derives = v.1.derives }

walk_one : (us : List Spot) (p q : Phase) (k : Token) (j : ℕ) → walk us Start ≡ Some p → onto p k ≡ Some q → walk (us ++ (spot k j ∷ [])) Start ≡ Some q
walk_one us p q k j e f = walk_append us (spot k j ∷ []) Start ∙ ap (also (walk (spot k j ∷ []))) e ∙ ap (also (walk [])) f

module _ (x : Texts) (d : Counts) (t : Tables) where
  fits : (us : List Spot) → FitsAt x Start (stage_from d) t us → Fits x d t us
  fits us f = record { names = f.names; rules = f.rules; entries = f.entries }

  next_begins : (us : List Spot) (q o : Phase) (w : Spot) (k : Token) (j : ℕ) → w ≡ spot k j → walk us Start ≡ Some q → onto q k ≡ Some o → Begins (us ++ (w ∷ []))
  next_begins us q o w k j h e f = subst (λ v. Begins (us ++ (v ∷ []))) (sym h) (begins (us ++ (spot k j ∷ [])) o (walk_one us q o k j e f))

  against : (us : List Spot) (q : Phase) (w : Spot) (c : Cause) → walk us Start ≡ Some q → After x Start (stage_from d) t us q w c → Against x d t us w c
  against us q w c e (R.place k j h f) =
      misplaced (λ b. stuck us q k j e f b.vs b.rules (subst (λ l. IsText l b.rules) (append_assoc us (spot k j ∷ []) b.vs) (subst (λ v. IsText ((us ++ (v ∷ [])) ++ b.vs) b.rules) h b.derives)))
  against us q w c e (R.name_row o k j h f g) = no_name_row (next_begins us q o w k j h e f) g
  against us q w c e (R.entry_row o k j h f y g) = no_entry_row (next_begins us q o w k j h e f) y g
  against us q w c e (R.rule_row o k j h f g) = no_rule_row (next_begins us q o w k j h e f) g

  first_fault : (n : ℕ) (ws : Running) (c : Cause) (at : ℕ) → Stops x n Start (stage_from d) t ws c at → FirstFault x d t ws n c at
  first_fault n ws c at (R.at_word us k at' vs q c' parts walks f a) = at_word us k at' vs c' parts (begins us q walks) (fits us f) (against us q (spot k at') c' walks a)
  first_fault n ws c at (R.at_end q e walks h f) = at_end e (begins (spots ws) q walks) (λ rs g. h (same_phase q Start (sym walks ∙ text_walks g))) (fits (spots ws) f)
  first_fault n ws c at (R.at_no_word q f e walks g) = at_no_word f e (begins (spots ws) q walks) (fits (spots ws) g)

  -- rules that have their rows have no fault
  module _ (ws : Running) (n : ℕ) (rs : List Rule) (e : Ended ws) (g : IsText (spots ws) rs) (f : Fits x d t (spots ws)) where
    whole : (us : List Spot) (w : Spot) (vs : List Spot) → spots ws ≡ us ++ (w ∷ vs) → spots ws ≡ (us ++ (w ∷ [])) ++ vs
    whole us w vs p = p ∙ sym (append_assoc us (w ∷ []) vs)

    no_against : (us : List Spot) (w : Spot) (vs : List Spot) (c : Cause) → spots ws ≡ us ++ (w ∷ vs) → Against x d t us w c → ⊥
    no_against us w vs c p (misplaced h) = h (record { vs = vs; rules = rs; derives = subst (λ l. IsText l rs) (whole us w vs p) g })
    no_against us w vs c p (no_name_row b h) =
        h (fewer 512 _ _ _ (let z = names_less x (us ++ (w ∷ [])) vs (known_in x (take d.names t.names)) in omega (arith, ap (λ l. length (new_names x (known_in x (take d.names t.names)) l)) (whole us w vs p))) f.names)
    no_against us w vs c p (no_entry_row b y h) =
        h (fewer 8192 _ _ _ (let z = entries_less (us ++ (w ∷ [])) vs true in omega (arith, ap (entries_in true) (whole us w vs p))) f.entries)
    no_against us w vs c p (no_rule_row b h) =
        h (fewer 2048 _ _ _ (let z = rules_less (us ++ (w ∷ [])) vs in omega (arith, ap rules_in (whole us w vs p))) f.rules)

    no_fault : (c : Cause) (at : ℕ) → FirstFault x d t ws n c at → ⊥
    no_fault c at (at_word us k at' vs c' p b h a) = no_against us (spot k at') vs c' p a
    no_fault c at (at_end z b h y) = h rs g
    no_fault c at (at_no_word v z b y) = not_both v ws e z

module _ (d : Counts) (text earlier : List ℕ) (t : Tables) (l : Limited d) where
  abbrev X : Texts
  X = texts_for d.texts text earlier

  abbrev Ran : Fed
  Ran = run X (length text) (stage_from d) t (running text 0)

  enough : short d t ≡ false → Ready X (stage_from d) t
  enough e =
      let a = or_parts (ltb (length t.names) d.names) (ltb (length t.rules) d.rules || ltb (length t.entries) d.entries) e in
      let b = or_parts (ltb (length t.rules) d.rules) (ltb (length t.entries) d.entries) a.1 in
      record { names = (l.names, ltb-false _ _ a.0); rules = (l.rules, ltb-false _ _ b.0); entries = (l.entries, ltb-false _ _ b.1) }

  not_third : refusal_of d text t ≡ None → d.texts < 2
  not_third =
      cond_both (ltb 65536 (length text)) (Some LongText) _ (λ o. o ≡ None → d.texts < 2) (λ _ e. let z : ◌≡◌ {A = ℕ} 0 1 = cc in absurd (omega arith))
      (λ _. cond_both (leb 2 d.texts) (Some ThirdText) _ (λ o. o ≡ None → d.texts < 2) (λ _ e. let z : ◌≡◌ {A = ℕ} 0 1 = cc in absurd (omega arith)) (λ q _. leb-false _ _ q))

  not_short : refusal_of d text t ≡ None → short d t ≡ false
  not_short =
      cond_both (ltb 65536 (length text)) (Some LongText) _ (λ o. o ≡ None → short d t ≡ false) (λ _ e. let z : ◌≡◌ {A = ℕ} 0 1 = cc in absurd (omega arith))
      (λ _. cond_both (leb 2 d.texts) (Some ThirdText) _ (λ o. o ≡ None → short d t ≡ false) (λ _ e. let z : ◌≡◌ {A = ℕ} 0 1 = cc in absurd (omega arith))
      (λ _. cond_both (short d t) (Some ShortTable) None (λ o. o ≡ None → short d t ≡ false) (λ _ e. let z : ◌≡◌ {A = ℕ} 0 1 = cc in absurd (omega arith)) (λ q _. q)))

  module _ (r : Ready X (stage_from d) t) where
    tells : Tells X (length text) Start (stage_from d) t (running text 0) Ran
    tells = run_tells X (length text) (running text 0) (stage_from d) t (running_own text earlier d.texts) r

    means : (rs : List Rule) → WrittenAs text rs → On (Ruled X rs (stage_from d) t) Ran
    means rs i =
        subst (On (Ruled X rs (stage_from d) t)) (sym (run_written X (length text) (running text 0) rs i.ended i.derives (stage_from d) t refl))
        (text_means X rs (stage_from d) t (own_text X i.derives (running_own text earlier d.texts)) r.names.1 refl)

    said : (o : Fed) → Tells X (length text) Start (stage_from d) t (running text 0) o → ((rs : List Rule) → WrittenAs text rs → On (Ruled X rs (stage_from d) t) o)
        → (settled d text t o).result ≡ Ok tt → (rs : List Rule) × WrittenAs text rs × Fits X d t (spots (running text 0)) × Means d text earlier t rs (settled d text t o)
    said (on s t') y m e =
        let v = sound (spots (running text 0)) Start y.walks in
        let i : WrittenAs text v.rules = record { ended = y.ended; derives = v.derives } in
        let n = m v.rules i in
        (v.rules, i, fits X d t (spots (running text 0)) y.fits, record { texts = refl; new_rules = n.new_rules; new_entries = n.new_entries; says = n.mean; rules = n.rules; entries = n.entries; names = y.rows })
    said (off c at t') y m e = let z : ◌≡◌ {A = ℕ} 0 1 = cc in absurd (omega arith)

    taken_in : (o : Fed) → Tells X (length text) Start (stage_from d) t (running text 0) o → (rs : List Rule) → WrittenAs text rs → Fits X d t (spots (running text 0)) → (settled d text t o).result ≡ Ok tt
    taken_in (on s t') y rs i f = refl
    taken_in (off c at t') y rs i f = absurd (no_fault X d t (running text 0) (length text) rs i.ended i.derives f c at (first_fault X d t (length text) (running text 0) c at y))

    turned_away : d.texts < 2 → (o : Fed) → Tells X (length text) Start (stage_from d) t (running text 0) o → (f : Fault) → (settled d text t o).result ≡ Err f → Refuted d text earlier t f (settled d text t o)
    turned_away u (on s t') y f e = let z : ◌≡◌ {A = ℕ} 0 1 = cc in absurd (omega arith)
    turned_away u (off c at t') y f e =
        let g : f ≡ record { cause = c; text = owner_after d.texts; byte = at; line = line_of text at } = cc in
        subst (λ v. Refuted d text earlier t v (settled d text t (off c at t'))) (sym g)
        (record { first = first_fault X d t (length text) (running text 0) c at y; text_number = owned d.texts u; line = refl; counts = refl; tables = refl })

    -- after the region's text, what is known is what is used in it
    goes_on : d.texts ≡ 1 → take d.names t.names ≡ new_names (texts_for 0 earlier []) none_known (spots (running earlier 0)) → (o : Outcome)
        → ((rs : List Rule) × WrittenAs text rs × Fits X d t (spots (running text 0)) × Means d text earlier t rs o)
        → take o.counts.names o.tables.names ≡ new_names (texts_for 0 earlier []) none_known (spots (running earlier 0)) ++ new_names (texts_for 1 text earlier) (used_in (spots (running earlier 0))) (spots (running text 0))
    goes_on e f o m =
        m.3.names
        ∙ (λ i. f i ++ new_names (texts_for (e i) text earlier) (known_in (texts_for (e i) text earlier) (f i)) (spots (running text 0)))
        ∙ ap (λ k. new_names (texts_for 0 earlier []) none_known (spots (running earlier 0)) ++ new_names (texts_for 1 text earlier) k (spots (running text 0))) (λ i c. known_is_used earlier text c i)

    says_new : (o : Fed) → Holds (New d t) o → (settled d text t o).result ≡ Ok tt → OnlyNew d (settled d text t o).counts t (settled d text t o).tables
    says_new (on s t') h e = record { names = h.names; rules = h.rules; entries = h.entries }
    says_new (off c at t') h e = let z : ◌≡◌ {A = ℕ} 0 1 = cc in absurd (omega arith)

  accepted : (o : Option Cause) → refusal_of d text t ≡ o → Reads d text earlier t (read_if d text earlier t o)
  accepted (Some c) e = record {
    unread = λ c' h. let k : c ≡ c' = cc in ap (λ v. refused v d t) k;
    granted = λ h. let z : ◌≡◌ {A = ℕ} 0 1 = cc in absurd (omega arith);
    accepts = λ h. let z : ◌≡◌ {A = ℕ} 0 1 = cc in absurd (omega arith);
    refuted = λ h. let z : ◌≡◌ {A = ℕ} 0 1 = cc in absurd (omega arith);
    onward = λ u f h. let z : ◌≡◌ {A = ℕ} 0 1 = cc in absurd (omega arith);
    fresh = λ h. let z : ◌≡◌ {A = ℕ} 0 1 = cc in absurd (omega arith);
  }
  accepted None e =
      let r = enough (not_short e) in
      record {
        unread = λ c' h. let z : ◌≡◌ {A = ℕ} 0 1 = cc in absurd (omega arith);
        granted = said r Ran (tells r) (means r);
        accepts = λ h. taken_in r Ran (tells r);
        refuted = λ h. turned_away r (not_third e) Ran (tells r);
        onward = λ u f h. goes_on r u f (settled d text t Ran) (said r Ran (tells r) (means r) h);
        fresh = says_new r Ran (only_new d t X (length text) (running text 0) r.names.1 r.rules.1 r.entries.1);
      }

  pub lawful : Reads d text earlier t (read_of d text earlier t)
  lawful = accepted (refusal_of d text t) refl

-- what is as reading gives it is lawful
pub lawful_as : (d : Counts) (text earlier : List ℕ) (t : Tables) (o : Outcome) → Limited d → o ≡ read_of d text earlier t → Reads d text earlier t o
lawful_as d text earlier t o l e = subst (Reads d text earlier t) (sym e) (lawful d text earlier t l)
