-- Reading counts what its words bring, and stops where that finds no row.
use Rattle.std.proofs.Common.{◌≡◌, ℕ, ◌+◌, ◌-◌, ◌*◌, ◌<◌, ◌≤◌, Bool, true, false, ◌||◌, leb, ◌⊎◌, List, [], ◌∷◌, ◌++◌, length, take, set, is_some, Some, None, Option, sym, refl, ap, ◌∙◌, subst, inl, inr, ⊎_elim, append_assoc, append-nil, arith, length-append, leb-false, leb-true}
use Rattle.std.proofs.lemmas.List.{length-set, length-take-le}
use Rattle.std.proofs.lemmas.Bool.{cond_both, cond-true, cond-false, or_parts}
use Rattle.words.specs.Words.{Token, name, negation, arrow, comma, point}
use Rattle.words.specs.Running.{Running, more, ended, wrong}
use Rattle.words.specs.declared.Fault as Words
use Rattle.tables.specs.declared.NameRow.{NameRow}
use Rattle.tables.specs.declared.Cause.{Cause}
use Rattle.tables.specs.declared.Cause.TheVariants.{OutOfPlace, NoNameRow, NoEntryRow, NoRuleRow}
use Rattle.tables.specs.declared.Phase.{Phase}
use Rattle.tables.specs.declared.Phase.TheVariants.{Start, AfterHead, WantEntry, WantName, AfterEntry}
use Rattle.tables.specs.Names.{found}
use Rattle.tables.specs.Feed.{Stage, Tables, Texts, Fed, on, off, full, new_row, number_from, with_number, numbered, headed, entered_as, closed, feed_in, feed, finished_in}
use Rattle.tables.specs.Reading.{stop_of, carry, run}
use Rattle.tables.specs.Grammar.{Spot, spot, spots}
use Rattle.tables.specs.Beginnings.{Ended, EndsAt}
use Rattle.tables.specs.Room.{known_in, new_names, rules_in, entries_in, Within, NamesFit, RulesFit, EntriesFit}
use Rattle.tables.proofs.Walks.{onto, also, walk}
use Rattle.tables.proofs.Agrees.{Agrees, feed_agrees}
use Rattle.tables.proofs.Meanings.{pushed}
use Rattle.tables.proofs.Owning.{Named, OwnSpot, OwnSpots}
use Rattle.tables.proofs.Knowing.{known_more}

-- whether a name would be a head
abbrev pub is_start : Phase → Bool
is_start Start = true
is_start AfterHead = false
is_start WantEntry = false
is_start WantName = false
is_start AfterEntry = false

-- a table has more rows than are counted
has : (limit size n : ℕ) → full limit size n ≡ false → Within limit size (n + 1)
has limit size n e =
    let q = or_parts (leb limit n) (leb size n) e in
    let a = leb-false limit n q.0 in
    let b = leb-false size n q.1 in
    (omega arith, omega arith)

either : (a b : Bool) → (a || b) ≡ true → (a ≡ true) ⊎ (b ≡ true)
either true b e = inl refl
either false b e = inr e

-- none is left
hasnt : (limit size n : ℕ) → full limit size n ≡ true → Within limit size (n + 1) → ⊥
hasnt limit size n e w =
    ⊎_elim (λ a. let h = leb-true limit n a in let v = w.0 in omega arith) (λ a. let h = leb-true size n a in let v = w.1 in omega arith) (either (leb limit n) (leb size n) e)

module _ (x : Texts) where
  -- the rows of the names counted, and the names that they have
  abbrev pub rows_at : Stage → Tables → List NameRow
  rows_at s t = take s.names t.names

  abbrev pub KnownAt : Stage → Tables → List ℕ → Bool
  KnownAt s t = known_in x (rows_at s t)

  abbrev pub NamesFitAt : Stage → Tables → List Spot → Type 0
  NamesFitAt s t us = NamesFit x (KnownAt s t) (length t.names) s.names us

  -- the counts are within the limits and the tables
  pub record Ready (s : Stage) (t : Tables) : Type 0 where
    pub names : Within 512 (length t.names) s.names
    pub rules : Within 2048 (length t.rules) s.rules
    pub entries : Within 8192 (length t.entries) s.entries

  -- the same with what words bring; p is the phase
  pub record FitsAt (p : Phase) (s : Stage) (t : Tables) (us : List Spot) : Type 0 where
    pub names : NamesFitAt s t us
    pub rules : RulesFit (length t.rules) s.rules us
    pub entries : EntriesFit (is_start p) (length t.entries) s.entries us

  -- a name has been numbered: c names are counted, and `rows` is the table
  record Numbered (s : Stage) (t : Tables) (w : Spot) (c : ℕ) (rows : List NameRow) : Type 0 where
    ahead : (us : List Spot) → take c rows ++ new_names x (known_in x (take c rows)) us ≡ rows_at s t ++ new_names x (KnownAt s t) (w ∷ us)
    size : length rows ≡ length t.names
    room : Within 512 (length rows) c

  abbrev with_count : ℕ → Stage → Stage
  with_count c s = record { phase = s.phase; head = s.head; first = s.first; names = c; rules = s.rules; entries = s.entries }

  abbrev with_rows : List NameRow → Tables → Tables
  with_rows l t = record { names = l; rules = t.rules; entries = t.entries }

  module _ (Q : Fed → Type 0) (b : List ℕ) (k : ℕ) (f : ℕ → Stage → Tables → Fed) (s : Stage) (t : Tables) (o : Named x b k) (r : Within 512 (length t.names) s.names) where
    known_as : (o : Option ℕ) → found x.region x.harbour b 0 (rows_at s t) ≡ o → KnownAt s t b ≡ is_some o
    known_as o e = ap is_some e

    old_name : (n : ℕ) → found x.region x.harbour b 0 (rows_at s t) ≡ Some n → Numbered s t (spot (name b) k) s.names t.names
    old_name n e = record { ahead = λ us. ap (λ l. rows_at s t ++ l) (sym (cond-true (KnownAt s t b) (new_names x (KnownAt s t) us) _ (known_as (Some n) e))); size = refl; room = r }

    new_name : found x.region x.harbour b 0 (rows_at s t) ≡ None → full 512 (length t.names) s.names ≡ false → Numbered s t (spot (name b) k) (s.names + 1) (set t.names s.names (new_row x b k))
    new_name e q =
        let h = has 512 (length t.names) s.names q in
        let l : s.names < length t.names = (let v = h.1 in omega arith) in
        let p = pushed t.names s.names (new_row x b k) l in
        let m = length-set t.names s.names (new_row x b k) in
        record {
          ahead = λ us. (λ i. p i ++ new_names x ((ap (known_in x) p ∙ known_more x (rows_at s t) b k o) i) us)
              ∙ append_assoc (rows_at s t) (new_row x b k ∷ []) _
              ∙ ap (λ l. rows_at s t ++ l) (sym (cond-false (KnownAt s t b) (new_names x (KnownAt s t) us) _ (known_as None e)));
          size = m;
          room = (h.0, let v = h.1 in omega arith);
        }

    no_name : found x.region x.harbour b 0 (rows_at s t) ≡ None → full 512 (length t.names) s.names ≡ true → NamesFitAt s t (spot (name b) k ∷ []) → ⊥
    no_name e q w =
        hasnt 512 (length t.names) s.names q
        (subst (λ l. Within 512 (length t.names) (s.names + length l)) (cond-false (KnownAt s t b) [] (new_row x b k ∷ []) (known_as None e)) w)

    by_number : ((n c : ℕ) (rows : List NameRow) → Numbered s t (spot (name b) k) c rows → Q (f n (with_count c s) (with_rows rows t)))
        → ((NamesFitAt s t (spot (name b) k ∷ []) → ⊥) → Q (off NoNameRow k t))
        → Q (numbered x b k f s t)
    by_number h g = go (found x.region x.harbour b 0 (rows_at s t)) refl
      where
        go : (o : Option ℕ) → found x.region x.harbour b 0 (rows_at s t) ≡ o → Q (with_number k f s t (number_from x b k s.names t.names o))
        go (Some n) e = h n s.names t.names (old_name n e)
        go None e =
            cond_both (full 512 (length t.names) s.names) _ _ (λ n. Q (with_number k f s t n)) (λ q. g (no_name e q))
            (λ q. h s.names (s.names + 1) (set t.names s.names (new_row x b k)) (new_name e q))

  -- what one word w does in phase p: reading goes on, and what comes after is counted as before with w
  record Goes (p : Phase) (s : Stage) (t : Tables) (w : Spot) (s' : Stage) (t' : Tables) : Type 0 where
    ahead : (us : List Spot) → rows_at s' t' ++ new_names x (KnownAt s' t') us ≡ rows_at s t ++ new_names x (KnownAt s t) (w ∷ us)
    rules : (us : List Spot) → s'.rules + rules_in us ≡ s.rules + rules_in (w ∷ us)
    entries : (us : List Spot) → s'.entries + entries_in (is_start s'.phase) us ≡ s.entries + entries_in (is_start p) (w ∷ us)
    names_size : length t'.names ≡ length t.names
    rules_size : length t'.rules ≡ length t.rules
    entries_size : length t'.entries ≡ length t.entries
    ready : Ready s' t'

  -- or why it is refused
  data Refuses (p : Phase) (s : Stage) (t : Tables) (w : Spot) : Cause → Type 0 where
    place : (k : Token) (j : ℕ) → w ≡ spot k j → onto p k ≡ None → Refuses p s t w OutOfPlace
    name_row : (NamesFitAt s t (w ∷ []) → ⊥) → Refuses p s t w NoNameRow
    entry_row : NamesFitAt s t (w ∷ []) → (EntriesFit (is_start p) (length t.entries) s.entries (w ∷ []) → ⊥) → Refuses p s t w NoEntryRow
    rule_row : (RulesFit (length t.rules) s.rules (w ∷ []) → ⊥) → Refuses p s t w NoRuleRow

  abbrev Stepped : Phase → Stage → Tables → Spot → ℕ → Fed → Type 0
  Stepped p s t w at (on s' t') = Goes p s t w s' t'
  Stepped p s t w at (off c j t') = Refuses p s t w c × (j ≡ at)

  -- the rows counted are as many as the names
  counted : (n : ℕ) (rows news : List NameRow) → n ≤ length rows → length (take n rows ++ news) ≡ n + length news
  counted n rows news h = length-append (take n rows) news ∙ ap (λ k. k + length news) (length-take-le n rows h)

  fits_one : (s : Stage) (t : Tables) (w : Spot) (c : ℕ) (rows : List NameRow) → Ready s t → Numbered s t w c rows → NamesFitAt s t (w ∷ [])
  fits_one s t w c rows r n =
      let a = counted c rows [] n.room.1 in
      let b = counted s.names t.names (new_names x (KnownAt s t) (w ∷ [])) r.names.1 in
      let e = ap length (n.ahead []) in
      let u = n.room.0 in
      let v = n.room.1 in
      let z = n.size in
      (omega arith, omega arith)

  module _ (s : Stage) (t : Tables) (r : Ready s t) where
    head_steps : (b : List ℕ) (k : ℕ) → Named x b k → Stepped Start s t (spot (name b) k) k (numbered x b k headed s t)
    head_steps b k o =
        by_number (Stepped Start s t (spot (name b) k) k) b k headed s t o r.names
        (λ n c rows y. record { ahead = y.ahead; rules = λ us. refl; entries = λ us. omega arith; names_size = y.size; rules_size = refl; entries_size = refl; ready = record { names = y.room; rules = r.rules; entries = r.entries } })
        (λ g. (name_row g, refl))

    entry_steps : (p : Phase) (b : List ℕ) (k sign : ℕ) → Named x b k → ((us : List Spot) → 1 + entries_in false us ≡ entries_in (is_start p) (spot (name b) k ∷ us)) → Stepped p s t (spot (name b) k) k (numbered x b k (entered_as k sign) s t)
    entry_steps p b k sign o one =
        by_number (Stepped p s t (spot (name b) k) k) b k (entered_as k sign) s t o r.names
        (λ n c rows y. cond_both (full 8192 (length t.entries) s.entries) _ _ (Stepped p s t (spot (name b) k) k)
        (λ q. (entry_row (fits_one s t (spot (name b) k) c rows r y) (λ w. hasnt 8192 (length t.entries) s.entries q (subst (λ m. Within 8192 (length t.entries) (s.entries + m)) (sym (one [])) w)), refl))
        (λ q. let h = has 8192 (length t.entries) s.entries q in
        let m = length-set t.entries s.entries (2 * n + sign) in
        record { ahead = y.ahead; rules = λ us. refl; entries = λ us. let e = one us in omega arith; names_size = y.size; rules_size = refl; entries_size = m; ready = record { names = y.room; rules = r.rules; entries = (h.0, let v = h.1 in omega arith) } }))
        (λ g. (name_row g, refl))

    close_steps : (p : Phase) (k : ℕ) → Stepped p s t (spot point k) k (closed k s t)
    close_steps p k =
        cond_both (full 2048 (length t.rules) s.rules) _ _ (Stepped p s t (spot point k) k)
        (λ q. (rule_row (hasnt 2048 (length t.rules) s.rules q), refl))
        (λ q. let h = has 2048 (length t.rules) s.rules q in
        let m = length-set t.rules s.rules (record { head = s.head; first = s.first; count = s.entries - s.first }) in
        record { ahead = λ us. refl; rules = λ us. omega arith; entries = λ us. refl; names_size = refl; rules_size = m; entries_size = refl; ready = record { names = r.names; rules = (h.0, let v = h.1 in omega arith); entries = r.entries } })

    -- a word that writes nothing
    quiet : (p q : Phase) (h : ℕ) (w : Spot) → ((known : List ℕ → Bool) (us : List Spot) → new_names x known us ≡ new_names x known (w ∷ us))
        → ((us : List Spot) → rules_in us ≡ rules_in (w ∷ us)) → ((us : List Spot) → entries_in (is_start q) us ≡ entries_in (is_start p) (w ∷ us))
        → Goes p s t w (record { phase = q; head = h; first = s.first; names = s.names; rules = s.rules; entries = s.entries }) t
    quiet p q h w a b c = record {
      ahead = λ us. ap (λ l. rows_at s t ++ l) (a (KnownAt s t) us);
      rules = λ us. ap (λ m. s.rules + m) (b us);
      entries = λ us. ap (λ m. s.entries + m) (c us);
      names_size = refl;
      rules_size = refl;
      entries_size = refl;
      ready = record { names = r.names; rules = r.rules; entries = r.entries };
    }

    feed_steps : (p : Phase) (k : Token) (at : ℕ) → OwnSpot x k at → Stepped p s t (spot k at) at (feed_in p x k at s t)
    feed_steps Start (name b) at o = head_steps b at o
    feed_steps Start negation at o = (place negation at refl refl, refl)
    feed_steps Start arrow at o = quiet Start WantEntry 65535 (spot arrow at) (λ known us. refl) (λ us. refl) (λ us. refl)
    feed_steps Start comma at o = (place comma at refl refl, refl)
    feed_steps Start point at o = (place point at refl refl, refl)
    feed_steps AfterHead (name b) at o = (place (name b) at refl refl, refl)
    feed_steps AfterHead negation at o = (place negation at refl refl, refl)
    feed_steps AfterHead arrow at o = quiet AfterHead WantEntry s.head (spot arrow at) (λ known us. refl) (λ us. refl) (λ us. refl)
    feed_steps AfterHead comma at o = (place comma at refl refl, refl)
    feed_steps AfterHead point at o = close_steps AfterHead at
    feed_steps WantEntry (name b) at o = entry_steps WantEntry b at 0 o (λ us. refl)
    feed_steps WantEntry negation at o = quiet WantEntry WantName s.head (spot negation at) (λ known us. refl) (λ us. refl) (λ us. refl)
    feed_steps WantEntry arrow at o = (place arrow at refl refl, refl)
    feed_steps WantEntry comma at o = (place comma at refl refl, refl)
    feed_steps WantEntry point at o = (place point at refl refl, refl)
    feed_steps WantName (name b) at o = entry_steps WantName b at 1 o (λ us. refl)
    feed_steps WantName negation at o = (place negation at refl refl, refl)
    feed_steps WantName arrow at o = (place arrow at refl refl, refl)
    feed_steps WantName comma at o = (place comma at refl refl, refl)
    feed_steps WantName point at o = (place point at refl refl, refl)
    feed_steps AfterEntry (name b) at o = (place (name b) at refl refl, refl)
    feed_steps AfterEntry negation at o = (place negation at refl refl, refl)
    feed_steps AfterEntry arrow at o = (place arrow at refl refl, refl)
    feed_steps AfterEntry comma at o = quiet AfterEntry WantEntry s.head (spot comma at) (λ known us. refl) (λ us. refl) (λ us. refl)
    feed_steps AfterEntry point at o = close_steps AfterEntry at

  names_on : (p : Phase) (s : Stage) (t : Tables) (w : Spot) (s' : Stage) (t' : Tables) → Ready s t → Goes p s t w s' t' → (us : List Spot) → s'.names + length (new_names x (KnownAt s' t') us) ≡ s.names + length (new_names x (KnownAt s t) (w ∷ us))
  names_on p s t w s' t' r g us =
      sym (counted s'.names t'.names (new_names x (KnownAt s' t') us) g.ready.names.1) ∙ ap length (g.ahead us) ∙ counted s.names t.names (new_names x (KnownAt s t) (w ∷ us)) r.names.1

  within : (limit a b m n : ℕ) → a ≡ b → m ≡ n → Within limit a m → Within limit b n
  within limit a b m n e f w = let u = w.0 in let v = w.1 in (omega arith, omega arith)

  module _ (p : Phase) (s : Stage) (t : Tables) (w : Spot) (s' : Stage) (t' : Tables) (r : Ready s t) (g : Goes p s t w s' t') (us : List Spot) where
    names_back : NamesFitAt s t (w ∷ us) → NamesFitAt s' t' us
    names_back = within 512 _ _ _ _ (sym g.names_size) (sym (names_on p s t w s' t' r g us))

    names_forth : NamesFitAt s' t' us → NamesFitAt s t (w ∷ us)
    names_forth = within 512 _ _ _ _ g.names_size (names_on p s t w s' t' r g us)

    rules_back : RulesFit (length t.rules) s.rules (w ∷ us) → RulesFit (length t'.rules) s'.rules us
    rules_back = within 2048 _ _ _ _ (sym g.rules_size) (sym (g.rules us))

    entries_back : EntriesFit (is_start p) (length t.entries) s.entries (w ∷ us) → EntriesFit (is_start s'.phase) (length t'.entries) s'.entries us
    entries_back = within 8192 _ _ _ _ (sym g.entries_size) (sym (g.entries us))

    fits_forth : FitsAt s'.phase s' t' us → FitsAt p s t (w ∷ us)
    fits_forth f = record {
      names = names_forth f.names;
      rules = within 2048 _ _ _ _ g.rules_size (g.rules us) f.rules;
      entries = within 8192 _ _ _ _ g.entries_size (g.entries us) f.entries;
    }

  -- why the word w is refused in phase q, after the words us that came from phase p
  pub data After (p : Phase) (s : Stage) (t : Tables) (us : List Spot) (q : Phase) (w : Spot) : Cause → Type 0 where
    place : (k : Token) (j : ℕ) → w ≡ spot k j → onto q k ≡ None → After p s t us q w OutOfPlace
    name_row : (o : Phase) (k : Token) (j : ℕ) → w ≡ spot k j → onto q k ≡ Some o → (NamesFitAt s t (us ++ (w ∷ [])) → ⊥) → After p s t us q w NoNameRow
    entry_row : (o : Phase) (k : Token) (j : ℕ) → w ≡ spot k j → onto q k ≡ Some o → NamesFitAt s t (us ++ (w ∷ []))
        → (EntriesFit (is_start p) (length t.entries) s.entries (us ++ (w ∷ [])) → ⊥) → After p s t us q w NoEntryRow
    rule_row : (o : Phase) (k : Token) (j : ℕ) → w ≡ spot k j → onto q k ≡ Some o → (RulesFit (length t.rules) s.rules (us ++ (w ∷ [])) → ⊥) → After p s t us q w NoRuleRow

  -- where and why reading stops
  pub data Stops (n : ℕ) (p : Phase) (s : Stage) (t : Tables) (ws : Running) : Cause → ℕ → Type 0 where
    at_word : (us : List Spot) (k : Token) (at : ℕ) (vs : List Spot) (q : Phase) (c : Cause) → spots ws ≡ us ++ (spot k at ∷ vs)
        → walk us p ≡ Some q → FitsAt p s t us → After p s t us q (spot k at) c → Stops n p s t ws c at
    at_end : (q : Phase) → Ended ws → walk (spots ws) p ≡ Some q → (q ≡ Start → ⊥) → FitsAt p s t (spots ws) → Stops n p s t ws OutOfPlace n
    at_no_word : (q : Phase) (f : Words.Fault) → EndsAt f ws → walk (spots ws) p ≡ Some q → FitsAt p s t (spots ws) → Stops n p s t ws (stop_of f).cause (stop_of f).at

  -- what reading says of its words
  pub record Passes (p : Phase) (s : Stage) (t : Tables) (ws : Running) (s' : Stage) (t' : Tables) : Type 0 where
    pub ended : Ended ws
    pub walks : walk (spots ws) p ≡ Some Start
    pub fits : FitsAt p s t (spots ws)
    pub rows : rows_at s' t' ≡ rows_at s t ++ new_names x (KnownAt s t) (spots ws)

  abbrev pub Tells : ℕ → Phase → Stage → Tables → Running → Fed → Type 0
  Tells n p s t ws (on s' t') = Passes p s t ws s' t'
  Tells n p s t ws (off c at t') = Stops n p s t ws c at

  fits_none : (p : Phase) (s : Stage) (t : Tables) → Ready s t → FitsAt p s t []
  fits_none p s t r = record {
    names = within 512 _ _ _ _ refl (omega arith) r.names;
    rules = within 2048 _ _ _ _ refl (omega arith) r.rules;
    entries = within 8192 _ _ _ _ refl (omega arith) r.entries;
  }

  module _ (n : ℕ) (p : Phase) (s : Stage) (t : Tables) (k : Token) (at : ℕ) (ws : Running) (r : Ready s t) where
    first : (q : Phase) → onto p k ≡ Some q → (c : Cause) → Refuses p s t (spot k at) c → After p s t [] p (spot k at) c
    first q e c (place k' j h f) = place k' j h f
    first q e c (name_row f) = name_row q k at refl e f
    first q e c (entry_row g f) = entry_row q k at refl e g f
    first q e c (rule_row f) = rule_row q k at refl e f

    here : (c : Cause) (j : ℕ) → j ≡ at → After p s t [] p (spot k at) c → Stops n p s t (more k at ws) c j
    here c j e a = subst (Stops n p s t (more k at ws) c) (sym e) (at_word [] k at (spots ws) p c refl refl (fits_none p s t r) a)

    out : (c : Cause) → c ≡ OutOfPlace → onto p k ≡ None → After p s t [] p (spot k at) c
    out c e f = subst (After p s t [] p (spot k at)) (sym e) (place k at refl f)

    module _ (s₁ : Stage) (t₁ : Tables) (g : Goes p s t (spot k at) s₁ t₁) (e : onto p k ≡ Some s₁.phase) where
      shift : (us : List Spot) (q : Phase) (w : Spot) (c : Cause) → After s₁.phase s₁ t₁ us q w c → After p s t (spot k at ∷ us) q w c
      shift us q w c (place k' j h f) = place k' j h f
      shift us q w c (name_row o k' j h f non) = name_row o k' j h f (λ z. non (names_back p s t (spot k at) s₁ t₁ r g (us ++ (w ∷ [])) z))
      shift us q w c (entry_row o k' j h f fit non) = entry_row o k' j h f (names_forth p s t (spot k at) s₁ t₁ r g (us ++ (w ∷ [])) fit) (λ z. non (entries_back p s t (spot k at) s₁ t₁ r g (us ++ (w ∷ [])) z))
      shift us q w c (rule_row o k' j h f non) = rule_row o k' j h f (λ z. non (rules_back p s t (spot k at) s₁ t₁ r g (us ++ (w ∷ [])) z))

      later : (c : Cause) (j : ℕ) → Stops n s₁.phase s₁ t₁ ws c j → Stops n p s t (more k at ws) c j
      later c j (at_word us k' at' vs q c' parts walks fits why) =
          at_word (spot k at ∷ us) k' at' vs q c' (ap (λ l. spot k at ∷ l) parts) (ap (also (walk us)) e ∙ walks) (fits_forth p s t (spot k at) s₁ t₁ r g us fits) (shift us q (spot k' at') c' why)
      later c j (at_end q z walks non fits) = at_end q z (ap (also (walk (spots ws))) e ∙ walks) non (fits_forth p s t (spot k at) s₁ t₁ r g (spots ws) fits)
      later c j (at_no_word q f z walks fits) = at_no_word q f z (ap (also (walk (spots ws))) e ∙ walks) (fits_forth p s t (spot k at) s₁ t₁ r g (spots ws) fits)

      up : (o : Fed) → Tells n s₁.phase s₁ t₁ ws o → Tells n p s t (more k at ws) o
      up (on s' t') y = record {
        ended = y.ended;
        walks = ap (also (walk (spots ws))) e ∙ y.walks;
        fits = fits_forth p s t (spot k at) s₁ t₁ r g (spots ws) y.fits;
        rows = y.rows ∙ g.ahead (spots ws);
      }
      up (off c j t') y = later c j y

    carry_tells : (f : Stage → Tables → Fed) → ((s' : Stage) (t' : Tables) → Ready s' t' → Tells n s'.phase s' t' ws (f s' t'))
        → (o : Option Phase) → onto p k ≡ o → (z : Fed) → Agrees at o z → Stepped p s t (spot k at) at z → Tells n p s t (more k at ws) (carry f z)
    carry_tells f h (Some q) e (on s₁ t₁) a g = up s₁ t₁ g (e ∙ ap Some (sym a)) (f s₁ t₁) (h s₁ t₁ g.ready)
    carry_tells f h (Some q) e (off c j t₁) a g = here c j g.1 (first q e c g.0)
    carry_tells f h None e (on s₁ t₁) a g = absurd a
    carry_tells f h None e (off c j t₁) a g = here c j g.1 (out c a.0 e)

  finished_tells : (n : ℕ) (p : Phase) (s : Stage) (t : Tables) → Ready s t → Tells n p s t ended (finished_in p n s t)
  finished_tells n Start s t r = record { ended = tt; walks = refl; fits = fits_none Start s t r; rows = sym (append-nil _) }
  finished_tells n AfterHead s t r = at_end AfterHead tt refl (λ e. let z : ◌≡◌ {A = ℕ} 0 1 = cc in omega arith) (fits_none AfterHead s t r)
  finished_tells n WantEntry s t r = at_end WantEntry tt refl (λ e. let z : ◌≡◌ {A = ℕ} 0 1 = cc in omega arith) (fits_none WantEntry s t r)
  finished_tells n WantName s t r = at_end WantName tt refl (λ e. let z : ◌≡◌ {A = ℕ} 0 1 = cc in omega arith) (fits_none WantName s t r)
  finished_tells n AfterEntry s t r = at_end AfterEntry tt refl (λ e. let z : ◌≡◌ {A = ℕ} 0 1 = cc in omega arith) (fits_none AfterEntry s t r)

  -- what a run of words leads to, in the subject's terms
  pub run_tells : (n : ℕ) (ws : Running) (s : Stage) (t : Tables) → OwnSpots x (spots ws) → Ready s t → Tells n s.phase s t ws (run x n s t ws)
  run_tells n (more k at ws) s t o r =
      carry_tells n s.phase s t k at ws r (λ s' t'. run x n s' t' ws) (λ s' t' r'. run_tells n ws s' t' o.1 r')
      (onto s.phase k) refl (feed x k at s t) (feed_agrees s.phase x k at s t) (feed_steps s t r s.phase k at o.0)
  run_tells n ended s t o r = finished_tells n s.phase s t r
  run_tells n (wrong f) s t o r = at_no_word s.phase f refl refl (fits_none s.phase s t r)
