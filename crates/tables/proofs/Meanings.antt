-- What the rules write says them.
use Rattle.std.proofs.Common.{◌≡◌, ℕ, ◌+◌, ◌-◌, ◌*◌, ◌<◌, ◌≤◌, true, false, leb, List, [], ◌∷◌, ◌++◌, length, take, set, Some, None, Option, sym, refl, ap, ◌∙◌, subst, append_assoc, append-nil, add-one, arith, length-append, take-suc-set, leb-false}
use Rattle.std.proofs.lemmas.List.{length-set, length-take-le}
use Rattle.std.proofs.lemmas.Bool.{cond_both, or_parts}
use Rattle.tables.specs.declared.NameRow.{NameRow}
use Rattle.rulebook.specs.declared.row.RuleRow.{RuleRow}
use Rattle.tables.specs.Names.{is_name, found}
use Rattle.tables.specs.Feed as F
use Rattle.tables.specs.Feed.{Stage, Tables, Texts, Fed, on, off, full, new_row, number_from, with_number, numbered, entered_as, closed}
use Rattle.tables.specs.Reading.{carry}
use Rattle.tables.specs.Grammar.{Entry, entry, Head, headed, headless, Rule, rule}
use Rattle.tables.proofs.Written.{write_entry, write_body, write_head, write_rule, written}
use Rattle.tables.specs.Meaning.{Finds, Codes, bare, code, HeadIs, named, missing, Says, nothing, also}
use Rattle.tables.proofs.Ruled.{Ext, rows_in, Ruled}
use Rattle.tables.proofs.Finding.{ext_trans, finds_new, codes_on, head_on}

-- where reading goes on, Q holds
abbrev pub On : (Stage → Tables → Type 0) → Fed → Type 0
On Q (on s t) = Q s t
On Q (off c k t) = Unit {0}

carry_On : (Q R : Stage → Tables → Type 0) (f : Stage → Tables → Fed) (r : Fed) → On Q r → ((s : Stage) (t : Tables) → Q s t → On R (f s t)) → On R (carry f r)
carry_On Q R f (on s t) h k = k s t h
carry_On Q R f (off c j t) h k = tt

map_On : (Q R : Stage → Tables → Type 0) (r : Fed) → ((s : Stage) (t : Tables) → Q s t → R s t) → On Q r → On R r
map_On Q R (on s t) k h = k s t h
map_On Q R (off c j t) k h = tt

pub pushed : {X : Type 0} (xs : List X) (n : ℕ) (v : X) → n < length xs → take (n + 1) (set xs n v) ≡ take n xs ++ (v ∷ [])
pushed xs n v h = ap (λ k. take k (set xs n v)) (add-one n) ∙ take-suc-set xs n v h

has_room : (limit size n : ℕ) → full limit size n ≡ false → n < size
has_room limit size n e = leb-false size n (or_parts (leb limit n) (leb size n) e).1

module _ (x : Texts) where
  -- the name can be found by a row of its own
  abbrev pub Own : List ℕ → ℕ → Type 0
  Own b k = is_name x.region x.harbour b (new_row x b k) ≡ true

  abbrev with_count : ℕ → Stage → Stage
  with_count c s = record { phase = s.phase; head = s.head; first = s.first; names = c; rules = s.rules; entries = s.entries }

  abbrev with_rows : List NameRow → Tables → Tables
  with_rows l t = record { names = l; rules = t.rules; entries = t.entries }

  numbered_On : (Q : Stage → Tables → Type 0) (b : List ℕ) (k : ℕ) (f : ℕ → Stage → Tables → Fed) (s : Stage) (t : Tables) → Own b k → s.names ≤ length t.names
      → ((n c : ℕ) (rows : List NameRow) → Finds x (take c rows) b n → Ext (rows_in s t) (take c rows) → c ≤ length rows → On Q (f n (with_count c s) (with_rows rows t)))
      → On Q (numbered x b k f s t)
  numbered_On Q b k f s t w m h = go (found x.region x.harbour b 0 (rows_in s t)) refl
    where
      go : (o : Option ℕ) → found x.region x.harbour b 0 (rows_in s t) ≡ o → On Q (with_number k f s t (number_from x b k s.names t.names o))
      go (Some n) e = h n s.names t.names e (record { rest = []; is = sym (append-nil _) }) m
      go None e =
          cond_both (full 512 (length t.names) s.names) _ _ (λ n. On Q (with_number k f s t n)) (λ _. tt)
          (λ q. let l = has_room 512 (length t.names) s.names q in
          let p = pushed t.names s.names (new_row x b k) l in
          h s.names (s.names + 1) (set t.names s.names (new_row x b k))
          (subst (λ r. Finds x r b s.names) (sym p) (finds_new x (rows_in s t) b (new_row x b k) s.names (sym (length-take-le s.names t.names m)) w e))
          (record { rest = new_row x b k ∷ []; is = p })
          (omega (arith, length-set t.names s.names (new_row x b k))))

  -- entries es were written after s and t
  record Bodied (es : List Entry) (s : Stage) (t : Tables) (s' : Stage) (t' : Tables) : Type 0 where
    cs : List ℕ
    mean : Codes x (rows_in s' t') es cs
    entries : take s'.entries t'.entries ≡ take s.entries t.entries ++ cs
    count : s'.entries ≡ s.entries + length cs
    ext : Ext (rows_in s t) (rows_in s' t')
    room : s'.names ≤ length t'.names
    rules : s'.rules ≡ s.rules
    rows : t'.rules ≡ t.rules
    head : s'.head ≡ s.head
    first : s'.first ≡ s.first

  abbrev pub OwnEntry : Entry → Type 0
  OwnEntry (entry sign b k) = Own b k

  abbrev pub OwnBody : List Entry → Type 0
  OwnBody [] = Unit {0}
  OwnBody (e ∷ es) = OwnEntry e × OwnBody es

  entry_means : (e : Entry) (s : Stage) (t : Tables) → OwnEntry e → s.names ≤ length t.names → On (Bodied (e ∷ []) s t) (write_entry x e s t)
  entry_means (entry sign b k) s t w m =
      numbered_On (Bodied (entry sign b k ∷ []) s t) b k (entered_as k sign) s t w m
      (λ n c rows f a r. cond_both (full 8192 (length t.entries) s.entries) _ _ (On (Bodied (entry sign b k ∷ []) s t)) (λ _. tt)
      (λ q. record { cs = (2 * n + sign) ∷ []; mean = code sign b k n [] [] f bare; entries = pushed t.entries s.entries (2 * n + sign) (has_room 8192 (length t.entries) s.entries q); count = refl; ext = a; room = r; rules = refl; rows = refl; head = refl; first = refl }))

  codes_append : {rows : List NameRow} {es fs : List Entry} {cs ds : List ℕ} → Codes x rows es cs → Codes x rows fs ds → Codes x rows (es ++ fs) (cs ++ ds)
  codes_append bare d = d
  codes_append (code sign b k n es cs f c) d = code sign b k n _ _ f (codes_append c d)

  both : (e : Entry) (es : List Entry) (s : Stage) (t : Tables) (s₁ : Stage) (t₁ : Tables) → Bodied (e ∷ []) s t s₁ t₁ → (s₂ : Stage) (t₂ : Tables) → Bodied es s₁ t₁ s₂ t₂ → Bodied (e ∷ es) s t s₂ t₂
  both e es s t s₁ t₁ a s₂ t₂ b = record {
    cs = a.cs ++ b.cs;
    mean = codes_append (codes_on x b.ext a.mean) b.mean;
    entries = b.entries ∙ ap (λ l. l ++ b.cs) a.entries ∙ append_assoc (take s.entries t.entries) a.cs b.cs;
    count = let p = a.count in let q = b.count in omega (arith, length-append a.cs b.cs);
    ext = ext_trans a.ext b.ext;
    room = b.room;
    rules = b.rules ∙ a.rules;
    rows = b.rows ∙ a.rows;
    head = b.head ∙ a.head;
    first = b.first ∙ a.first;
  }

  body_means : (es : List Entry) (s : Stage) (t : Tables) → OwnBody es → s.names ≤ length t.names → On (Bodied es s t) (write_body x es s t)
  body_means [] s t w m = record { cs = []; mean = bare; entries = sym (append-nil _); count = omega arith; ext = record { rest = []; is = sym (append-nil _) }; room = m; rules = refl; rows = refl; head = refl; first = refl }
  body_means (e ∷ es) s t w m =
      carry_On (Bodied (e ∷ []) s t) (Bodied (e ∷ es) s t) (write_body x es) (write_entry x e s t) (entry_means e s t w.0 m)
      (λ s₁ t₁ a. map_On _ _ (write_body x es s₁ t₁) (both e es s t s₁ t₁ a) (body_means es s₁ t₁ w.1 a.room))

  -- the head h was written after s and t
  record Topped (h : Head) (s : Stage) (t : Tables) (s' : Stage) (t' : Tables) : Type 0 where
    n : ℕ
    mean : HeadIs x (rows_in s' t') h n
    head : s'.head ≡ n
    ext : Ext (rows_in s t) (rows_in s' t')
    room : s'.names ≤ length t'.names
    rules : s'.rules ≡ s.rules
    rows : t'.rules ≡ t.rules
    count : s'.entries ≡ s.entries
    entries : t'.entries ≡ t.entries
    first : s'.first ≡ s.first

  abbrev pub OwnHead : Head → Type 0
  OwnHead (headed b k) = Own b k
  OwnHead headless = Unit {0}

  head_means : (h : Head) (s : Stage) (t : Tables) → OwnHead h → s.names ≤ length t.names → On (Topped h s t) (write_head x h s t)
  head_means (headed b k) s t w m =
      numbered_On (Topped (headed b k) s t) b k F.headed s t w m
      (λ n c rows f a r. record { n = n; mean = named b k n f; head = refl; ext = a; room = r; rules = refl; rows = refl; count = refl; entries = refl; first = refl })
  head_means headless s t w m = record { n = 65535; mean = missing; head = refl; ext = record { rest = []; is = sym (append-nil _) }; room = m; rules = refl; rows = refl; count = refl; entries = refl; first = refl }

  module _ (h : Head) (es : List Entry) (j : ℕ) (s : Stage) (t : Tables) (e : s.first ≡ s.entries) (s₁ : Stage) (t₁ : Tables) (a : Topped h s t s₁ t₁) (s₂ : Stage) (t₂ : Tables) (b : Bodied es s₁ t₁ s₂ t₂) where
    row_is : ◌≡◌ {A = RuleRow} (record { head = s₂.head; first = s₂.first; count = s₂.entries - s₂.first }) (record { head = a.n; first = s.entries; count = length b.cs })
    row_is =
        let p : s₂.entries - s₂.first ≡ length b.cs = (let u = b.count in let v = a.count in let f = b.first in let g = a.first in omega arith) in
        λ i. record { head = (b.head ∙ a.head) i; first = (b.first ∙ a.first ∙ e) i; count = p i }

    close_means : On (Ruled x (rule h es j ∷ []) s t) (closed j s₂ t₂)
    close_means = cond_both (full 2048 (length t₂.rules) s₂.rules) _ _ (On (Ruled x (rule h es j ∷ []) s t)) (λ _. tt)
        (λ q. record {
          new_rules = record { head = a.n; first = s.entries; count = length b.cs } ∷ [];
          new_entries = b.cs ++ [];
          mean = also h es j [] s.entries a.n b.cs [] [] (head_on x b.ext a.mean) b.mean (nothing _);
          rules = pushed t₂.rules s₂.rules _ (has_room 2048 (length t₂.rules) s₂.rules q)
              ∙ (λ i. take ((b.rules ∙ a.rules) i) ((b.rows ∙ a.rows) i) ++ (row_is i ∷ []));
          entries = b.entries ∙ (λ i. take (a.count i) (a.entries i) ++ sym (append-nil b.cs) i);
          count = let u = b.count in let v = a.count in omega (arith, length-append b.cs []);
          ext = ext_trans a.ext b.ext;
          room = b.room;
          first = refl;
        })

  abbrev pub OwnRules : List Rule → Type 0
  OwnRules [] = Unit {0}
  OwnRules (rule h es j ∷ rs) = OwnHead h × OwnBody es × OwnRules rs

  record Built (h : Head) (es : List Entry) (s : Stage) (t : Tables) (s₂ : Stage) (t₂ : Tables) : Type 0 where
    s₁ : Stage
    t₁ : Tables
    top : Topped h s t s₁ t₁
    body : Bodied es s₁ t₁ s₂ t₂

  rule_means : (h : Head) (es : List Entry) (j : ℕ) (s : Stage) (t : Tables) → OwnHead h → OwnBody es → s.names ≤ length t.names → s.first ≡ s.entries → On (Ruled x (rule h es j ∷ []) s t) (write_rule x (rule h es j) s t)
  rule_means h es j s t w v m e =
      carry_On (Built h es s t) _ (closed j) (carry (write_body x es) (write_head x h s t))
      (carry_On (Topped h s t) _ (write_body x es) (write_head x h s t) (head_means h s t w m)
      (λ s₁ t₁ a. map_On _ _ (write_body x es s₁ t₁) (λ s₂ t₂ b. record { s₁ = s₁; t₁ = t₁; top = a; body = b }) (body_means es s₁ t₁ v a.room)))
      (λ s₂ t₂ c. close_means h es j s t e c.s₁ c.t₁ c.top s₂ t₂ c.body)

  says_on : {rows more : List NameRow} {rs : List Rule} {first : ℕ} {R : List RuleRow} {E : List ℕ} → Ext rows more → Says x rows rs first R E → Says x more rs first R E
  says_on a (nothing first) = nothing first
  says_on a (also h es j rs first n cs R E d c y) = also h es j rs first n cs R E (head_on x a d) (codes_on x a c) (says_on a y)

  says_append : {rows : List NameRow} {rs qs : List Rule} {first : ℕ} {R R' : List RuleRow} {E E' : List ℕ} → Says x rows rs first R E → (next : ℕ) → next ≡ first + length E → Says x rows qs next R' E' → Says x rows (rs ++ qs) first (R ++ R') (E ++ E')
  says_append {rows} {qs = qs} {R' = R'} {E' = E'} (nothing first) next p z = subst (λ k. Says x rows qs k R' E') (let w : next ≡ first = omega arith in w) z
  says_append {rows} {qs = qs} {R' = R'} {E' = E'} (also h es j rs first n cs R E d c y) next p z =
      subst (λ l. Says x rows (rule h es j ∷ (rs ++ qs)) first (record { head = n; first = first; count = length cs } ∷ (R ++ R')) l) (sym (append_assoc cs E E'))
      (also h es j (rs ++ qs) first n cs (R ++ R') (E ++ E') d c (says_append y next (omega (arith, length-append cs E)) z))

  joins : (r : Rule) (rs : List Rule) (s : Stage) (t : Tables) (s₁ : Stage) (t₁ : Tables) → Ruled x (r ∷ []) s t s₁ t₁ → (s₂ : Stage) (t₂ : Tables) → Ruled x rs s₁ t₁ s₂ t₂ → Ruled x (r ∷ rs) s t s₂ t₂
  joins r rs s t s₁ t₁ a s₂ t₂ b = record {
    new_rules = a.new_rules ++ b.new_rules;
    new_entries = a.new_entries ++ b.new_entries;
    mean = says_append (says_on b.ext a.mean) s₁.entries a.count b.mean;
    rules = b.rules ∙ ap (λ l. l ++ b.new_rules) a.rules ∙ append_assoc (take s.rules t.rules) a.new_rules b.new_rules;
    entries = b.entries ∙ ap (λ l. l ++ b.new_entries) a.entries ∙ append_assoc (take s.entries t.entries) a.new_entries b.new_entries;
    count = let p = a.count in let q = b.count in omega (arith, length-append a.new_entries b.new_entries);
    ext = ext_trans a.ext b.ext;
    room = b.room;
    first = b.first;
  }

  pub text_means : (rs : List Rule) (s : Stage) (t : Tables) → OwnRules rs → s.names ≤ length t.names → s.first ≡ s.entries → On (Ruled x rs s t) (written x rs s t)
  text_means [] s t w m e = record { new_rules = []; new_entries = []; mean = nothing _; rules = sym (append-nil _); entries = sym (append-nil _); count = omega arith; ext = record { rest = []; is = sym (append-nil _) }; room = m; first = e }
  text_means (rule h es j ∷ rs) s t w m e =
      carry_On (Ruled x (rule h es j ∷ []) s t) _ (written x rs) (write_rule x (rule h es j) s t) (rule_means h es j s t w.0 w.1 m e)
      (λ s₁ t₁ a. map_On _ _ (written x rs s₁ t₁) (joins (rule h es j) rs s t s₁ t₁ a) (text_means rs s₁ t₁ w.2 a.room a.first))
