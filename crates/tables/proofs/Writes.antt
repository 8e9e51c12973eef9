-- Reading the words of a text writes its rules.
use Rattle.std.proofs.Common.{◌≡◌, ℕ, List, [], ◌∷◌, ◌++◌, Some, sym, refl, ap, ◌∙◌, subst}
use Rattle.words.specs.Words.{Token, arrow, comma, point}
use Rattle.words.specs.Running.{Running, more, ended, wrong}
use Rattle.tables.specs.declared.Phase.{Phase}
use Rattle.tables.specs.declared.Phase.TheVariants.{Start, AfterHead, WantEntry, WantName, AfterEntry}
use Rattle.tables.specs.Feed as F
use Rattle.tables.specs.Feed.{Stage, Tables, Texts, Fed, on, off, full, at_phase, Number, number, no_row, number_in, with_number, numbered, entered_as, closed, feed_in, feed, finished_in, finished}
use Rattle.tables.specs.Reading.{carry, run}
use Rattle.tables.specs.Grammar.{Spot, spot, spots, Entry, entry, Rule, rule, IsEntry, plain, denied, IsBody, last, then, IsRule, fact, bar, whole, IsText, none, next}
use Rattle.tables.specs.Beginnings.{Ended}
use Rattle.tables.proofs.Written.{write_entry, write_body, write_head, write_rule, written}
use Rattle.tables.proofs.Agrees.{Agrees, numbered_agrees, entered_agrees, closed_agrees}

-- the words of a list, with no end
abbrev feeds : Texts → List Spot → Stage → Tables → Fed
feeds x [] s t = on s t
feeds x (spot k at ∷ ws) s t = carry (feeds x ws) (feed x k at s t)

carry_on : (r : Fed) → carry on r ≡ r
carry_on (on s t) = refl
carry_on (off c k t) = refl

carry_carry : (f g : Stage → Tables → Fed) (r : Fed) → carry (λ s t. carry f (g s t)) r ≡ carry f (carry g r)
carry_carry f g (on s t) = refl
carry_carry f g (off c k t) = refl

-- where reading goes on, it is in this phase
abbrev In : Phase → Fed → Type 0
In q (on s t) = s.phase ≡ q
In q (off c k t) = Unit {0}

carry_at : (q : Phase) (f g : Stage → Tables → Fed) (r : Fed) → In q r → ((s : Stage) (t : Tables) → s.phase ≡ q → f s t ≡ g s t) → carry f r ≡ carry g r
carry_at q f g (on s t) h e = e s t h
carry_at q f g (off c k t) h e = refl

feeds_append : (x : Texts) (ws vs : List Spot) (s : Stage) (t : Tables) → feeds x (ws ++ vs) s t ≡ carry (feeds x vs) (feeds x ws s t)
feeds_append x [] vs s t = refl
feeds_append x (spot k at ∷ ws) vs s t = ap (λ f. carry f (feed x k at s t)) (λ i s' t'. feeds_append x ws vs s' t' i) ∙ carry_carry (feeds x vs) (feeds x ws) (feed x k at s t)

-- what a name leads to does not hang on the phase before it
phase_free : (x : Texts) (b : List ℕ) (at : ℕ) (f : ℕ → Stage → Tables → Fed) (p : Phase) (s : Stage) (t : Tables) → ((n : ℕ) (s : Stage) (t : Tables) → f n (at_phase p s) t ≡ f n s t) → numbered x b at f (at_phase p s) t ≡ numbered x b at f s t
phase_free x b at f p s t h = go (number_in x b at s.names t.names)
  where
    go : (n : Number) → with_number at f (at_phase p s) t n ≡ with_number at f s t n
    go (number n c rows) = h n _ _
    go (no_row rows) = refl

-- a word in a phase that is known by an equation
feeds_in : (x : Texts) (p : Phase) (k : Token) (at : ℕ) (ws : List Spot) (s : Stage) (t : Tables) → s.phase ≡ p → feeds x (spot k at ∷ ws) s t ≡ carry (feeds x ws) (feed_in p x k at s t)
feeds_in x p k at ws s t e = ap (λ q. carry (feeds x ws) (feed_in q x k at s t)) e

in_from : (q : Phase) (at : ℕ) (r : Fed) → Agrees at (Some q) r → In q r
in_from q at (on s t) a = a
in_from q at (off c k t) a = tt

entry_in : (x : Texts) (e : Entry) (s : Stage) (t : Tables) → In AfterEntry (write_entry x e s t)
entry_in x (entry sign b k) s t = in_from AfterEntry k _ (numbered_agrees x b k (entered_as k sign) AfterEntry (entered_agrees k sign) s t)

head_in : (x : Texts) (b : List ℕ) (k : ℕ) (s : Stage) (t : Tables) → In AfterHead (numbered x b k F.headed s t)
head_in x b k s t = in_from AfterHead k _ (numbered_agrees x b k F.headed AfterHead (λ n s t. refl) s t)

closed_in : (j : ℕ) (s : Stage) (t : Tables) → In Start (closed j s t)
closed_in j s t = in_from Start j _ (closed_agrees j s t)

carry_in : (q : Phase) (f : Stage → Tables → Fed) (r : Fed) → ((s : Stage) (t : Tables) → In q (f s t)) → In q (carry f r)
carry_in q f (on s t) h = h s t
carry_in q f (off c k t) h = tt

carry_from : (f : Stage → Tables → Fed) (r : Fed) → In Start r → ((s : Stage) (t : Tables) → s.phase ≡ Start → In Start (f s t)) → In Start (carry f r)
carry_from f (on s t) p h = h s t p
carry_from f (off c k t) p h = tt

body_in : (x : Texts) {ws : List Spot} {es : List Entry} → IsBody ws es → (s : Stage) (t : Tables) → In AfterEntry (write_body x es s t)
body_in x (last ws e d) s t = subst (In AfterEntry) (sym (carry_on _)) (entry_in x e s t)
body_in x (then ws e j vs es d b) s t = carry_in AfterEntry _ (write_entry x e s t) (body_in x b)

rule_in : (x : Texts) (r : Rule) (s : Stage) (t : Tables) → In Start (write_rule x r s t)
rule_in x (rule h es j) s t = carry_in Start _ (carry (write_body x es) (write_head x h s t)) (closed_in j)

at_phase_lem : (p : Phase) (s : Stage) → s.phase ≡ p → s ≡ at_phase p s
at_phase_lem p s e = λ i. record { phase = e i; head = s.head; first = s.first; names = s.names; rules = s.rules; entries = s.entries }

module _ (x : Texts) where
  entry_feeds : {ws : List Spot} {e : Entry} → IsEntry ws e → (s : Stage) (t : Tables) → feeds x ws (at_phase WantEntry s) t ≡ write_entry x e s t
  entry_feeds (plain b k) s t = carry_on _ ∙ phase_free x b k (entered_as k 0) WantEntry s t (λ n s t. refl)
  entry_feeds (denied j b k) s t = carry_on _ ∙ phase_free x b k (entered_as k 1) WantName s t (λ n s t. refl)

  body_feeds : {ws : List Spot} {es : List Entry} → IsBody ws es → (s : Stage) (t : Tables) → feeds x ws (at_phase WantEntry s) t ≡ write_body x es s t
  body_feeds (last ws e d) s t = entry_feeds d s t ∙ sym (carry_on _)
  body_feeds (then ws e j vs es d b) s t =
      feeds_append x ws (spot comma j ∷ vs) (at_phase WantEntry s) t ∙ ap (carry (feeds x (spot comma j ∷ vs))) (entry_feeds d s t)
      ∙ carry_at AfterEntry _ _ (write_entry x e s t) (entry_in x e s t) (λ s' t' p. feeds_in x AfterEntry comma j vs s' t' p ∙ body_feeds b s' t')

  body_close : {ws : List Spot} {es : List Entry} → IsBody ws es → (j : ℕ) (s : Stage) (t : Tables) → feeds x (ws ++ (spot point j ∷ [])) (at_phase WantEntry s) t ≡ carry (closed j) (write_body x es s t)
  body_close {ws} {es} d j s t =
      feeds_append x ws (spot point j ∷ []) (at_phase WantEntry s) t ∙ ap (carry (feeds x (spot point j ∷ []))) (body_feeds d s t)
      ∙ carry_at AfterEntry _ _ (write_body x es s t) (body_in x d s t) (λ s' t' p. feeds_in x AfterEntry point j [] s' t' p ∙ carry_on _)

  rule_feeds : {ws : List Spot} {r : Rule} → IsRule ws r → (s : Stage) (t : Tables) → feeds x ws (at_phase Start s) t ≡ write_rule x r s t
  rule_feeds (fact b k j) s t =
      ap (carry (feeds x (spot point j ∷ []))) (phase_free x b k F.headed Start s t (λ n s t. refl))
      ∙ carry_at AfterHead _ _ (numbered x b k F.headed s t) (head_in x b k s t) (λ s' t' p. feeds_in x AfterHead point j [] s' t' p ∙ carry_on _)
      ∙ ap (carry (closed j)) (sym (carry_on (numbered x b k F.headed s t)))
  rule_feeds (bar i ws es j d) s t = body_close d j (record { phase = WantEntry; head = 65535; first = s.first; names = s.names; rules = s.rules; entries = s.entries }) t
  rule_feeds (whole b k i ws es j d) s t =
      ap (carry (feeds x (spot arrow i ∷ (ws ++ (spot point j ∷ []))))) (phase_free x b k F.headed Start s t (λ n s t. refl))
      ∙ carry_at AfterHead _ _ (numbered x b k F.headed s t) (head_in x b k s t) (λ s' t' p. feeds_in x AfterHead arrow i (ws ++ (spot point j ∷ [])) s' t' p ∙ body_close d j s' t')
      ∙ carry_carry (closed j) (write_body x es) (numbered x b k F.headed s t)

  text_feeds : {ws : List Spot} {rs : List Rule} → IsText ws rs → (s : Stage) (t : Tables) → s.phase ≡ Start → feeds x ws s t ≡ written x rs s t
  text_feeds none s t p = refl
  text_feeds (next ws r vs rs d e) s t p =
      feeds_append x ws vs s t ∙ ap (carry (feeds x vs)) (ap (λ s'. feeds x ws s' t) (at_phase_lem Start s p) ∙ rule_feeds d s t)
      ∙ carry_at Start _ _ (write_rule x r s t) (rule_in x r s t) (text_feeds e)

  written_in : (rs : List Rule) (s : Stage) (t : Tables) → s.phase ≡ Start → In Start (written x rs s t)
  written_in [] s t p = p
  written_in (r ∷ rs) s t p = carry_from (written x rs) (write_rule x r s t) (rule_in x r s t) (written_in rs)

  run_feeds : (n : ℕ) (ws : Running) → Ended ws → (s : Stage) (t : Tables) → run x n s t ws ≡ carry (finished n) (feeds x (spots ws) s t)
  run_feeds n (more k at ws) e s t = ap (λ f. carry f (feed x k at s t)) (λ i s' t'. run_feeds n ws e s' t' i) ∙ carry_carry (finished n) (feeds x (spots ws)) (feed x k at s t)
  run_feeds n ended e s t = refl
  run_feeds n (wrong f) e s t = absurd e

  -- a text of the grammar: what its rules leave, or the first of them that finds no row
  pub run_written : (n : ℕ) (ws : Running) (rs : List Rule) → Ended ws → IsText (spots ws) rs → (s : Stage) (t : Tables) → s.phase ≡ Start → run x n s t ws ≡ written x rs s t
  run_written n ws rs e d s t p =
      run_feeds n ws e s t ∙ ap (carry (finished n)) (text_feeds d s t p)
      ∙ carry_at Start (finished n) on (written x rs s t) (written_in rs s t p) (λ s' t' q. ap (λ k. finished_in k n s' t') q) ∙ carry_on _
