-- Each name of a text is found by a row of its own.
use Rattle.std.proofs.Common.{◌≡◌, ℕ, zero, suc, ◌+◌, ◌<◌, true, ◌&&◌, eqb, ltb, leb, List, [], ◌∷◌, ◌++◌, length, drop, sym, refl, ap, ◌∙◌, arith, length-drop, lt-ltb, le-leb}
use Rattle.std.proofs.lemmas.Bool.{cond_both}
use Rattle.words.specs.Words.{Token, name, negation, arrow, comma, point, Reading, word, end, fault, next_word}
use Rattle.words.specs.Running.{Running, onward, running_by, running}
use Rattle.words.proofs.Cut.{Cut, cut_from}
use Rattle.words.proofs.Small.{inside_text}
use Rattle.tables.specs.Names.{same_name, names, part_of}
use Rattle.tables.proofs.Sameness.{same_self}
use Rattle.tables.specs.Feed.{Texts, new_row}
use Rattle.tables.specs.Grammar.{Spot, spot, spots, Entry, Head, Rule, rule, IsEntry, plain, denied, IsBody, last, then, IsRule, fact, bar, whole, IsText, none, next}
use Rattle.tables.specs.Draft.{texts_for}
use Rattle.tables.proofs.Meanings.{Own, OwnEntry, OwnBody, OwnHead, OwnRules}

-- a name that is cut from the text is what its row names
pub record Named (x : Texts) (b : List ℕ) (k : ℕ) : Type 0 where
  pub names : names (new_row x b k) x.region x.harbour ≡ true
  pub part : part_of (new_row x b k) x.region x.harbour ≡ b

pub own : (x : Texts) (b : List ℕ) (k : ℕ) → Named x b k → Own x b k
own x b k n = λ i. n.names i && ((ap (λ l. same_name l b) n.part ∙ same_self b) i)

named : (text earlier b : List ℕ) (n k : ℕ) → Cut (drop k text) b → k < length text → Named (texts_for n text earlier) b k
named text earlier b n k c h =
    let f : ltb 0 (length b) ≡ true = lt-ltb 0 (length b) c.some in
    let r = c.room in
    let g : leb (k + length b) (length text) ≡ true = le-leb (k + length b) (length text) (omega (arith, length-drop k text)) in
    let w : (ltb 0 (length b) && leb (k + length b) (length text)) ≡ true = (λ i. f i && g i) in
    cond_both (eqb n 0) _ _ (λ x. Named x b k) (λ _. record { names = w; part = sym c.bytes }) (λ _. record { names = w; part = sym c.bytes })

module _ (x : Texts) where
  abbrev pub OwnSpot : Token → ℕ → Type 0
  OwnSpot (name b) k = Named x b k
  OwnSpot negation k = Unit {0}
  OwnSpot arrow k = Unit {0}
  OwnSpot comma k = Unit {0}
  OwnSpot point k = Unit {0}

  abbrev pub OwnSpots : List Spot → Type 0
  OwnSpots [] = Unit {0}
  OwnSpots (spot t k ∷ ws) = OwnSpot t k × OwnSpots ws

  left : (ws vs : List Spot) → OwnSpots (ws ++ vs) → OwnSpots ws
  left [] vs o = tt
  left (spot t k ∷ ws) vs o = (o.0, left ws vs o.1)

  right : (ws vs : List Spot) → OwnSpots (ws ++ vs) → OwnSpots vs
  right [] vs o = o
  right (spot t k ∷ ws) vs o = right ws vs o.1

  own_entry : {ws : List Spot} {e : Entry} → IsEntry ws e → OwnSpots ws → OwnEntry x e
  own_entry (plain b k) o = own x b k o.0
  own_entry (denied j b k) o = own x b k o.1.0

  own_body : {ws : List Spot} {es : List Entry} → IsBody ws es → OwnSpots ws → OwnBody x es
  own_body (last ws e d) o = (own_entry d o, tt)
  own_body (then ws e j vs es d b) o = (own_entry d (left ws _ o), own_body b (right ws (spot comma j ∷ vs) o).1)

  own_rule : {ws : List Spot} {h : Head} {es : List Entry} {j : ℕ} → IsRule ws (rule h es j) → OwnSpots ws → OwnHead x h × OwnBody x es
  own_rule (fact b k j) o = (own x b k o.0, tt)
  own_rule (bar i ws es j d) o = (tt, own_body d (left ws _ o.1))
  own_rule (whole b k i ws es j d) o = (own x b k o.0, own_body d (left ws _ o.1.1))

  pub own_text : {ws : List Spot} {rs : List Rule} → IsText ws rs → OwnSpots ws → OwnRules x rs
  own_text none o = tt
  own_text (next ws (rule h es j) vs rs d t) o = let p = own_rule d (left ws vs o) in (p.0, p.1, own_text t (right ws vs o))

module _ (text earlier : List ℕ) (d : ℕ) where
  abbrev X : Texts
  X = texts_for d text earlier

  word_own : (from : ℕ) (t : Token) (k p : ℕ) → word t k p ≡ next_word text from → OwnSpot X t k
  word_own from (name b) k p e = named text earlier b d k (cut_from text from b k p e) (inside_text text from (name b) k p e).inside
  word_own from negation k p e = tt
  word_own from arrow k p e = tt
  word_own from comma k p e = tt
  word_own from point k p e = tt

  onward_own : (from : ℕ) (f : ℕ → Running) → ((p : ℕ) → OwnSpots X (spots (f p))) → (r : Reading) → r ≡ next_word text from → OwnSpots X (spots (onward f r))
  onward_own from f h (word t k p) e = (word_own from t k p e, h p)
  onward_own from f h (end q) e = tt
  onward_own from f h (fault g q) e = tt

  by_own : (n from : ℕ) → OwnSpots X (spots (running_by n text from))
  by_own zero from = tt
  by_own (suc n) from = onward_own from (running_by n text) (by_own n) (next_word text from) refl

  pub running_own : OwnSpots X (spots (running text 0))
  unfolding running
  running_own = by_own (suc (length text)) 0
