-- The grammar's words, phase by phase.
use Rattle.std.proofs.Common.{◌≡◌, ℕ, List, [], ◌∷◌, ◌++◌, Some, None, Option, sym, refl, ap, ◌∙◌, subst, append_assoc, arith}
use Rattle.words.specs.Words.{Token, name, negation, arrow, comma, point}
use Rattle.tables.specs.declared.Phase.{Phase}
use Rattle.tables.specs.declared.Phase.TheVariants.{Start, AfterHead, WantEntry, WantName, AfterEntry}
use Rattle.tables.specs.Grammar.{Spot, spot, Entry, entry, Head, headed, headless, Rule, rule, IsEntry, plain, denied, IsBody, last, then, IsRule, fact, bar, whole, IsText, none, next}

-- the phase after a word, if the word is in place
abbrev pub onto : Phase → Token → Option Phase
onto Start (name b) = Some AfterHead
onto Start negation = None
onto Start arrow = Some WantEntry
onto Start comma = None
onto Start point = None
onto AfterHead (name b) = None
onto AfterHead negation = None
onto AfterHead arrow = Some WantEntry
onto AfterHead comma = None
onto AfterHead point = Some Start
onto WantEntry (name b) = Some AfterEntry
onto WantEntry negation = Some WantName
onto WantEntry arrow = None
onto WantEntry comma = None
onto WantEntry point = None
onto WantName (name b) = Some AfterEntry
onto WantName negation = None
onto WantName arrow = None
onto WantName comma = None
onto WantName point = None
onto AfterEntry (name b) = None
onto AfterEntry negation = None
onto AfterEntry arrow = None
onto AfterEntry comma = Some WantEntry
onto AfterEntry point = Some Start

abbrev pub also : (Phase → Option Phase) → Option Phase → Option Phase
also f (Some p) = f p
also f None = None

abbrev pub walk : List Spot → Phase → Option Phase
walk [] p = Some p
walk (spot k at ∷ ws) p = also (walk ws) (onto p k)

also_also : (f g : Phase → Option Phase) (o : Option Phase) → also (λ p. also f (g p)) o ≡ also f (also g o)
also_also f g (Some p) = refl
also_also f g None = refl

pub walk_append : (ws vs : List Spot) (p : Phase) → walk (ws ++ vs) p ≡ also (walk vs) (walk ws p)
walk_append [] vs p = refl
walk_append (spot k at ∷ ws) vs p = ap (λ f. also f (onto p k)) (λ i q. walk_append ws vs q i) ∙ also_also (walk vs) (walk ws) (onto p k)

entry_walks : {ws : List Spot} {e : Entry} → IsEntry ws e → walk ws WantEntry ≡ Some AfterEntry
entry_walks (plain b k) = refl
entry_walks (denied j b k) = refl

body_walks : {ws : List Spot} {es : List Entry} → IsBody ws es → walk ws WantEntry ≡ Some AfterEntry
body_walks (last ws e d) = entry_walks d
body_walks (then ws e j vs es d b) = walk_append ws (spot comma j ∷ vs) WantEntry ∙ ap (also (walk (spot comma j ∷ vs))) (entry_walks d) ∙ body_walks b

closing : (ws : List Spot) (j : ℕ) → walk ws WantEntry ≡ Some AfterEntry → walk (ws ++ (spot point j ∷ [])) WantEntry ≡ Some Start
closing ws j e = walk_append ws (spot point j ∷ []) WantEntry ∙ ap (also (walk (spot point j ∷ []))) e

rule_walks : {ws : List Spot} {r : Rule} → IsRule ws r → walk ws Start ≡ Some Start
rule_walks (fact b k j) = refl
rule_walks (bar i ws es j d) = closing ws j (body_walks d)
rule_walks (whole b k i ws es j d) = closing ws j (body_walks d)

-- a text of the grammar is walked from start to start
pub text_walks : {ws : List Spot} {rs : List Rule} → IsText ws rs → walk ws Start ≡ Some Start
text_walks none = refl
text_walks (next ws r vs rs d t) = walk_append ws vs Start ∙ ap (also (walk vs)) (rule_walks d) ∙ text_walks t

-- what is left of a text in each phase
pub record Text (ws : List Spot) : Type 0 where
  pub rules : List Rule
  pub derives : IsText ws rules

pub record Body (front ws : List Spot) : Type 0 where
  pub us : List Spot
  pub es : List Entry
  pub j : ℕ
  pub vs : List Spot
  pub rs : List Rule
  pub parts : ws ≡ us ++ (spot point j ∷ vs)
  pub body : IsBody (front ++ us) es
  pub rest : IsText vs rs

pub data Tail (ws : List Spot) : Type 0 where
  stops : (j : ℕ) (vs : List Spot) → ws ≡ spot point j ∷ vs → Text vs → Tail ws
  goes : (j : ℕ) (vs : List Spot) → ws ≡ spot comma j ∷ vs → Body [] vs → Tail ws

abbrev Left : Phase → List Spot → Type 0
Left Start ws = Text ws
Left AfterHead ws = (b : List ℕ) (k : ℕ) → Text (spot (name b) k ∷ ws)
Left WantEntry ws = Body [] ws
Left WantName ws = (i : ℕ) → Body (spot negation i ∷ []) ws
Left AfterEntry ws = Tail ws

never : {X : Type 0} {q : Phase} → None ≡ Some q → X
never e = let z : ◌≡◌ {A = ℕ} 0 1 = cc in absurd (omega arith)

-- a name and what is left after the entry that it ends
enters : (front ws : List Spot) (en : Entry) (b : List ℕ) (k : ℕ) → IsEntry (front ++ (spot (name b) k ∷ [])) en → Tail ws → Body front (spot (name b) k ∷ ws)
enters front ws en b k d (stops j vs e t) =
    record { us = spot (name b) k ∷ []; es = en ∷ []; j = j; vs = vs; rs = t.rules; parts = ap (λ l. spot (name b) k ∷ l) e; body = last _ en d; rest = t.derives }
enters front ws en b k d (goes j vs e t) =
    record {
      us = spot (name b) k ∷ (spot comma j ∷ t.us);
      es = en ∷ t.es;
      j = t.j;
      vs = t.vs;
      rs = t.rs;
      parts = ap (λ l. spot (name b) k ∷ l) (e ∙ ap (λ l. spot comma j ∷ l) t.parts);
      body = subst (λ l. IsBody l (en ∷ t.es)) (append_assoc front (spot (name b) k ∷ []) (spot comma j ∷ t.us)) (then _ en j t.us t.es d t.body);
      rest = t.rest;
    }

-- a body and what is left after it, behind what stands before the body
ends : (front ws : List Spot) (h : Head) (b : Body [] ws) → ((j : ℕ) → IsRule (front ++ (b.us ++ (spot point j ∷ []))) (rule h b.es j)) → Text (front ++ ws)
ends front ws h b f =
    let e : (front ++ (b.us ++ (spot point b.j ∷ []))) ++ b.vs ≡ front ++ ws = append_assoc front (b.us ++ (spot point b.j ∷ [])) b.vs ∙ ap (λ l. front ++ l) (append_assoc b.us (spot point b.j ∷ []) b.vs ∙ sym b.parts) in
    record { rules = rule h b.es b.j ∷ b.rs; derives = subst (λ l. IsText l (rule h b.es b.j ∷ b.rs)) e (next _ _ b.vs b.rs (f b.j) b.rest) }

pub sound : (ws : List Spot) (p : Phase) → walk ws p ≡ Some Start → Left p ws
sound [] Start e = record { rules = []; derives = none }
sound [] AfterHead e = let z : ◌≡◌ {A = ℕ} 0 1 = cc in absurd (omega arith)
sound [] WantEntry e = let z : ◌≡◌ {A = ℕ} 0 1 = cc in absurd (omega arith)
sound [] WantName e = let z : ◌≡◌ {A = ℕ} 0 1 = cc in absurd (omega arith)
sound [] AfterEntry e = let z : ◌≡◌ {A = ℕ} 0 1 = cc in absurd (omega arith)
sound (spot (name b) k ∷ ws) Start e = sound ws AfterHead e b k
sound (spot negation k ∷ ws) Start e = never e
sound (spot arrow k ∷ ws) Start e = let t = sound ws WantEntry e in ends (spot arrow k ∷ []) ws headless t (λ j. bar k t.us t.es j t.body)
sound (spot comma k ∷ ws) Start e = never e
sound (spot point k ∷ ws) Start e = never e
sound (spot (name b) k ∷ ws) AfterHead e = never e
sound (spot negation k ∷ ws) AfterHead e = never e
sound (spot arrow i ∷ ws) AfterHead e = λ b k. let t = sound ws WantEntry e in ends (spot (name b) k ∷ (spot arrow i ∷ [])) ws (headed b k) t (λ j. whole b k i t.us t.es j t.body)
sound (spot comma k ∷ ws) AfterHead e = never e
sound (spot point j ∷ ws) AfterHead e = λ b k. let t = sound ws Start e in record { rules = rule (headed b k) [] j ∷ t.rules; derives = next _ _ ws t.rules (fact b k j) t.derives }
sound (spot (name b) k ∷ ws) WantEntry e = enters [] ws (entry 0 b k) b k (plain b k) (sound ws AfterEntry e)
sound (spot negation i ∷ ws) WantEntry e = let t = sound ws WantName e i in record { us = spot negation i ∷ t.us; es = t.es; j = t.j; vs = t.vs; rs = t.rs; parts = ap (λ l. spot negation i ∷ l) t.parts; body = t.body; rest = t.rest }
sound (spot arrow k ∷ ws) WantEntry e = never e
sound (spot comma k ∷ ws) WantEntry e = never e
sound (spot point k ∷ ws) WantEntry e = never e
sound (spot (name b) k ∷ ws) WantName e = λ i. enters (spot negation i ∷ []) ws (entry 1 b k) b k (denied i b k) (sound ws AfterEntry e)
sound (spot negation k ∷ ws) WantName e = never e
sound (spot arrow k ∷ ws) WantName e = never e
sound (spot comma k ∷ ws) WantName e = never e
sound (spot point k ∷ ws) WantName e = never e
sound (spot (name b) k ∷ ws) AfterEntry e = never e
sound (spot negation k ∷ ws) AfterEntry e = never e
sound (spot arrow k ∷ ws) AfterEntry e = never e
sound (spot comma k ∷ ws) AfterEntry e = goes k ws refl (sound ws WantEntry e)
sound (spot point k ∷ ws) AfterEntry e = stops k ws refl (sound ws Start e)

-- each phase can be ended
ending : Phase → List Spot
ending Start = []
ending AfterHead = spot point 0 ∷ []
ending WantEntry = spot (name []) 0 ∷ (spot point 0 ∷ [])
ending WantName = spot (name []) 0 ∷ (spot point 0 ∷ [])
ending AfterEntry = spot point 0 ∷ []

ending_walks : (p : Phase) → walk (ending p) p ≡ Some Start
unfolding ending
ending_walks Start = refl
ending_walks AfterHead = refl
ending_walks WantEntry = refl
ending_walks WantName = refl
ending_walks AfterEntry = refl

-- words that are in place go on to some text
pub viable : (ws : List Spot) (q : Phase) → walk ws Start ≡ Some q → (vs : List Spot) × Text (ws ++ vs)
viable ws q e = (ending q, sound (ws ++ ending q) Start (walk_append ws (ending q) Start ∙ ap (also (walk (ending q))) e ∙ ending_walks q))

-- and after one that is not, none does
pub stuck : (ws : List Spot) (q : Phase) (k : Token) (at : ℕ) → walk ws Start ≡ Some q → onto q k ≡ None → (vs : List Spot) (rs : List Rule) → IsText (ws ++ (spot k at ∷ vs)) rs → ⊥
stuck ws q k at e n vs rs d = never (sym (walk_append ws (spot k at ∷ vs) Start ∙ ap (also (walk (spot k at ∷ vs))) e ∙ ap (also (walk vs)) n) ∙ text_walks d)
