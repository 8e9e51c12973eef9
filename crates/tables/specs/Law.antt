-- What reading means: which texts are accepted and what their rows say, and why and where a text is refused.
use Rattle.std.specs.Prelude.{◌≡◌, ℕ, ◌+◌, true, List, [], ◌∷◌, ◌++◌, length, take, Some, None, Ok, Err}
use Rattle.words.specs.Words.{Token}
use Rattle.words.specs.Running.{Running, running}
use Rattle.words.specs.declared.Fault as Words
use Rattle.tables.specs.declared.Fault.{Fault}
use Rattle.tables.specs.declared.Cause.{Cause}
use Rattle.tables.specs.declared.Cause.TheVariants.{OutOfPlace, NoNameRow, NoEntryRow, NoRuleRow}
use Rattle.rulebook.specs.declared.row.RuleRow.{RuleRow}
use Rattle.tables.specs.Feed.{Tables, Texts}
use Rattle.tables.specs.Numbers.{owner_number}
use Rattle.tables.specs.Reading.{stop_of}
use Rattle.tables.specs.Grammar.{Spot, spot, spots, Rule, IsText}
use Rattle.tables.specs.Beginnings.{Ended, EndsAt, Begins}
use Rattle.tables.specs.Meaning.{Says}
use Rattle.tables.specs.Only.{OnlyNew}
use Rattle.tables.specs.Room.{known_in, used_in, none_known, new_names, NamesFit, RulesFit, EntriesFit, Fits}
use Rattle.tables.specs.Draft.{Counts, Outcome, line_of, cleared_tables, refused, refusal_of, texts_for}

-- the text is written as these rules: its words end with it, and the grammar derives them
pub record WrittenAs (text : List ℕ) (rs : List Rule) : Type 0 where
  pub ended : Ended (running text 0)
  pub derives : IsText (spots (running text 0)) rs

-- the rows then say the rules: the rows of rules and entries by the names found in the name rows, and the new name rows are those of the names used first, in their order
pub record Means (d : Counts) (text earlier : List ℕ) (t : Tables) (rs : List Rule) (o : Outcome) : Type 0 where
  pub texts : o.counts.texts ≡ d.texts + 1
  pub new_rules : List RuleRow
  pub new_entries : List ℕ
  pub says : Says (texts_for d.texts text earlier) (take o.counts.names o.tables.names) rs d.entries new_rules new_entries
  pub rules : take o.counts.rules o.tables.rules ≡ take d.rules t.rules ++ new_rules
  pub entries : take o.counts.entries o.tables.entries ≡ take d.entries t.entries ++ new_entries
  pub names : take o.counts.names o.tables.names ≡ take d.names t.names ++ new_names (texts_for d.texts text earlier) (known_in (texts_for d.texts text earlier) (take d.names t.names)) (spots (running text 0))

module _ (x : Texts) (d : Counts) (t : Tables) where
  -- what speaks against the word w after the words us
  pub data Against (us : List Spot) (w : Spot) : Cause → Type 0 where
    -- no text goes on with it
    misplaced : (Begins (us ++ (w ∷ [])) → ⊥) → Against us w OutOfPlace
    -- it is in place, and a new name that finds no row
    no_name_row : Begins (us ++ (w ∷ [])) → (NamesFit x (known_in x (take d.names t.names)) (length t.names) d.names (us ++ (w ∷ [])) → ⊥) → Against us w NoNameRow
    -- its name has a row, and its entry finds none
    no_entry_row : Begins (us ++ (w ∷ [])) → NamesFit x (known_in x (take d.names t.names)) (length t.names) d.names (us ++ (w ∷ []))
        → (EntriesFit true (length t.entries) d.entries (us ++ (w ∷ [])) → ⊥) → Against us w NoEntryRow
    -- it ends a rule that finds no row
    no_rule_row : Begins (us ++ (w ∷ [])) → (RulesFit (length t.rules) d.rules (us ++ (w ∷ [])) → ⊥) → Against us w NoRuleRow

  -- the first fault in a text of that size with these words: all before it is in place and has its rows
  pub data FirstFault (ws : Running) (size : ℕ) : Cause → ℕ → Type 0 where
    at_word : (us : List Spot) (k : Token) (at : ℕ) (vs : List Spot) (c : Cause) → spots ws ≡ us ++ (spot k at ∷ vs)
        → Begins us → Fits x d t us → Against us (spot k at) c → FirstFault ws size c at
    -- the text ends inside a rule
    at_end : Ended ws → Begins (spots ws) → ((rs : List Rule) → IsText (spots ws) rs → ⊥) → Fits x d t (spots ws) → FirstFault ws size OutOfPlace size
    -- what comes after the words is no word
    at_no_word : (f : Words.Fault) → EndsAt f ws → Begins (spots ws) → Fits x d t (spots ws) → FirstFault ws size (stop_of f).cause (stop_of f).at

-- a text that was begun and refused: the fault is the first, the draft is as before, and every row past its counts is zero
pub record Refuted (d : Counts) (text earlier : List ℕ) (t : Tables) (f : Fault) (o : Outcome) : Type 0 where
  pub first : FirstFault (texts_for d.texts text earlier) d t (running text 0) (length text) f.cause f.byte
  pub text_number : owner_number f.text ≡ d.texts
  pub line : f.line ≡ line_of text f.byte
  pub counts : o.counts ≡ d
  pub tables : o.tables ≡ cleared_tables d t

-- the whole law of reading: the draft d, the text, the earlier text and the tables t lead to the outcome o
pub record Reads (d : Counts) (text earlier : List ℕ) (t : Tables) (o : Outcome) : Type 0 where
  -- where something speaks against the text before it is read, nothing changes
  pub unread : (c : Cause) → refusal_of d text t ≡ Some c → o ≡ refused c d t
  -- what is accepted is rules that have their rows, and the tables then say them
  pub granted : o.result ≡ Ok tt → (rs : List Rule) × WrittenAs text rs × Fits (texts_for d.texts text earlier) d t (spots (running text 0)) × Means d text earlier t rs o
  -- rules that have their rows are accepted
  pub accepts : refusal_of d text t ≡ None → (rs : List Rule) → WrittenAs text rs → Fits (texts_for d.texts text earlier) d t (spots (running text 0)) → o.result ≡ Ok tt
  -- any other text is refused at its first fault
  pub refuted : refusal_of d text t ≡ None → (f : Fault) → o.result ≡ Err f → Refuted d text earlier t f o
  -- after a region's text that was read first, the harbour's new names are those that are not used in it: numbers go on in the order of first use
  pub onward : d.texts ≡ 1 → take d.names t.names ≡ new_names (texts_for 0 earlier []) none_known (spots (running earlier 0)) → o.result ≡ Ok tt
      → take o.counts.names o.tables.names
      ≡ new_names (texts_for 0 earlier []) none_known (spots (running earlier 0)) ++ new_names (texts_for 1 text earlier) (used_in (spots (running earlier 0))) (spots (running text 0))
  -- on success only newly counted rows are written
  pub fresh : o.result ≡ Ok tt → OnlyNew d o.counts t o.tables
