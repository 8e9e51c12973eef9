-- What the tables of a rulebook mean, and what the turns of its rules promise.
use Rattle.std.specs.Prelude.{◌≡◌, ℕ, ◌+◌, ◌*◌, ◌/◌, ◌%◌, ◌<◌, ◌≤◌, Bool, true, false, not, ◌≢◌, ◌⊎◌, List, map, count_by, length, Option as Maybe, Some, None, if◌then◌else◌, ◌==◌, Ok, Err, Result, take, drop, slice_index, slice_index_or}
use Rattle.std.proofs.Math.Option.{some}
use Rattle.closing.specs.Sets.{holds, contrary, In, Within, Under, Codes}
use Rattle.closing.specs.Turns.{Further}
use Rattle.closing.specs.declared.Clash.{Clash}
use Rattle.closing.specs.declared.Few.{Few}
use Rattle.closing.specs.declared.Few.TheVariants.{Nothing, Only, Several}
use Rattle.stable.specs.Books.{Rule, Book, HeadFails, no_rule, Unfounded, Cancelled}
use Rattle.rulebook.specs.declared.row.RuleRow.{RuleRow}
use Rattle.rulebook.specs.Rows.{blank}
use Rattle.turns.specs.Meaning.{lifted, rule_of, book_of}

-- whether an entry of a body is contradicted
abbrev pub Hit : List ℕ → List ℕ → Bool → Type 0
Hit p b true = (k : ℕ) × (k < length b) × (holds p (contrary (slice_index b k)) ≡ true)
Hit p b false = (k : ℕ) → k < length b → holds p (contrary (slice_index b k)) ≡ false

-- forward and contraposition for one rule
pub record RowKept (C : ℕ → Bool) (r : Rule) : Type 0 where
  pub forward : (h : ℕ) → r.head ≡ some h → ((e : ℕ) → In e r.body → C e ≡ true) → C (2 * h) ≡ true
  pub contraposition : (e : ℕ) → HeadFails C r.head → In e r.body → ((f : ℕ) → In f r.body → f ≢ e → C f ≡ true) → C (contrary e) ≡ true

-- one turn under a law: nothing to do, or further, or no consistent set under the law has all of p
abbrev pub LawTurn : ((ℕ → Bool) → Type 0) → List ℕ → List ℕ → Result Bool Clash → Type 0
LawTurn L p q (Ok false) = (q ≡ p) × L (holds p)
LawTurn L p q (Ok true) = Further L p q
LawTurn L p q (Err c) = (C : ℕ → Bool) → L C → Under C p → (e : ℕ) × (e < 2 * length p) × (C e ≡ true) × (C (contrary e) ≡ true)

-- the head of a row as code has it
abbrev pub head_in : RuleRow → Maybe ℕ
head_in r = if r.head == 65535 then None else Some r.head

-- the rule of a head and a body
abbrev pub rule_from : Maybe ℕ → List ℕ → Rule
rule_from h b = record { head = lifted h; body = b }

-- the rule in a row of the table
abbrev pub rule_at : List RuleRow → List ℕ → ℕ → Rule
rule_at rows entries i = slice_index_or (map (rule_of entries) rows) i no_rule

-- what sealing makes sure of: heads, runs and entries stay within their counts
pub record TableOk (n : ℕ) (rows : List RuleRow) (entries : List ℕ) : Type 0 where
  pub narrow : n ≤ 512
  pub runs : (k : ℕ) (d : RuleRow) → k < length rows → (slice_index_or rows k d).first + (slice_index_or rows k d).count ≤ length entries
  pub heads : (k : ℕ) (d : RuleRow) → k < length rows → ((slice_index_or rows k d).head < n) ⊎ ((slice_index_or rows k d).head ≡ 65535)
  pub codes : Codes n entries

-- FOUNDED STATEMENTS: those marked

abbrev pub marked : List Bool → ℕ → Bool
marked m s = slice_index_or m s false

-- how many are not marked
abbrev pub unmarked : List Bool → ℕ
unmarked m = count_by not m

-- whether no entry of a body is contradicted and all its plain entries are marked
abbrev pub BodyFounded : List ℕ → List Bool → List ℕ → Bool → Type 0
BodyFounded p m b true = (k : ℕ) → k < length b → (holds p (contrary (slice_index b k)) ≡ false) × (slice_index b k % 2 ≡ 0 → marked m (slice_index b k / 2) ≡ true)
BodyFounded p m b false =
    (k : ℕ) × (k < length b) × ((holds p (contrary (slice_index b k)) ≡ true) ⊎ ((slice_index b k % 2 ≡ 0) × (marked m (slice_index b k / 2) ≡ false)))

-- no unfounded set has a marked statement
abbrev pub Never : Book → (ℕ → Bool) → List Bool → Type 0
Never rb D m = (U : ℕ → Bool) → Within rb.width U → Unfounded rb D U → (s : ℕ) → marked m s ≡ true → U s ≡ false

-- the entries of a row
abbrev pub body_of : List ℕ → RuleRow → List ℕ
body_of es r = take r.count (drop r.first es)

-- the rule's head is marked, or the rule cannot found it
abbrev pub RowDone : List ℕ → List Bool → RuleRow → List ℕ → Type 0
RowDone p m r es = (r.head ≢ 65535) → (marked m r.head ≡ true) ⊎ BodyFounded p m (body_of es r) false

-- a row has marked its head, or is done
abbrev pub MarkTurn : List ℕ → List RuleRow → List ℕ → RuleRow → List Bool → List Bool → Bool → Type 0
MarkTurn p rows es r m m' true =
    (unmarked m' < unmarked m) × (Never (book_of (length p) rows es) (holds p) m → Never (book_of (length p) rows es) (holds p) m')
MarkTurn p rows es r m m' false = (m' ≡ m) × RowDone p m r es

-- after the rows below i: something is marked, or nothing is and these rows are done
abbrev pub MarkedTo : List ℕ → List RuleRow → List ℕ → List Bool → ℕ → List Bool → Bool → Type 0
MarkedTo p rows es m i m' true = unmarked m' < unmarked m
MarkedTo p rows es m i m' false = (m' ≡ m) × ((k : ℕ) → k < i → RowDone p m (slice_index_or rows k blank) es)

-- a pass over all rows has marked something, or every row is done
abbrev pub MarkPass : List ℕ → List RuleRow → List ℕ → List Bool → List Bool → Bool → Type 0
MarkPass p rows es m m' true = (unmarked m' < unmarked m) × Never (book_of (length p) rows es) (holds p) m'
MarkPass p rows es m m' false = (m' ≡ m) × ((k : ℕ) → k < length rows → RowDone p m (slice_index_or rows k blank) es)

-- a family of laws, one for each number below n
abbrev pub AllOf : (ℕ → (ℕ → Bool) → Type 0) → ℕ → (ℕ → Bool) → Type 0
AllOf L n C = (k : ℕ) → k < n → L k C

-- after the turns below i: nothing has changed and these laws keep p, or further
abbrev pub Through : (ℕ → (ℕ → Bool) → Type 0) → ℕ → List ℕ → ℕ → List ℕ → Bool → Type 0
Through L n p i q true = Further (AllOf L n) p q
Through L n p i q false = (q ≡ p) × ((k : ℕ) → k < i → L k (holds p))

-- k fails where it is not marked
abbrev pub FailAt : List Bool → ℕ → (ℕ → Bool) → Type 0
FailAt m k C = marked m k ≡ false → C (2 * k + 1) ≡ true

-- every statement of an unfounded set fails
abbrev pub UnfoundedFail : Book → (ℕ → Bool) → Type 0
UnfoundedFail rb C = (U : ℕ → Bool) → Within rb.width U → Unfounded rb C U → (s : ℕ) → U s ≡ true → C (2 * s + 1) ≡ true

-- SUPPORT: the rules of a statement that are not cancelled

-- whether the row has the head s and is not cancelled
abbrev pub Supports : List ℕ → RuleRow → List ℕ → ℕ → Bool → Type 0
Supports p r es s true = (r.head ≡ s) × Hit p (body_of es r) false
Supports p r es s false = r.head ≡ s → Hit p (body_of es r) true

-- how many rows support s
abbrev pub SupportIs : List ℕ → List RuleRow → List ℕ → ℕ → Few ℕ → Type 0
SupportIs p rows es s Nothing = (k : ℕ) → k < length rows → Supports p (slice_index_or rows k blank) es s false
SupportIs p rows es s (Only i) =
    (i < length rows) × Supports p (slice_index_or rows i blank) es s true ×
    ((k : ℕ) → k < length rows → k ≢ i → Supports p (slice_index_or rows k blank) es s false)
SupportIs p rows es s Several =
    (i j : ℕ) × (i < length rows) × (j < length rows) × (i ≢ j) × Supports p (slice_index_or rows i blank) es s true × Supports p (slice_index_or rows j blank) es s true

-- the k-th entry holds
abbrev pub HoldAt : List ℕ → ℕ → (ℕ → Bool) → Type 0
HoldAt b k C = C (slice_index b k) ≡ true

-- all cancelled and backchain for one statement
pub record StatementKept (rows : List RuleRow) (es : List ℕ) (s : ℕ) (C : ℕ → Bool) : Type 0 where
  pub all_cancelled : ((i : ℕ) → i < length rows → (rule_at rows es i).head ≡ some s → Cancelled C (rule_at rows es i)) → C (2 * s + 1) ≡ true
  pub backchain : (i : ℕ) → i < length rows → (rule_at rows es i).head ≡ some s → C (2 * s) ≡ true →
      ((j : ℕ) → j < length rows → j ≢ i → (rule_at rows es j).head ≡ some s → Cancelled C (rule_at rows es j)) →
      (e : ℕ) → In e (rule_at rows es i).body → C e ≡ true
