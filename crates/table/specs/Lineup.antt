-- Lines as the calls leave them.
use Rattle.std.specs.Prelude.{ℕ, Bool, false, cond, List, Option, Some, None, ◌==◌, nat_lt, slice_index}
use Rattle.std.specs.Option.{unwrap_or}
use Rattle.uses.specs.Model.{word_number, counted_by}
use Rattle.uses.specs.declared.Word.{Word}
use Rattle.uses.specs.declared.Word.TheVariants.{Open, Certain, Loose}
use Rattle.table.specs.declared.line.Line.{Line}
use Rattle.table.specs.Blank.{line_at}

-- the width over which a sheet was begun, 0 where it is not begun
abbrev pub width_of : Option ℕ → ℕ
width_of None = 0
width_of (Some w) = w

-- begun over the width w
abbrev pub begun_over : Option ℕ → ℕ → Bool
begun_over None w = false
begun_over (Some v) w = v == w

-- a candidate's line with the word v
abbrev pub line_has : Word → Line → Bool
line_has v l = cond l.candidate (word_number l.word == word_number v) false

-- the word by a byte of a plan: loose if it says that the statement fails, else open
abbrev pub word_in : ℕ → Word
word_in byte = cond (byte == 2) Loose Open

-- a line as a sheet begins, by its candidate mark and its byte in the plan
abbrev pub begun_line : ℕ → ℕ → Line
begun_line mark byte = record { candidate = (mark == 1); pin = 0; word = cond (mark == 1) (word_in byte) Open }

-- the byte of the statement k in a plan, if a plan came
abbrev pub byte_in : Option (List ℕ) → ℕ → Option ℕ
byte_in None k = None
byte_in (Some plan) k = Some (slice_index plan k)

-- the word of a line after a settling, by its byte in the plan, if a plan came
abbrev pub settled_word : Option ℕ → Line → ℕ → Word
settled_word (Some byte) l mark = cond (line_has Open l) (cond (byte == 2) Loose l.word) l.word
settled_word None l mark = cond (mark == 1) Certain l.word

-- a line after a settling
abbrev pub settled_line : Option ℕ → Line → ℕ → Line
settled_line byte l mark = record { candidate = l.candidate; pin = l.pin; word = settled_word byte l mark }

-- the word of a candidate after a pin that was kept, which is the line's own pin if there is one
abbrev pub pinned_word : Option ℕ → Word → ℕ → Word
pinned_word pin v byte =
    cond (unwrap_or pin 0 == 1) Certain (cond (word_number v == word_number Certain) Certain (word_in byte))

-- a line after a pin that was kept, which is the line's own pin if there is one
abbrev pub pinned_line : Option ℕ → Line → ℕ → Line
pinned_line pin l byte =
    record {
      candidate = l.candidate;
      pin = unwrap_or pin l.pin;
      word = cond l.candidate (pinned_word pin l.word byte) l.word;
    }

-- line k is one of the lowest open ones, `limit` at most
abbrev pub lowest_of : List Line → ℕ → ℕ → Bool
lowest_of rows limit k =
    cond (line_has Open (line_at rows k)) (nat_lt (counted_by (λ j. line_has Open (line_at rows j)) k) limit) false
