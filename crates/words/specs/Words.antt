-- The words of a rule text: what parts words, what a name is, and the word that stands at a place.
use Rattle.std.specs.Prelude.{ℕ, ◌+◌, Bool, true, false, cond, not, ◌&&◌, ◌||◌, List, [], ◌∷◌, length, take, drop, Some, None, Ok, Err, codes, Option, Result, ◌==◌, nat_le, nat_lt, slice_index}
use Rattle.std.specs.List.{prefix_len}
use Rattle.std.specs.Str.{bytes_eq}
use Rattle.words.specs.declared.Word.{Word}
use Rattle.words.specs.declared.Kind.{Kind}
use Rattle.words.specs.declared.Kind.TheVariants.{Name, Not, Arrow, Comma, Point}
use Rattle.words.specs.declared.Fault.{Fault}
use Rattle.words.specs.declared.FaultKind.TheVariants.{NoWord, LongName}

-- A word by what it says: a name has its bytes.
pub data Token : Type 0 where
  name : List ℕ → Token
  negation : Token
  arrow : Token
  comma : Token
  point : Token

-- what a word's kind in the code says
abbrev pub said : Kind → Token
said (Name bytes) = name bytes.now
said Not = negation
said Arrow = arrow
said Comma = comma
said Point = point

-- what a word of the code says
abbrev pub token_of : Word → Token
token_of w = said w.kind

-- where its first byte stands
abbrev pub place_of : Word → ℕ
place_of w = w.at

-- how many bytes of a name a word has
abbrev pub size_of : Token → ℕ
size_of (name bytes) = length bytes
size_of negation = 0
size_of arrow = 0
size_of comma = 0
size_of point = 0

-- What reading gives: a word with its place, the end of the text, or a fault; each with the place after it.
pub data Reading : Type 0 where
  word : Token → ℕ → ℕ → Reading
  end : ℕ → Reading
  fault : Fault → ℕ → Reading

-- the same of what the reader's call returns, with the reader's position then
abbrev pub reading : Result (Option Word) Fault → ℕ → Reading
reading (Ok (Some w)) p = word (token_of w) (place_of w) p
reading (Ok None) p = end p
reading (Err f) p = fault f p

-- a line feed ends a line
abbrev pub ends_line : ℕ → Bool
ends_line b = b == 10

-- space, tab, line feed and carriage return part words
abbrev pub is_blank : ℕ → Bool
is_blank b = b == 32 || (b == 9 || (b == 10 || b == 13))

-- a to z
abbrev pub is_letter : ℕ → Bool
is_letter b = nat_le 97 b && nat_le b 122

-- a to z, 0 to 9 and underscore go on with a name
abbrev pub is_name_byte : ℕ → Bool
is_name_byte b = is_letter b || ((nat_le 48 b && nat_le b 57) || b == 95)

-- How many bytes at the front part words: blanks, and comments from % to the end of the line or the text. `inside` says that a comment has begun.
abbrev pub blanks : Bool → List ℕ → ℕ
blanks inside [] = 0
blanks true (b ∷ bs) = 1 + blanks (not (ends_line b)) bs
blanks false (b ∷ bs) = cond (b == 37) (1 + blanks true bs) (cond (is_blank b) (1 + blanks false bs) 0)

-- `not` is no name
abbrev pub name_token : List ℕ → Token
name_token bytes = cond (bytes_eq bytes (codes "not")) negation (name bytes)

-- The name at the front of s, which begins at `at`: as long as possible, and at most 32 bytes.
abbrev pub name_at : List ℕ → ℕ → Reading
name_at s at = cond (nat_lt 32 (prefix_len is_name_byte s)) (fault (record { kind = LongName; at = at }) at) (word (name_token (take (prefix_len is_name_byte s) s)) at (at + prefix_len is_name_byte s))

-- A colon, and a hyphen directly after it.
abbrev pub is_arrow : List ℕ → Bool
is_arrow s = slice_index s 0 == 58 && slice_index s 1 == 45

-- The word at the front of s, which begins at `at` and does not begin with a blank.
abbrev pub word_at : List ℕ → ℕ → Reading
word_at [] at = end at
word_at (b ∷ s) at =
    cond (is_letter b) (name_at (b ∷ s) at)
    (cond (b == 44) (word comma at (at + 1))
    (cond (b == 46) (word point at (at + 1))
    (cond (is_arrow (b ∷ s)) (word arrow at (at + 2)) (fault (record { kind = NoWord; at = at }) at))))

-- the next word of a text from a place on
abbrev pub next_word : List ℕ → ℕ → Reading
next_word text from = word_at (drop (from + blanks false (drop from text)) text) (from + blanks false (drop from text))
