-- The names of statements, as parts of two texts: what a row names, and the row that a name is found at.
use Rattle.std.specs.Prelude.{ℕ, ◌+◌, Bool, cond, ◌&&◌, List, length, take, drop, Some, None, Option, ◌==◌, nat_le, nat_lt, slice_index_or}
use Rattle.std.specs.List.{position_from}
use Rattle.std.specs.Str.{bytes_eq}
use Rattle.tables.specs.declared.NameRow.{NameRow}

-- a row of zeros names nothing
abbrev pub blank_name : NameRow
blank_name = record { text = 0; first = 0; size = 0 }

-- two names are the same if their bytes are
abbrev pub same_name : List ℕ → List ℕ → Bool
same_name a b = bytes_eq a b

-- the text that a row speaks of: 0 the region's, 1 the harbour's
abbrev pub text_of : NameRow → List ℕ → List ℕ → List ℕ
text_of r region harbour = cond (r.text == 0) region harbour

-- the row names something: it speaks of one of the two texts, is not empty, and lies in its text
abbrev pub names : NameRow → List ℕ → List ℕ → Bool
names r region harbour = nat_le r.text 1 && (nat_lt 0 r.size && nat_le (r.first + r.size) (length (text_of r region harbour)))

-- the bytes of its text that it speaks of
abbrev pub part_of : NameRow → List ℕ → List ℕ → List ℕ
part_of r region harbour = take r.size (drop r.first (text_of r region harbour))

-- the bytes of a row's name, or nothing
abbrev pub name_of : NameRow → List ℕ → List ℕ → Option (List ℕ)
name_of r region harbour = cond (names r region harbour) (Some (part_of r region harbour)) None

-- the row names these bytes
abbrev pub is_name : List ℕ → List ℕ → List ℕ → NameRow → Bool
is_name region harbour bytes r = names r region harbour && same_name (part_of r region harbour) bytes

-- the number of the lowest row that names these bytes, where the rows are numbered from n
abbrev pub found : List ℕ → List ℕ → List ℕ → ℕ → List NameRow → Option ℕ
found region harbour bytes = position_from (is_name region harbour bytes)

-- the name of statement n among the first `count` rows, or nothing
abbrev pub statement_name : List ℕ → List ℕ → ℕ → ℕ → List NameRow → Option (List ℕ)
statement_name region harbour n count rows = cond (nat_lt n count && nat_lt n (length rows)) (name_of (slice_index_or rows n blank_name) region harbour) None
