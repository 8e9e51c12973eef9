-- The limits of a draft, and the head of a rule that has none.
use Rattle.std.specs.Prelude.{ℕ}

-- how many bytes a text may have
abbrev pub text_max : ℕ
text_max = 65536

-- how many texts a draft takes
abbrev pub texts_max : ℕ
texts_max = 2

-- how many names
abbrev pub names_max : ℕ
names_max = 512

-- how many rules
abbrev pub rules_max : ℕ
rules_max = 2048

-- how many entries
abbrev pub entries_max : ℕ
entries_max = 8192

-- the head of a rule that has none
abbrev pub no_head : ℕ
no_head = 65535
