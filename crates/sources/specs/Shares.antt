-- Which half of a group is met by which of two plans joined.
--   Blank   a group that marks nothing
--   Shared  which plan has to fail at a marked statement
use Rattle.std.specs.Prelude.{◌≡◌, ℕ, List, slice_index}
use Rattle.source.specs.Plans.{Marks}
use Rattle.sources.specs.declared.pair.Share.{Share}
use Rattle.sources.specs.declared.pair.Share.TheVariants.{First, Second, Either}

-- each byte is 0
abbrev pub Blank : List ℕ → Type 0
Blank group = (k : ℕ) → slice_index group k ≡ 0

-- by the marks of the two halves of a group
abbrev pub Shared : List ℕ → List ℕ → Share → Type 0
Shared first second First = Marks second → ⊥
Shared first second Second = (Marks first → ⊥) × Marks second
Shared first second Either = Marks first × Marks second
