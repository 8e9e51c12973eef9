-- The techniques of settling by their names.
use Rattle.std.specs.Prelude.{ℕ, cond, List, Ok, Err, codes, Result, ◌==◌}
use Rattle.std.specs.Str.{bytes_eq}
use Rattle.uses.specs.declared.SheetRefusal.{SheetRefusal}
use Rattle.uses.specs.declared.SheetRefusal.TheVariants.{Group, Name}
use Rattle.checks.specs.declared.technique.Technique.{Technique}
use Rattle.checks.specs.declared.technique.Technique.TheVariants.{Over, Under, Chunk}

-- the technique of a name
abbrev pub technique_of : List ℕ → Result Technique SheetRefusal
technique_of name =
    cond (bytes_eq name (codes "over")) (Ok Over)
    (cond (bytes_eq name (codes "under")) (Ok Under)
    (cond (bytes_eq name (codes "chunk")) (Ok Chunk) (Err Name)))

-- how many of the lowest open candidates a technique marks, at most
abbrev pub limit_by : Technique → ℕ → ℕ → Result ℕ SheetRefusal
limit_by Over size w = Ok w
limit_by Under size w = Ok 1
limit_by Chunk size w = cond (size == 0) (Err Group) (Ok size)

-- the same by the name of a technique, if it is one
abbrev pub limit_from : Result Technique SheetRefusal → ℕ → ℕ → Result ℕ SheetRefusal
limit_from (Ok technique) size w = limit_by technique size w
limit_from (Err e) size w = Err e

abbrev pub limit_of : List ℕ → ℕ → ℕ → Result ℕ SheetRefusal
limit_of name size w = limit_from (technique_of name) size w
