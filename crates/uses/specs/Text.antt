-- The words, the ways, the tally and the refusals of a sheet as they are printed.
use Rattle.std.specs.Prelude.{ℕ, List, ◌++◌, codes}
use Rattle.std.specs.Fmt.{decimal}
use Rattle.uses.specs.declared.SheetRefusal.{SheetRefusal}
use Rattle.uses.specs.declared.SheetRefusal.TheVariants.{Length, Value, Mark, Wide, Unbegun, Begun, NoneOpen, Group, Name, Statement, Pinned, NoPlan, Candidate}
use Rattle.uses.specs.declared.Tally.{Tally}
use Rattle.uses.specs.declared.Way.{Way}
use Rattle.uses.specs.declared.Way.TheVariants.{Holds, Fails}
use Rattle.uses.specs.declared.Word.{Word}
use Rattle.uses.specs.declared.Word.TheVariants.{Open, Certain, Loose}

abbrev pub word_text : Word → List ℕ
word_text Open = codes "open, not known yet"
word_text Certain = codes "certain, may be promised"
word_text Loose = codes "loose, may not be promised"

abbrev pub way_text : Way → List ℕ
way_text Holds = codes "holds"
way_text Fails = codes "fails"

abbrev pub tally_text : Tally → List ℕ
tally_text t =
    decimal t.open ++ (codes " open, " ++ (decimal t.certain ++ (codes " certain, " ++ (decimal t.loose ++ codes " loose"))))

abbrev pub refusal_text : SheetRefusal → List ℕ
refusal_text Length = codes "not one byte for each statement"
refusal_text Value = codes "a pin holds or fails"
refusal_text Mark = codes "a mark is 0 or 1"
refusal_text Wide = codes "too many statements"
refusal_text Unbegun = codes "the sheet is not begun"
refusal_text Begun = codes "the sheet is begun already"
refusal_text NoneOpen = codes "no candidate is open"
refusal_text Group = codes "not a group of open candidates"
refusal_text Name = codes "no such technique"
refusal_text Statement = codes "no such statement"
refusal_text Pinned = codes "pinned already"
refusal_text NoPlan = codes "no plan agrees with the pins"
refusal_text Candidate = codes "not a candidate"
