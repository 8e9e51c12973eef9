-- The numbers of causes and of texts, and how a fault and a number of no text are written.
use Rattle.std.specs.Prelude.{ℕ, cond, List, ◌++◌, Ok, Err, Result, codes, decimal, ◌==◌}
use Rattle.tables.specs.declared.Fault.{Fault}
use Rattle.tables.specs.declared.NoText.{NoText}
use Rattle.tables.specs.declared.Owner.{Owner}
use Rattle.tables.specs.declared.Owner.TheVariants.{Region, Harbour}
use Rattle.tables.specs.declared.Cause.{Cause}
use Rattle.tables.specs.declared.Cause.TheVariants.{LongText, ThirdText, ShortTable, NoWord, LongName, OutOfPlace, NoNameRow, NoEntryRow, NoRuleRow}

-- the number of each cause for which a text is refused
abbrev pub number_of : Cause → ℕ
number_of LongText = 14
number_of ThirdText = 15
number_of ShortTable = 16
number_of NoWord = 20
number_of LongName = 21
number_of OutOfPlace = 22
number_of NoNameRow = 23
number_of NoEntryRow = 24
number_of NoRuleRow = 25

-- the number of each text
abbrev pub owner_number : Owner → ℕ
owner_number Region = 0
owner_number Harbour = 1

-- whose text has the number, or none
abbrev pub owner_numbered : ℕ → Result Owner NoText
owner_numbered n = cond (n == 0) (Ok Region) (cond (n == 1) (Ok Harbour) (Err (record { number = n })))

-- a number that is no text's, as it is printed
abbrev pub no_text_line : NoText → List ℕ
no_text_line n = codes "no text has number " ++ decimal n.number

-- a fault, as it is printed
abbrev pub fault_text : Fault → List ℕ
fault_text f = codes "fault " ++ (decimal (number_of f.cause) ++ (codes " text " ++ (decimal (owner_number f.text) ++ (codes " byte " ++ (decimal f.byte ++ (codes " line " ++ decimal f.line))))))
