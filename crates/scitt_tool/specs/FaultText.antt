-- How a fault of CBOR is printed.
use Rattle.std.specs.Prelude.{ℕ, ◌++◌, List, codes}
use Rattle.std.specs.Fmt.{decimal}
use Rattle.cbor_core.specs.declared.words.Fault.{Fault}
use Rattle.cbor_core.specs.declared.words.Why.{Why}
use Rattle.cbor_core.specs.declared.words.Why.TheVariants.{Truncated, Reserved, Indefinite, NotShortest, FloatHere, TooLong, TooDeep, NotUtf8, DupKey, KeyOrder, Trailing}

-- a reason by its name
abbrev pub why_text : Why → List ℕ
why_text Truncated = codes "Truncated"
why_text Reserved = codes "Reserved"
why_text Indefinite = codes "Indefinite"
why_text NotShortest = codes "NotShortest"
why_text FloatHere = codes "FloatHere"
why_text TooLong = codes "TooLong"
why_text TooDeep = codes "TooDeep"
why_text NotUtf8 = codes "NotUtf8"
why_text DupKey = codes "DupKey"
why_text KeyOrder = codes "KeyOrder"
why_text Trailing = codes "Trailing"

-- the reason and the place
abbrev pub fault_text : Fault → List ℕ
fault_text fault = why_text fault.why ++ codes " at " ++ decimal fault.at
