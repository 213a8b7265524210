-- A refusal in words: the table, unless it is the form as a whole, the key, and the reason.
use Rattle.std.specs.Prelude.{ℕ, ◌++◌, List, [], codes}
use Rattle.std.specs.Fmt.{decimal}
use Rattle.scitt_forms.specs.declared.refusal.Place.{Place}
use Rattle.scitt_forms.specs.declared.refusal.Word.{Word}
use Rattle.scitt_forms.specs.declared.refusal.Word.TheVariants.{Form}
use Rattle.scitt_forms.specs.declared.refusal.Why.{Why}
use Rattle.scitt_forms.specs.declared.refusal.Why.TheVariants as y
use Rattle.scitt_forms.specs.declared.refusal.Refusal.{Refusal}
use Rattle.scitt_forms.specs.Fields.{name_of}

abbrev pub reason : Why → List ℕ
reason y.Toml = codes "toml"
reason y.Missing = codes "missing"
reason y.Kind = codes "kind"
reason y.Hex = codes "hex"
reason y.Negative = codes "negative"
reason y.Unknown = codes "unknown"
reason y.Deep = codes "deep"
reason y.Both = codes "both"
reason y.Named = codes "named"
reason y.Limits = codes "limits"

-- a table by its list and its index there
abbrev pub table_text : Word → ℕ → List ℕ
table_text Form index = []
table_text list index = name_of list ++ codes " " ++ decimal index ++ codes " "

abbrev pub refusal_text : Refusal → List ℕ
refusal_text r = table_text r.place.list r.place.index ++ name_of r.word ++ codes " " ++ reason r.why
