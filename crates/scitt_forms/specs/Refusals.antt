-- Why a form isn't taken: the table, its key, and one reason.
use Rattle.std.specs.Prelude.{Option, Some, None, Result, Ok, Err}
use Rattle.scitt_forms.specs.declared.refusal.Place.{Place}
use Rattle.scitt_forms.specs.declared.refusal.Word.{Word}
use Rattle.scitt_forms.specs.declared.refusal.Why.{Why}
use Rattle.scitt_forms.specs.declared.refusal.Refusal.{Refusal}

-- what a part of a form says, or why it isn't taken
abbrev pub Said : Type 0 → Type 0
Said A = Result A Refusal

abbrev pub refusal : Place → Word → Why → Refusal
refusal place word why = record { place = place; word = word; why = why }

-- one part and then the next; the first that isn't taken refuses the form
abbrev pub and_then : {A B : Type 0} → Said A → (A → Said B) → Said B
and_then (Ok x) next = next x
and_then (Err r) next = Err r

-- what is there, or this refusal
abbrev pub or_refuse : {A : Type 0} → Refusal → Option A → Said A
or_refuse r None = Err r
or_refuse r (Some x) = Ok x
