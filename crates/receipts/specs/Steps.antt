-- Steps of which each needs what the one before found.
use Rattle.std.specs.Prelude.{Option, Some, None, Result, Ok, Err}

abbrev pub and_then : {A B E : Type 0} → Result A E → (A → Result B E) → Result B E
and_then (Ok found) next = next found
and_then (Err stop) next = Err stop

abbrev pub or_stop : {A E : Type 0} → E → Option A → Result A E
or_stop stop None = Err stop
or_stop stop (Some x) = Ok x
