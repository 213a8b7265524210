-- What a condition is asked about.
use Rattle.std.specs.Prelude.{◌≡◌, List, Some}
use Rattle.policy_rules.specs.declared.facts.Facts.{Facts}
use Rattle.policy_eval.specs.History.{Entries}

-- a statement's facts with those of all earlier entries
pub record Case : Type 0 where
  pub earlier : List Facts
  pub facts : Facts

abbrev pub case_of : List Facts → Facts → Case
case_of earlier facts = record { earlier = earlier; facts = facts }

-- there is room for these facts
abbrev pub RoomFor : Entries → Facts → Type 0
RoomFor h facts = h.room ≡ Some facts
