-- What the program's words give.
use Rattle.std.specs.Prelude.{ℕ, ◌-◌, ◌&&◌, nat_le, true, List, [], ◌∷◌, Option, Some, None, option_and_then, if◌then◌else◌, codes}
use Rattle.clap.specs.Words.{App, Row, Rule, Text, fault_of, first_of, matches_of, new_app, new_rule, with_rule}
use Rattle.clap.specs.Kinds.{Kinds}
use Rattle.scittd.specs.declared.given.Given.{Given}

-- one required positional argument
abbrev pub needed : Text → Rule
needed id = record (new_rule id) { required = true }

-- the command: five of them
abbrev pub app : App
app = with_rule (with_rule (with_rule (with_rule (with_rule (new_app (codes "scittd"))
    (needed (codes "LOG"))) (needed (codes "SEED"))) (needed (codes "PARAMS"))) (needed (codes "LISTEN"))) (needed (codes "WORKERS"))

-- a number from 1 to 8 is one digit
abbrev pub workers_from : Text → Option ℕ
workers_from (digit ∷ []) = if nat_le 49 digit && nat_le digit 56 then Some (digit - 48) else None
workers_from _ = None

-- the names of the files, the address, and how many workers there are
pub record Names : Type 0 where
  pub log : Text
  pub seed : Text
  pub params : Text
  pub listen : Text
  pub workers : ℕ

abbrev pub names_of : Given → Names
names_of g = record { log = g.log.now; seed = g.seed.now; params = g.params.now; listen = g.listen.now; workers = g.workers }

abbrev pub names_from : Option Text → Option Text → Option Text → Option Text → Option ℕ → Option Names
names_from (Some log) (Some seed) (Some params) (Some listen) (Some workers) =
    Some (record { log = log; seed = seed; params = params; listen = listen; workers = workers })
names_from _ _ _ _ _ = None

-- the five arguments' words, the last a number from 1 to 8
abbrev pub names_among : List Row → Option Names
names_among rows = names_from (first_of (codes "LOG") rows) (first_of (codes "SEED") rows) (first_of (codes "PARAMS") rows)
    (first_of (codes "LISTEN") rows) (option_and_then workers_from (first_of (codes "WORKERS") rows))

abbrev pub when_none : Kinds → Option Names → Option Names
when_none [] names = names
when_none (kind ∷ kinds) names = None

-- what these words give: the command's parse of them has no fault, and the last is a number from 1 to 8
unfoldable pub given_in : List Text → Option Names
given_in words = when_none (fault_of app words) (names_among (matches_of app words))
