-- The keys of a form's tables (TOML 1.0), and what they hold.
use Rattle.std.specs.Prelude.{ℕ, ℤ, pos, negsuc, ◌&&◌, ◌++◌, Bool, true, false, List, [], ◌∷◌, length, Option, Some, None, option_and_then, Result, Ok, Err, codes, if◌then◌else◌}
use Rattle.std.specs.List.{list_any}
use Rattle.std.specs.Str.{bytes_eq}
use Rattle.hex.specs.Hex.{decode_of, decode_sized}
use Rattle.hex.specs.declared.error.FromHexError.{FromHexError}
use Rattle.toml.specs.Data.{Data, Items, no_items, item, Members, no_members, member, get_member, as_str, as_integer, as_array, as_table}
use Rattle.scitt_forms.specs.declared.refusal.Place.{Place}
use Rattle.scitt_forms.specs.declared.refusal.Word.{Word}
use Rattle.scitt_forms.specs.declared.refusal.Word.TheVariants as w
use Rattle.scitt_forms.specs.declared.refusal.Why.TheVariants.{Missing, Kind, Hex, Negative, Unknown}
use Rattle.scitt_forms.specs.Refusals.{Said, refusal, and_then, or_refuse}

-- the key of each word
abbrev pub name_of : Word → List ℕ
name_of w.Form = codes "form"
name_of w.Keys = codes "keys"
name_of w.Version = codes "version"
name_of w.Governor = codes "governor"
name_of w.Issuer = codes "issuer"
name_of w.Rule = codes "rule"
name_of w.Service = codes "service"
name_of w.Iss = codes "iss"
name_of w.Kid = codes "kid"
name_of w.Key = codes "key"
name_of w.Id = codes "id"
name_of w.Effect = codes "effect"
name_of w.Admit = codes "admit"
name_of w.Deny = codes "deny"
name_of w.Condition = codes "condition"
name_of w.All = codes "all"
name_of w.Any = codes "any"
name_of w.Not = codes "not"
name_of w.SubjectPrefix = codes "subject_prefix"
name_of w.ContentType = codes "content_type"
name_of w.PayloadAtMost = codes "payload_at_most"
name_of w.FirstOfSubject = codes "first_of_subject"
name_of w.CountBelow = codes "issuer_count_below"
name_of w.Prior = codes "prior_issuer"
name_of w.Name = codes "name"
name_of w.Levels = codes "levels"
name_of w.MaxEntries = codes "max_entries"
name_of w.Block = codes "block"

-- a value under a key, or none
abbrev pub under : Word → Members → Option Data
under word table = get_member (name_of word) table

-- a value under a key that must stand
abbrev pub value_said : Place → Word → Members → Said Data
value_said place word table = or_refuse (refusal place word Missing) (under word table)

-- a value as a text, as a number that isn't negative, and as a table
abbrev pub as_text : Place → Word → Data → Said (List ℕ)
as_text place word d = or_refuse (refusal place word Kind) (as_str d)

abbrev pub unsigned : Place → Word → ℤ → Said ℕ
unsigned place word (pos n) = Ok n
unsigned place word (negsuc n) = Err (refusal place word Negative)

abbrev pub as_number : Place → Word → Data → Said ℕ
as_number place word d = and_then (or_refuse (refusal place word Kind) (as_integer d)) (unsigned place word)

abbrev pub as_members : Place → Word → Data → Said Members
as_members place word d = or_refuse (refusal place word Kind) (as_table d)

abbrev pub as_items : Place → Word → Data → Said Items
as_items place word d = or_refuse (refusal place word Kind) (as_array d)

-- the text, and the number, under a key
abbrev pub text_said : Place → Word → Members → Said (List ℕ)
text_said place word table = and_then (value_said place word table) (as_text place word)

abbrev pub number_said : Place → Word → Members → Said ℕ
number_said place word table = and_then (value_said place word table) (as_number place word)

-- hexadecimal digits of either case
abbrev pub decoded : Place → Word → Result (List ℕ) FromHexError → Said (List ℕ)
decoded place word (Ok bytes) = Ok bytes
decoded place word (Err e) = Err (refusal place word Hex)

abbrev pub bytes_of : Place → Word → List ℕ → Said (List ℕ)
bytes_of place word text = decoded place word (decode_of text)

-- 60 bytes as 120 digits
abbrev pub key_of : Place → List ℕ → Said (List ℕ)
key_of place text = decoded place w.Key (decode_sized text 60)

abbrev pub key_said : Place → Members → Said (List ℕ)
key_said place table = and_then (text_said place w.Key table) (key_of place)

-- what each item says, behind those in front; the place of an item counts from 0
abbrev pub each_onto : {A : Type 0} → (ℕ → Data → Said A) → List A → Items → Said (List A)
each_onto part front no_items = Ok front
each_onto part front (item d ds) = and_then (part (length front) d) (λ x. each_onto part (front ++ x ∷ []) ds)

-- the tables under a key; none where the key doesn't stand
abbrev pub tables_under : Word → Place → Option Data → Said Items
tables_under word place None = Ok no_items
tables_under word place (Some d) = as_items place word d

-- the place of a table in a list
abbrev pub placed : Word → ℕ → Place
placed list index = record { list = list; index = index }

-- the place of what stands in no list
abbrev pub form : Place
form = placed w.Form 0

-- each key of the table is one of these
abbrev pub is_known : List Word → List ℕ → Bool
is_known known key = list_any (λ word. bytes_eq (name_of word) key) known

abbrev pub all_known : List Word → Members → Bool
all_known known no_members = true
all_known known (member key d rest) = is_known known key && all_known known rest

-- a table that has no key beside these
abbrev pub when_known : {A : Type 0} → Place → List Word → Members → Said A → Said A
when_known place known table said = if all_known known table then said else Err (refusal place w.Keys Unknown)
