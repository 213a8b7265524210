-- Tables of a form, key by key in the order of their bytes.
use Rattle.std.specs.Prelude.{ℕ, ◌&&◌, Bool, true, false, List}
use Rattle.std.specs.Ordering.{nat_cmp}
use Rattle.std.specs.declared.cmp.Ordering.{Ordering}
use Rattle.std.specs.declared.cmp.Ordering.TheVariants.{Less, Equal, Greater}
use Rattle.std.specs.Cmp.Lexicographic.{slice_cmp}
use Rattle.toml.specs.Data.{Data, table, Members, no_members, member}
use Rattle.scitt_forms.specs.declared.refusal.Word.{Word}
use Rattle.scitt_forms.specs.Fields.{name_of}

-- the greatest number of TOML
abbrev pub most_number : ℕ
most_number = 9223372036854775807

abbrev pub is_greater : Ordering → Bool
is_greater Less = false
is_greater Equal = false
is_greater Greater = true

-- a key comes behind all of a table's
abbrev pub comes_last : List ℕ → Members → Bool
comes_last key no_members = true
comes_last key (member other d rest) = is_greater (slice_cmp nat_cmp key other) && comes_last key rest

-- a table with one more key behind its own
abbrev pub put_last : Members → List ℕ → Data → Members
put_last no_members key d = member key d no_members
put_last (member other e rest) key d = member other e (put_last rest key d)

-- a table of one key
abbrev pub one_key : Word → Data → Data
one_key word d = table (member (name_of word) d no_members)
