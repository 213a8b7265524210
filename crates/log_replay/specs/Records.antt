-- The log as a list of record bodies, and what is read from it.
use Rattle.std.specs.Prelude.{ℕ, ◌+◌, max, List, [], ◌∷◌, ◌++◌, ◌&&◌, nat_lt, nat_le, ◌==◌, if◌then◌else◌, Option, None, Some, length, flat_map, filter_map, option_map, option_and_then, fold, sum_by, map}
use Rattle.cbor_core.specs.declared.tree.Item.{Item}
use Rattle.cbor_core.specs.Decoding.{strict_item}
use Rattle.cbor_core.specs.Items.{uint_in, bytes_in, text_in, array_in, is_uint, uint_item, bytes_item, text_item, array_item}
use Rattle.lms_ots.specs.Parameters.{parameters, type_of_code}
use Rattle.lms_tree.specs.declared.types.Level.{Level}
use Rattle.lms_tree.specs.Types.{lms_parameters, lms_type_of_code}
use Rattle.statement.specs.Said.{Said, logged_statement}
use Rattle.policy_rules.specs.declared.documents.Holder.{Holder}
use Rattle.policy_rules.specs.Conditions.{each_onto}
use Rattle.policy_rules.specs.Spelling.{holder_item}
use Rattle.log_replay.specs.declared.parts.Header.{Header}
use Rattle.log_replay.specs.declared.parts.BatchParts.{BatchParts}
use Rattle.log_replay.specs.declared.parts.EntryParts.{EntryParts}

-- the kinds of record
pub data Record : Type 0 where
  header_record : Header → Record
  reserve_record : ℕ → Record
  batch_record : BatchParts → Record

-- ---- the shapes of the records

-- a holder whose names are of any length
abbrev pub holder_from : Option (List ℕ) → Option (List ℕ) → Option (List ℕ) → Option Holder
holder_from (Some iss) (Some kid) (Some key) = if length key == 60 then Some (record { iss = iss; kid = kid; key = key }) else None
holder_from _ _ _ = None

abbrev pub holder_of_parts : List Item → Option Holder
holder_of_parts (iss ∷ kid ∷ key ∷ []) = holder_from (text_in iss) (bytes_in kid) (bytes_in key)
holder_of_parts _ = None

abbrev pub any_holder_in : Item → Option Holder
any_holder_in item = option_and_then holder_of_parts (array_in item)

-- a level by its LMS and its LM-OTS code
abbrev pub level_by : ℕ → ℕ → Option Level
level_by lms ots = option_and_then (λ l. option_map (λ o. record { lms = l; ots = o }) (type_of_code ots)) (lms_type_of_code lms)

abbrev pub level_from : Option ℕ → Option ℕ → Option Level
level_from (Some lms) (Some ots) = level_by lms ots
level_from _ _ = None

abbrev pub level_of_parts : List Item → Option Level
level_of_parts (lms ∷ ots ∷ []) = level_from (uint_in lms) (uint_in ots)
level_of_parts _ = None

abbrev pub level_in : Item → Option Level
level_in item = option_and_then level_of_parts (array_in item)

abbrev pub levels_in : Item → Option (List Level)
levels_in item = option_and_then (each_onto level_in []) (array_in item)

-- the version that a header has
abbrev pub version : ℕ
version = 1

abbrev pub header_from : Option (List ℕ) → Option Holder → Option (List ℕ) → Option (List Level) → Option ℕ → Option ℕ → Option Record
header_from (Some name) (Some governor) (Some key) (Some levels) (Some max_entries) (Some block) =
    if length key == 60
    then Some (header_record (record { name = name; governor = governor; key = key; levels = levels; max_entries = max_entries; block = block }))
    else None
header_from _ _ _ _ _ _ = None

abbrev pub entries_array : Item → Option (List (List ℕ))
entries_array item = option_and_then (each_onto bytes_in []) (array_in item)

abbrev pub batch_from : Option (List (List ℕ)) → Option ℕ → Option (List ℕ) → Option BatchParts
batch_from (Some entries) (Some index) (Some signature) = Some (record { entries = entries; index = index; signature = signature })
batch_from _ _ _ = None

abbrev pub record_of_parts : List Item → Option Record
record_of_parts (kind ∷ upto ∷ []) = if is_uint 1 kind then option_map reserve_record (uint_in upto) else None
record_of_parts (kind ∷ entries ∷ index ∷ signature ∷ []) =
    if is_uint 2 kind then option_map batch_record (batch_from (entries_array entries) (uint_in index) (bytes_in signature)) else None
record_of_parts (kind ∷ form ∷ name ∷ governor ∷ key ∷ levels ∷ max_entries ∷ block ∷ []) =
    if is_uint 0 kind && is_uint version form
    then header_from (text_in name) (any_holder_in governor) (bytes_in key) (levels_in levels) (uint_in max_entries) (uint_in block)
    else None
record_of_parts _ = None

abbrev pub record_in : Item → Option Record
record_in item = option_and_then record_of_parts (array_in item)

-- the most bytes that a body may have
abbrev pub most_body : ℕ
most_body = 16777216

-- the record that a body strictly spells; a Batch may have any number of entries here
unfoldable pub record_of : List ℕ → Option Record
record_of body = if nat_lt most_body (length body) then None else option_and_then record_in (strict_item body)

-- what a Batch record of one entry holds
abbrev pub one_entry : BatchParts → Option BatchParts
one_entry b = if length b.entries == 1 then Some b else None

abbrev pub batch_in : Option Record → Option BatchParts
batch_in (Some (batch_record b)) = one_entry b
batch_in _ = None

-- ---- the items of the records

abbrev pub level_item : Level → Item
level_item l = array_item (uint_item (lms_parameters l.lms).code ∷ uint_item (parameters l.ots).code ∷ [])

abbrev pub record_item : Record → Item
record_item (header_record h) =
    array_item (uint_item 0 ∷ uint_item version ∷ text_item h.name ∷ holder_item h.governor ∷ bytes_item h.key
    ∷ array_item (map level_item h.levels) ∷ uint_item h.max_entries ∷ uint_item h.block ∷ [])
record_item (reserve_record upto) = array_item (uint_item 1 ∷ uint_item upto ∷ [])
record_item (batch_record b) = array_item (uint_item 2 ∷ array_item (map bytes_item b.entries) ∷ uint_item b.index ∷ bytes_item b.signature ∷ [])

-- ---- what a log says, each read from the whole list

abbrev pub Log : Type 0
Log = List (List ℕ)

abbrev pub records_of : Log → List Record
records_of R = filter_map record_of R

abbrev pub header_first : List Record → Option Header
header_first (header_record h ∷ rs) = Some h
header_first _ = None

-- the header, record 0
abbrev pub header_of : Log → Option Header
header_of R = header_first (records_of R)

abbrev pub entries_in : Record → List (List ℕ)
entries_in (batch_record b) = b.entries
entries_in _ = []

-- the entries' byte strings, the leaves of the tree
abbrev pub leaves_of : Log → List (List ℕ)
leaves_of R = flat_map entries_in (records_of R)

abbrev pub reserved_after : ℕ → Record → ℕ
reserved_after last (reserve_record upto) = upto
reserved_after last _ = last

-- the last Reserve, or 0
abbrev pub reserved_of : Log → ℕ
reserved_of R = fold reserved_after 0 (records_of R)

abbrev pub used_after : ℕ → Record → ℕ
used_after n (batch_record b) = max n (b.index + 1)
used_after n _ = n

-- one above the greatest index used, or 0
abbrev pub used_of : Log → ℕ
used_of R = fold used_after 0 (records_of R)

-- ---- entries

-- an entry: when it was registered, by which rule, and the statement
pub record Entry : Type 0 where
  pub at : ℕ
  pub rule : ℕ
  pub statement : Said

abbrev pub entry_item : ℕ → ℕ → List ℕ → Item
entry_item at rule logged = array_item (uint_item 1 ∷ uint_item at ∷ uint_item rule ∷ bytes_item logged ∷ [])

abbrev pub parts_from : Option ℕ → Option ℕ → Option (List ℕ) → Option EntryParts
parts_from (Some at) (Some rule) (Some logged) = if nat_le rule 65535 then Some (record { at = at; rule = rule; logged = logged }) else None
parts_from _ _ _ = None

abbrev pub entry_of_parts : List Item → Option EntryParts
entry_of_parts (one ∷ at ∷ rule ∷ logged ∷ []) = if is_uint 1 one then parts_from (uint_in at) (uint_in rule) (bytes_in logged) else None
entry_of_parts _ = None

abbrev pub entry_in : Item → Option EntryParts
entry_in item = option_and_then entry_of_parts (array_in item)

-- the parts of the strict `[1, at, rule, bytes]` that these bytes are
unfoldable pub parts_of : List ℕ → Option EntryParts
parts_of leaf = option_and_then entry_in (strict_item leaf)

abbrev pub entry_with : EntryParts → Option Entry
entry_with parts = option_map (λ s. record { at = parts.at; rule = parts.rule; statement = s }) (logged_statement parts.logged)

-- the entry that these bytes are, its statement being equal to its logged form
unfoldable pub entry_of : List ℕ → Option Entry
entry_of leaf = option_and_then entry_with (parts_of leaf)

abbrev pub entries_of : Log → List Entry
entries_of R = filter_map entry_of (leaves_of R)

abbrev pub logged_bytes : List Entry → ℕ
logged_bytes E = sum_by (λ e. length e.statement.logged) E

-- ---- where entries and batches stand

abbrev pub entries_at : Option Record → List (List ℕ)
entries_at None = []
entries_at (Some r) = entries_in r

abbrev pub homes_from : ℕ → Log → List ℕ
homes_from n [] = []
homes_from n (body ∷ R) = map (λ leaf. n) (entries_at (record_of body)) ++ homes_from (n + 1) R

-- for each entry the number of the record that holds it
abbrev pub homes_of : Log → List ℕ
homes_of R = homes_from 0 R

-- a Batch with the number of entries up to and with it
pub record Signed : Type 0 where
  pub size : ℕ
  pub index : ℕ
  pub signature : List ℕ

abbrev pub signed_from : ℕ → List Record → List Signed
signed_from n [] = []
signed_from n (batch_record b ∷ rs) =
    record { size = n + length b.entries; index = b.index; signature = b.signature } ∷ signed_from (n + length b.entries) rs
signed_from n (_ ∷ rs) = signed_from n rs

abbrev pub batches_of : Log → List Signed
batches_of R = signed_from 0 (records_of R)
