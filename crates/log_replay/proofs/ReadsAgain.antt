-- What a record or an entry is written as reads as it.
use Rattle.std.proofs.Common.{◌≡◌, ℕ, ◌+◌, ◌<◌, ◌≤◌, List, [], ◌∷◌, ◌++◌, Bool, true, ◌&&◌, ◌==◌, Option, None, Some, refl, sym, ap, ◌∙◌, append_assoc, length, arith}
use Rattle.std.specs.Prelude.{Result, Ok, Err, IfOk, map, option_map, option_and_then, if◌then◌else◌}
use Rattle.std.proofs.lemmas.Bool.{le-ltb, le-leb, eq-eqb}
use Rattle.cbor_core.specs.declared.tree.Item.{Item}
use Rattle.cbor_core.specs.declared.tree.Node.TheVariants.{outs-Uint, outs-Bytes, outs-Text, outs-Array}
use Rattle.cbor_core.specs.Items.{uint_at, bytes_at, text_at, array_at, uint_in, bytes_in, text_in, array_in, is_number, is_uint, uint_item, bytes_item, text_item, array_item}
use Rattle.cbor_core.specs.Decoding.{strict_item}
use Rattle.lms_ots.specs.declared.parameters.OtsType.{OtsType}
use Rattle.lms_ots.specs.declared.parameters.OtsType.TheVariants.{W1, W2, W4, W8}
use Rattle.lms_ots.specs.Parameters.{parameters, type_of_code}
use Rattle.lms_tree.specs.declared.types.LmsType.{LmsType}
use Rattle.lms_tree.specs.declared.types.LmsType.TheVariants.{H5, H10, H15, H20, H25}
use Rattle.lms_tree.specs.declared.types.Level.{Level}
use Rattle.lms_tree.specs.Types.{lms_parameters, lms_type_of_code}
use Rattle.policy_rules.specs.declared.documents.Holder.{Holder}
use Rattle.policy_rules.specs.Conditions.{each_onto}
use Rattle.policy_rules.specs.Spelling.{holder_item}
use Rattle.log_replay.specs.declared.parts.Header.{Header}
use Rattle.log_replay.specs.declared.parts.BatchParts.{BatchParts}
use Rattle.log_replay.specs.Records.{Record, header_record, reserve_record, batch_record, record_of, record_in, record_item, record_of_parts, header_from, holder_from, holder_of_parts, any_holder_in, level_by, level_from, level_of_parts, level_in, levels_in, level_item, batch_from, entries_array, entry_item, entry_in, entry_of_parts, parts_from, parts_of}
use Rattle.log_replay.specs.Spelling.{body_of, entry_bytes, IsWritten, FitsIn, IsBodyOf, IsEntryOf}

uint_reads : (n : ℕ) → uint_in (uint_item n) ≡ Some n
uint_reads n = ap uint_at (outs-Uint n)

bytes_reads : (b : List ℕ) → bytes_in (bytes_item b) ≡ Some b
bytes_reads b = ap bytes_at (outs-Bytes b)

text_reads : (b : List ℕ) → text_in (text_item b) ≡ Some b
text_reads b = ap text_at (outs-Text b)

array_reads : (items : List Item) → array_in (array_item items) ≡ Some items
array_reads items = ap array_at (outs-Array items)

each_bytes : (front xs : List (List ℕ)) → each_onto bytes_in front (map bytes_item xs) ≡ Some (front ++ xs)
each_bytes front [] = ap Some (sym (Rattle.std.proofs.Common.append-nil front))
each_bytes front (x ∷ xs) =
    ap (option_and_then (λ b. each_onto bytes_in (front ++ b ∷ []) (map bytes_item xs))) (bytes_reads x)
    ∙ each_bytes (front ++ x ∷ []) xs ∙ ap Some (append_assoc front (x ∷ []) xs)

pub reserve_reads : (upto : ℕ) → record_in (record_item (reserve_record upto)) ≡ Some (reserve_record upto)
reserve_reads upto =
    ap (option_and_then record_of_parts) (array_reads (uint_item 1 ∷ uint_item upto ∷ []))
    ∙ ap (λ o. if is_number 1 o then option_map reserve_record (uint_in (uint_item upto)) else None) (uint_reads 1)
    ∙ ap (option_map reserve_record) (uint_reads upto)

pub batch_reads : (b : BatchParts) → record_in (record_item (batch_record b)) ≡ Some (batch_record b)
batch_reads b =
    let entries = array_item (map bytes_item b.entries) in
    let last : Option (List (List ℕ)) → Option ℕ → Option (List ℕ) → Option Record = λ es i s. option_map batch_record (batch_from es i s) in
    ap (option_and_then record_of_parts) (array_reads (uint_item 2 ∷ entries ∷ uint_item b.index ∷ bytes_item b.signature ∷ []))
    ∙ ap (λ o. if is_number 2 o then last (entries_array entries) (uint_in (uint_item b.index)) (bytes_in (bytes_item b.signature)) else None) (uint_reads 2)
    ∙ ap (λ o. last (option_and_then (each_onto bytes_in []) o) (uint_in (uint_item b.index)) (bytes_in (bytes_item b.signature))) (array_reads (map bytes_item b.entries))
    ∙ ap (λ o. last o (uint_in (uint_item b.index)) (bytes_in (bytes_item b.signature))) (each_bytes [] b.entries)
    ∙ ap (λ o. last (Some b.entries) o (bytes_in (bytes_item b.signature))) (uint_reads b.index)
    ∙ ap (last (Some b.entries) (Some b.index)) (bytes_reads b.signature)

lms_known : (l : LmsType) → lms_type_of_code (lms_parameters l).code ≡ Some l
lms_known H5 = refl
lms_known H10 = refl
lms_known H15 = refl
lms_known H20 = refl
lms_known H25 = refl

ots_known : (o : OtsType) → type_of_code (parameters o).code ≡ Some o
ots_known W1 = refl
ots_known W2 = refl
ots_known W4 = refl
ots_known W8 = refl

level_known : (l : Level) → level_by (lms_parameters l.lms).code (parameters l.ots).code ≡ Some l
level_known l =
    ap (option_and_then (λ (k : LmsType). option_map (λ (o : OtsType). record { lms = k; ots = o }) (type_of_code (parameters l.ots).code))) (lms_known l.lms)
    ∙ ap (option_map (λ (o : OtsType). record { lms = l.lms; ots = o })) (ots_known l.ots)

level_reads : (l : Level) → level_in (level_item l) ≡ Some l
level_reads l =
    let lms = (lms_parameters l.lms).code in
    let ots = (parameters l.ots).code in
    ap (option_and_then level_of_parts) (array_reads (uint_item lms ∷ uint_item ots ∷ []))
    ∙ ap (λ o. level_from o (uint_in (uint_item ots))) (uint_reads lms)
    ∙ ap (level_from (Some lms)) (uint_reads ots)
    ∙ level_known l

each_level : (front ls : List Level) → each_onto level_in front (map level_item ls) ≡ Some (front ++ ls)
each_level front [] = ap Some (sym (Rattle.std.proofs.Common.append-nil front))
each_level front (l ∷ ls) =
    ap (option_and_then (λ (x : Level). each_onto level_in (front ++ x ∷ []) (map level_item ls))) (level_reads l)
    ∙ each_level (front ++ l ∷ []) ls ∙ ap Some (append_assoc front (l ∷ []) ls)

levels_read : (ls : List Level) → levels_in (array_item (map level_item ls)) ≡ Some ls
levels_read ls = ap (option_and_then (each_onto level_in [])) (array_reads (map level_item ls)) ∙ each_level [] ls

holder_reads : (h : Holder) → length h.key ≡ 60 → any_holder_in (holder_item h) ≡ Some h
holder_reads h sixty =
    ap (option_and_then holder_of_parts) (array_reads (text_item h.iss ∷ bytes_item h.kid ∷ bytes_item h.key ∷ []))
    ∙ ap (λ o. holder_from o (bytes_in (bytes_item h.kid)) (bytes_in (bytes_item h.key))) (text_reads h.iss)
    ∙ ap (λ o. holder_from (Some h.iss) o (bytes_in (bytes_item h.key))) (bytes_reads h.kid)
    ∙ ap (holder_from (Some h.iss) (Some h.kid)) (bytes_reads h.key)
    ∙ ap (λ (t : Bool). if t then Some h else None) (eq-eqb (length h.key) 60 sixty)

pub header_reads : (h : Header) → length h.governor.key ≡ 60 → length h.key ≡ 60 → record_in (record_item (header_record h)) ≡ Some (header_record h)
header_reads h governor sixty =
    let parts = uint_item 0 ∷ uint_item 1 ∷ text_item h.name ∷ holder_item h.governor ∷ bytes_item h.key ∷ array_item (map level_item h.levels) ∷ uint_item h.max_entries ∷ uint_item h.block ∷ [] in
    let tail = header_from (text_in (text_item h.name)) (any_holder_in (holder_item h.governor)) (bytes_in (bytes_item h.key)) (levels_in (array_item (map level_item h.levels))) (uint_in (uint_item h.max_entries)) (uint_in (uint_item h.block)) in
    ap (option_and_then record_of_parts) (array_reads parts)
    ∙ ap (λ o. if is_number 0 o && is_uint 1 (uint_item 1) then tail else None) (uint_reads 0)
    ∙ ap (λ o. if is_number 1 o then tail else None) (uint_reads 1)
    ∙ ap (λ o. header_from o (any_holder_in (holder_item h.governor)) (bytes_in (bytes_item h.key)) (levels_in (array_item (map level_item h.levels))) (uint_in (uint_item h.max_entries)) (uint_in (uint_item h.block))) (text_reads h.name)
    ∙ ap (λ (o : Option Holder). header_from (Some h.name) o (bytes_in (bytes_item h.key)) (levels_in (array_item (map level_item h.levels))) (uint_in (uint_item h.max_entries)) (uint_in (uint_item h.block))) (holder_reads h.governor governor)
    ∙ ap (λ o. header_from (Some h.name) (Some h.governor) o (levels_in (array_item (map level_item h.levels))) (uint_in (uint_item h.max_entries)) (uint_in (uint_item h.block))) (bytes_reads h.key)
    ∙ ap (λ (o : Option (List Level)). header_from (Some h.name) (Some h.governor) (Some h.key) o (uint_in (uint_item h.max_entries)) (uint_in (uint_item h.block))) (levels_read h.levels)
    ∙ ap (λ o. header_from (Some h.name) (Some h.governor) (Some h.key) (Some h.levels) o (uint_in (uint_item h.block))) (uint_reads h.max_entries)
    ∙ ap (header_from (Some h.name) (Some h.governor) (Some h.key) (Some h.levels) (Some h.max_entries)) (uint_reads h.block)
    ∙ ap (λ (t : Bool). if t then Some (header_record h) else None) (eq-eqb (length h.key) 60 sixty)

pub entry_reads : (at rule : ℕ) (logged : List ℕ) → rule ≤ 65535 → entry_in (entry_item at rule logged) ≡ Some (record { at = at; rule = rule; logged = logged })
entry_reads at rule logged small =
    ap (option_and_then entry_of_parts) (array_reads (uint_item 1 ∷ uint_item at ∷ uint_item rule ∷ bytes_item logged ∷ []))
    ∙ ap (λ o. if is_number 1 o then parts_from (uint_in (uint_item at)) (uint_in (uint_item rule)) (bytes_in (bytes_item logged)) else None) (uint_reads 1)
    ∙ ap (λ o. parts_from o (uint_in (uint_item rule)) (bytes_in (bytes_item logged))) (uint_reads at)
    ∙ ap (λ o. parts_from (Some at) o (bytes_in (bytes_item logged))) (uint_reads rule)
    ∙ ap (parts_from (Some at) (Some rule)) (bytes_reads logged)
    ∙ ap (λ (t : Bool). if t then Some (record { at = at; rule = rule; logged = logged }) else None) (le-leb rule 65535 small)

pub record_again : (r : Record) (body : List ℕ) → IsWritten (record_item r) body → length body ≤ 16777216 → record_in (record_item r) ≡ Some r → record_of body ≡ Some r
unfolding record_of
record_again r body written short reads =
    ap (λ t. if t then None else option_and_then record_in (strict_item body)) (le-ltb 16777216 (length body) short)
    ∙ ap (option_and_then record_in) written.read ∙ reads

pub entry_again : (at rule : ℕ) (logged leaf : List ℕ) → IsWritten (entry_item at rule logged) leaf → rule ≤ 65535 → parts_of leaf ≡ Some (record { at = at; rule = rule; logged = logged })
unfolding parts_of
entry_again at rule logged leaf written small = ap (option_and_then entry_in) written.read ∙ entry_reads at rule logged small

pub body_again : (n : ℕ) (r : Record) (body : List ℕ) → FitsIn n (record_item r) → n ≤ 16777216 → record_in (record_item r) ≡ Some r → IsWritten (record_item r) body → IsBodyOf r body
unfolding body_of
body_again n r body fits few reads written =
    let len = written.len in
    let short = fits.short in
    let some = fits.some in
    let most : length body ≤ 16777216 = omega (arith, len, short, few) in
    record { written = written.written; read = record_again r body written most reads; some = omega (arith, len, some); short = most }

pub entry_whole : (at rule : ℕ) (logged leaf : List ℕ) → FitsIn (45 + length logged) (entry_item at rule logged) → rule ≤ 65535 → IsWritten (entry_item at rule logged) leaf → IsEntryOf at rule logged leaf
unfolding entry_bytes
entry_whole at rule logged leaf fits small written =
    let len = written.len in
    let short = fits.short in
    record { written = written.written; read = entry_again at rule logged leaf written small; short = omega (arith, len, short) }

-- what holds of an Ok value
pub if_ok : {A E : Type 0} (r : Result A E) (P Q : A → Type 0) → ((x : A) → P x → Q x) → IfOk r P → IfOk r Q
if_ok (Ok x) P Q step fact = step x fact
if_ok (Err e) P Q step fact = tt
