-- The bytes of an entry that can be read at all read as it.
use Rattle.std.proofs.Common.{◌≡◌, ℕ, zero, suc, List, [], ◌∷◌, Bool, true, false, if◌then◌else◌, Option, None, Some, refl, sym, ap, ◌∙◌}
use Rattle.std.specs.Prelude.{option_map, option_and_then}
use Rattle.cbor_core.specs.declared.words.Grammar.{Grammar}
use Rattle.cbor_core.specs.declared.words.Grammar.TheVariants.{Strict}
use Rattle.cbor_core.specs.Head.{head_at}
use Rattle.cbor_core.specs.declared.tree.Item.{Item}
use Rattle.cbor_core.specs.declared.tree.Node.TheVariants.{outs-Uint, outs-Bytes, outs-Array}
use Rattle.cbor_core.specs.Limits.{most_containers}
use Rattle.cbor_core.specs.Items.{uint_at, bytes_at, array_at, uint_in, bytes_in, array_in, is_number, uint_item, bytes_item, array_item}
use Rattle.cbor_core.specs.Decoding.{strict_item, whole, SpelledIsItem}
use Rattle.cbor_core.specs.Reading.{read_in}
use Rattle.cbor_core.specs.Encoding.{text_or, spell_in}
use Rattle.cbor_core.specs.Exact.{TextIsSpelled}
use Rattle.statement.specs.Said.{Said, logged_statement}
use Rattle.log_replay.specs.declared.parts.EntryParts.{EntryParts}
use Rattle.log_replay.specs.Records.{Entry, entry_item, entry_in, entry_of_parts, parts_from, parts_of, entry_with, entry_of}
use Rattle.log_replay.specs.Spelling.{entry_bytes}

uint_reads : (n : ℕ) → uint_in (uint_item n) ≡ Some n
uint_reads n = ap uint_at (outs-Uint n)

bytes_reads : (b : List ℕ) → bytes_in (bytes_item b) ≡ Some b
bytes_reads b = ap bytes_at (outs-Bytes b)

array_reads : (items : List Item) → array_in (array_item items) ≡ Some items
array_reads items = ap array_at (outs-Array items)

entry_parts : (at rule : ℕ) (logged : List ℕ) → entry_in (entry_item at rule logged) ≡ parts_from (Some at) (Some rule) (Some logged)
entry_parts at rule logged =
    ap (option_and_then entry_of_parts) (array_reads (uint_item 1 ∷ uint_item at ∷ uint_item rule ∷ bytes_item logged ∷ []))
    ∙ ap (λ o. if is_number 1 o then parts_from (uint_in (uint_item at)) (uint_in (uint_item rule)) (bytes_in (bytes_item logged)) else None) (uint_reads 1)
    ∙ ap (λ o. parts_from o (uint_in (uint_item rule)) (bytes_in (bytes_item logged))) (uint_reads at)
    ∙ ap (λ o. parts_from (Some at) o (bytes_in (bytes_item logged))) (uint_reads rule)
    ∙ ap (parts_from (Some at) (Some rule)) (bytes_reads logged)

-- no bytes spell nothing
no_item : (g : Grammar) (room : ℕ) → whole (read_in g room []) ≡ None
unfolding read_in head_at
no_item g zero = refl
no_item g (suc room) = refl

none_there : strict_item [] ≡ None
unfolding strict_item
none_there = no_item Strict most_containers

-- the parts, where the rule is small enough for an entry
chosen : (b : Bool) (p : EntryParts) (e : Entry) (s : Said) → logged_statement p.logged ≡ Some s
    → option_and_then entry_with (if b then Some p else None) ≡ Some e
    → option_and_then entry_with (if b then Some p else None) ≡ Some (record { at = p.at; rule = p.rule; statement = s })
chosen true p e s reads is = ap (option_map (λ (x : Said). record { at = p.at; rule = p.rule; statement = x })) reads
chosen false p e s reads is = cc

by_text : SpelledIsItem → TextIsSpelled → (at rule : ℕ) (s : Said) (leaf : List ℕ) (e : Entry) (o : Option (List ℕ)) → spell_in Strict most_containers (entry_item at rule s.logged) ≡ o
    → leaf ≡ text_or o → logged_statement s.logged ≡ Some s → entry_of leaf ≡ Some e → entry_of leaf ≡ Some (record { at = at; rule = rule; statement = s })
unfolding entry_of parts_of
by_text item text at rule s leaf e None spelled is reads entry =
    let none : entry_of leaf ≡ None = ap (λ o. option_and_then entry_with (option_and_then entry_in o)) (ap strict_item is ∙ none_there) in
    cc
by_text item text at rule s leaf e (Some t) spelled is reads entry =
    let it = entry_item at rule s.logged in
    let found : strict_item leaf ≡ Some it = ap strict_item is ∙ item t it (text it t spelled) in
    let parts : entry_of leaf ≡ option_and_then entry_with (parts_from (Some at) (Some rule) (Some s.logged)) =
    ap (λ o. option_and_then entry_with (option_and_then entry_in o)) found ∙ ap (option_and_then entry_with) (entry_parts at rule s.logged) in
    parts ∙ chosen _ (record { at = at; rule = rule; logged = s.logged }) e s reads (sym parts ∙ entry)

pub entry_reads_back : SpelledIsItem → TextIsSpelled → (at rule : ℕ) (s : Said) (leaf : List ℕ) (e : Entry) → leaf ≡ entry_bytes at rule s.logged → logged_statement s.logged ≡ Some s
    → entry_of leaf ≡ Some e → entry_of leaf ≡ Some (record { at = at; rule = rule; statement = s })
unfolding entry_bytes
entry_reads_back item text at rule s leaf e is reads entry =
    by_text item text at rule s leaf e (spell_in Strict most_containers (entry_item at rule s.logged)) refl is reads entry
