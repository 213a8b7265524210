-- A Reserve that is needed reads as one.
use Rattle.std.proofs.Common.{◌≡◌, ℕ, zero, suc, List, [], ◌∷◌, ◌++◌, Bool, true, false, if◌then◌else◌, Option, None, Some, refl, sym, ap, ◌∙◌, length}
use Rattle.std.specs.Prelude.{nat_lt, option_map, option_and_then}
use Rattle.cbor_core.specs.declared.words.Grammar.{Grammar}
use Rattle.cbor_core.specs.declared.words.Grammar.TheVariants.{Strict}
use Rattle.cbor_core.specs.Head.{head_at}
use Rattle.cbor_core.specs.declared.tree.Item.{Item}
use Rattle.cbor_core.specs.declared.tree.Node.TheVariants.{outs-Uint, outs-Array}
use Rattle.cbor_core.specs.Limits.{most_containers}
use Rattle.cbor_core.specs.Items.{uint_at, array_at, uint_in, array_in, is_number, uint_item, array_item}
use Rattle.cbor_core.specs.Decoding.{strict_item, whole}
use Rattle.cbor_core.specs.Reading.{read_in}
use Rattle.cbor_core.specs.Encoding.{text_or, spell_in}
use Rattle.log_replay.specs.declared.parts.Header.{Header}
use Rattle.log_replay.specs.Records.{Log, Record, reserve_record, record_of, record_in, record_item, record_of_parts, most_body}
use Rattle.log_replay.specs.WellMade.{WellMade, WellMadeAfter, failing_of}
use Rattle.log_replay.specs.Spelling.{body_of}
use Rattle.registrar.specs.Turns.{reserve_needed}
use Rattle.registrar.proofs.Rising.{Laws, readable}

-- the needed record is a Reserve
pub is_reserve : (test : Bool) (h : Option Header) (R : Log) (needed : List ℕ) → (if test then option_map (λ k. reserve_needed k R) h else None) ≡ Some needed → (upto : ℕ) × (needed ≡ body_of (reserve_record upto))
is_reserve true (Some h) R needed e = (_, let same : reserve_needed h R ≡ needed = cc in sym same)
is_reserve true None R needed e = cc
is_reserve false h R needed e = cc

-- a front of a well made log is well made
made_front : (P xs ys : Log) → WellMadeAfter P (xs ++ ys) → WellMadeAfter P xs
made_front P [] ys made = tt
made_front P (x ∷ xs) ys made = (made.0, made_front (P ++ x ∷ []) xs ys made.1)

pub made_less : (R : Log) (body : List ℕ) → WellMade (R ++ body ∷ []) → WellMade R
made_less R body made = made_front [] R (body ∷ []) made

uint_reads : (n : ℕ) → uint_in (uint_item n) ≡ Some n
uint_reads n = ap uint_at (outs-Uint n)

array_reads : (items : List Item) → array_in (array_item items) ≡ Some items
array_reads items = ap array_at (outs-Array items)

reserve_reads : (upto : ℕ) → record_in (record_item (reserve_record upto)) ≡ Some (reserve_record upto)
reserve_reads upto =
    ap (option_and_then record_of_parts) (array_reads (uint_item 1 ∷ uint_item upto ∷ []))
    ∙ ap (λ o. if is_number 1 o then option_map reserve_record (uint_in (uint_item upto)) else None) (uint_reads 1)
    ∙ ap (option_map reserve_record) (uint_reads upto)

in_room : (t : Bool) (o : Option Record) (r : Record) → (if t then None else o) ≡ Some r → (if t then None else o) ≡ o
in_room true o r e = cc
in_room false o r e = refl

-- no bytes spell nothing
no_item : (g : Grammar) (room : ℕ) → whole (read_in g room []) ≡ None
unfolding read_in head_at
no_item g zero = refl
no_item g (suc room) = refl

clash : (o : Option Record) (r : Record) → o ≡ Some r → o ≡ None → ⊥
clash None r e f = cc
clash (Some x) r e f = cc

no_text : (r : Record) → record_of [] ≡ Some r → ⊥
unfolding record_of strict_item
no_text r e =
    clash (record_of []) r e
    (in_room (nat_lt most_body 0) (option_and_then record_in (strict_item [])) r e ∙ ap (option_and_then record_in) (no_item Strict most_containers))

by_text : Laws → (upto : ℕ) (o : Option (List ℕ)) (n : List ℕ) (r : Record) → spell_in Strict most_containers (record_item (reserve_record upto)) ≡ o → n ≡ text_or o → record_of n ≡ Some r
    → record_of n ≡ Some (reserve_record upto)
unfolding record_of
by_text laws upto None n r spelled is reads = absurd (no_text r (ap record_of (sym is) ∙ reads))
by_text laws upto (Some t) n r spelled is reads =
    let item = record_item (reserve_record upto) in
    let found : strict_item n ≡ Some item = ap strict_item is ∙ laws.item t item (laws.text item t spelled) in
    in_room (nat_lt most_body (length n)) (option_and_then record_in (strict_item n)) r reads ∙ ap (option_and_then record_in) found ∙ reserve_reads upto

pub reads_reserve : Laws → (R : Log) (n : List ℕ) (upto : ℕ) → failing_of R n ≡ None → n ≡ body_of (reserve_record upto) → record_of n ≡ Some (reserve_record upto)
unfolding body_of
reads_reserve laws R n upto none is =
    let r = readable R n none in
    by_text laws upto (spell_in Strict most_containers (record_item (reserve_record upto))) n r.0 refl is r.1
