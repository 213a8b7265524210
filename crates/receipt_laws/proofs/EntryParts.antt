-- What an entry's bytes say, where they are spelled.
use Rattle.std.proofs.Common.{◌≡◌, ℕ, zero, suc, Bool, true, false, List, [], ◌∷◌, Option, None, Some, refl, sym, ap, ◌∙◌, subst, arith}
use Rattle.std.specs.Prelude.{nat_le, option_map, option_and_then, if◌then◌else◌}
use Rattle.cbor_core.specs.declared.words.Grammar.TheVariants.{Strict}
use Rattle.cbor_core.specs.declared.tree.Item.{Item}
use Rattle.cbor_core.specs.declared.tree.Node.TheVariants.{outs-Uint, outs-Bytes, outs-Array}
use Rattle.cbor_core.specs.Bytes.{IsBytes}
use Rattle.cbor_core.specs.Limits.{most_containers}
use Rattle.cbor_core.specs.Encoding.{spell_in, text_or}
use Rattle.cbor_core.specs.Exact.{TextIsSpelled}
use Rattle.cbor_core.specs.Items.{uint_at, bytes_at, array_at, uint_in, bytes_in, is_number, uint_item, bytes_item}
use Rattle.cbor_core.specs.Decoding.{strict_item, ItemIsSpelled, SpelledIsItem, NoneIsEmpty}
use Rattle.statement.specs.Said.{Said, logged_statement}
use Rattle.log_replay.specs.declared.parts.EntryParts.{EntryParts}
use Rattle.log_replay.specs.Records.{Entry, entry_item, entry_in, entry_of_parts, parts_from, parts_of, entry_with, entry_of}
use Rattle.relying_party.specs.Entries.{entry_bytes}
use Rattle.receipt_laws.proofs.Lists.{some_is}

uint_reads : (n : ℕ) → uint_in (uint_item n) ≡ Some n
uint_reads n = ap uint_at (outs-Uint n)

bytes_reads : (b : List ℕ) → bytes_in (bytes_item b) ≡ Some b
bytes_reads b = ap bytes_at (outs-Bytes b)

entry_reads : (at rule : ℕ) (logged : List ℕ) → entry_in (entry_item at rule logged) ≡ (if nat_le rule 65535 then Some (record { at = at; rule = rule; logged = logged }) else None)
entry_reads at rule logged =
    ap (λ o. option_and_then entry_of_parts (array_at o)) (outs-Array (uint_item 1 ∷ uint_item at ∷ uint_item rule ∷ bytes_item logged ∷ []))
    ∙ ap (λ o. if is_number 1 o then parts_from (uint_in (uint_item at)) (uint_in (uint_item rule)) (bytes_in (bytes_item logged)) else None) (uint_reads 1)
    ∙ ap (λ o. parts_from o (uint_in (uint_item rule)) (bytes_in (bytes_item logged))) (uint_reads at)
    ∙ ap (λ o. parts_from (Some at) o (bytes_in (bytes_item logged))) (uint_reads rule)
    ∙ ap (parts_from (Some at) (Some rule)) (bytes_reads logged)

by_test : (t : Bool) (p q : EntryParts) → (if t then Some p else None) ≡ Some q → p ≡ q
by_test true p q e = some_is p q e
by_test false p q e = cc

no_bytes : IsBytes []
no_bytes zero = omega arith
no_bytes (suc i) = omega arith

module _ (spelled : ItemIsSpelled) (given : SpelledIsItem) (empty : NoneIsEmpty) (text_spelled : TextIsSpelled) where
  none_of_nothing : (o : Option Item) (p : EntryParts) → strict_item [] ≡ o → option_and_then entry_in o ≡ Some p → ⊥
  none_of_nothing None p is e = cc
  none_of_nothing (Some item) p is e = empty Strict item (spelled [] item no_bytes is)

  nothing_has_parts : (p : EntryParts) → parts_of [] ≡ Some p → ⊥
  unfolding parts_of
  nothing_has_parts p e = none_of_nothing (strict_item []) p refl e

  by_text : (at rule : ℕ) (logged : List ℕ) (p : EntryParts) (o : Option (List ℕ)) → spell_in Strict most_containers (entry_item at rule logged) ≡ o → parts_of (text_or o) ≡ Some p
      → record { at = at; rule = rule; logged = logged } ≡ p
  unfolding parts_of
  by_text at rule logged p None is e = absurd (none_of_nothing (strict_item []) p refl e)
  by_text at rule logged p (Some text) is e =
      let item = entry_item at rule logged in
      let read : strict_item text ≡ Some item = given text item (text_spelled item text is) in
      let whole : (if nat_le rule 65535 then Some (record { at = at; rule = rule; logged = logged }) else None) ≡ Some p = sym (entry_reads at rule logged) ∙ sym (ap (option_and_then entry_in) read) ∙ e in
      by_test (nat_le rule 65535) (record { at = at; rule = rule; logged = logged }) p whole

  -- the parts that an entry's bytes have are those that it was made of
  pub parts_are : (at rule : ℕ) (logged : List ℕ) (p : EntryParts) → parts_of (entry_bytes at rule logged) ≡ Some p → record { at = at; rule = rule; logged = logged } ≡ p
  unfolding entry_bytes
  parts_are at rule logged p e = by_text at rule logged p (spell_in Strict most_containers (entry_item at rule logged)) refl e

with_statement : (p : EntryParts) (o : Option Said) (s : Said) (e : Entry) → o ≡ Some s → option_map (λ (x : Said). record { at = p.at; rule = p.rule; statement = x }) o ≡ Some e
    → record { at = p.at; rule = p.rule; statement = s } ≡ e
with_statement p None s e is reads = cc
with_statement p (Some x) s e is reads = cc

by_parts : (o : Option EntryParts) (p : EntryParts) (s : Said) (e : Entry) → o ≡ Some p → logged_statement p.logged ≡ Some s → option_and_then entry_with o ≡ Some e
    → record { at = p.at; rule = p.rule; statement = s } ≡ e
by_parts None p s e is says reads = cc
by_parts (Some q) p s e is says reads =
    with_statement p (logged_statement p.logged) s e says (subst (λ (x : EntryParts). entry_with x ≡ Some e) (some_is q p is) reads)

-- an entry with these parts, whose logged form is this statement
pub entry_is : (leaf : List ℕ) (p : EntryParts) (s : Said) (e : Entry) → parts_of leaf ≡ Some p → logged_statement p.logged ≡ Some s → entry_of leaf ≡ Some e
    → record { at = p.at; rule = p.rule; statement = s } ≡ e
unfolding entry_of
entry_is leaf p s e is says reads = by_parts (parts_of leaf) p s e is says reads
