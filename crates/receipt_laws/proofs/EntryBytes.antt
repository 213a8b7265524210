-- The bytes of an entry are those that its parts are written as.
use Rattle.std.proofs.Common.{◌≡◌, ℕ, ◌≤◌, ◌<◌, ◌^◌, true, List, [], ◌∷◌, length, Option, Some, None, sym, ap, ◌∙◌, subst, leb-true, ltb-true}
use Rattle.std.specs.Prelude.{nat_le}
use Rattle.std.proofs.lemmas.Bool.{and_parts}
use Rattle.cbor_core.specs.declared.words.Grammar.TheVariants.{Strict}
use Rattle.cbor_core.specs.declared.tree.Item.{Item}
use Rattle.cbor_core.specs.Bytes.{IsBytes}
use Rattle.cbor_core.specs.Limits.{most_parts}
use Rattle.cbor_core.specs.Spells.{Spells}
use Rattle.cbor_core.specs.Encoding.{text_or}
use Rattle.cbor_core.specs.Exact.{SpelledIsText}
use Rattle.cbor_core.specs.Decoding.{strict_item, ItemIsSpelled}
use Rattle.cbor_core.specs.Fitting.{all_items, is_strict_item, SpelledIsStrict, UintFits, ArrayFits}
use Rattle.cbor_core.specs.Items.{uint_in, bytes_in, array_in, is_number, is_uint, uint_item, bytes_item, array_item}
use Rattle.log_replay.specs.declared.parts.EntryParts.{EntryParts}
use Rattle.log_replay.specs.Records.{entry_item, entry_in, entry_of_parts, parts_from, parts_of}
use Rattle.relying_party.specs.Entries.{entry_bytes}
use Rattle.log_replay.proofs.LoggedAgain.{from_then}
use Rattle.receipt_laws.proofs.Lists.{some_is}
use Rattle.receipt_laws.proofs.Items.{uint_is, bytes_is, array_is}
use Rattle.receipt_laws.proofs.RecordBytes.{passed, first_passes}

by_parts : (at rule : Option ℕ) (logged : Option (List ℕ)) (p : EntryParts) → parts_from at rule logged ≡ Some p → (at ≡ Some p.at) × (rule ≡ Some p.rule) × (logged ≡ Some p.logged) × (p.rule ≤ 65535)
by_parts None rule logged p e = cc
by_parts (Some a) None logged p e = cc
by_parts (Some a) (Some r) None p e = cc
by_parts (Some a) (Some r) (Some l) p e =
    let own : EntryParts = record { at = a; rule = r; logged = l } in
    let by = passed (nat_le r 65535) (Some own) p e in
    let same : own ≡ p = some_is own p by.1 in (
      ap (λ (x : EntryParts). Some x.at) same,
      ap (λ (x : EntryParts). Some x.rule) same,
      ap (λ (x : EntryParts). Some x.logged) same,
      subst (λ (x : EntryParts). x.rule ≤ 65535) same (leb-true r 65535 by.0),
    )

number_is : (n : ℕ) (o : Option ℕ) → is_number n o ≡ true → o ≡ Some n
number_is n None e = cc
number_is n (Some m) e = ap Some (Rattle.std.proofs.lemmas.Bool.eqb-true m n e)

items_are : (items : List Item) (p : EntryParts) → entry_of_parts items ≡ Some p → (items ≡ uint_item 1 ∷ uint_item p.at ∷ uint_item p.rule ∷ bytes_item p.logged ∷ []) × (p.rule ≤ 65535)
items_are [] p e = cc
items_are (a ∷ []) p e = cc
items_are (a ∷ b ∷ []) p e = cc
items_are (a ∷ b ∷ c ∷ []) p e = cc
items_are (a ∷ b ∷ c ∷ d ∷ []) p e =
    let by = passed (is_uint 1 a) (parts_from (uint_in b) (uint_in c) (bytes_in d)) p e in
    let parts = by_parts (uint_in b) (uint_in c) (bytes_in d) p by.1 in
    let one = uint_is a 1 (number_is 1 (uint_in a) by.0) in
    let at = uint_is b p.at parts.0 in
    let rule = uint_is c p.rule parts.1 in
    let logged = bytes_is d p.logged parts.2 in
    ((λ t. one t ∷ at t ∷ rule t ∷ logged t ∷ []), parts.3)
items_are (a ∷ b ∷ c ∷ d ∷ x ∷ more) p e = cc

-- what an entry that is bytes says: how its parts are written, and that they are within the limits
pub record IsWritten (leaf : List ℕ) (p : EntryParts) : Type 0 where
  pub written : leaf ≡ entry_bytes p.at p.rule p.logged
  pub few : p.at < 2 ^ 64
  pub small : p.rule ≤ 65535

module _ (spelled : ItemIsSpelled) (text : SpelledIsText) (strict : SpelledIsStrict) (uint : UintFits) (array : ArrayFits) where
  by_item : (leaf : List ℕ) (p : EntryParts) (item : Item) → Spells Strict item leaf → entry_in item ≡ Some p → IsWritten leaf p
  unfolding entry_bytes
  by_item leaf p item spells e =
      let found = from_then entry_of_parts (array_in item) p e in
      let items = items_are found.0 p found.2 in
      let own = uint_item 1 ∷ uint_item p.at ∷ uint_item p.rule ∷ bytes_item p.logged ∷ [] in
      let is : item ≡ entry_item p.at p.rule p.logged = array_is item found.0 found.1 ∙ ap array_item items.0 in
      let spells_own : Spells Strict (entry_item p.at p.rule p.logged) leaf = subst (λ (x : Item). Spells Strict x leaf) is spells in
      let test = is_strict_item 15 in
      let all : all_items test own ≡ true = (and_parts (nat_le (length own) most_parts) (all_items test own) (sym (array 15 own) ∙ strict (entry_item p.at p.rule p.logged) leaf spells_own)).1 in
      let behind = first_passes test (uint_item 1) (uint_item p.at ∷ uint_item p.rule ∷ bytes_item p.logged ∷ []) all in
      let number = first_passes test (uint_item p.at) (uint_item p.rule ∷ bytes_item p.logged ∷ []) behind.1 in
      record {
        written = sym (ap (λ (o : Option (List ℕ)). text_or o) (text (entry_item p.at p.rule p.logged) leaf spells_own));
        few = ltb-true p.at (2 ^ 64) (sym (uint 15 p.at) ∙ number.0);
        small = items.1;
      }

  pub is_written : (leaf : List ℕ) (p : EntryParts) → IsBytes leaf → parts_of leaf ≡ Some p → IsWritten leaf p
  unfolding parts_of
  is_written leaf p fits e =
      let found = from_then entry_in (strict_item leaf) p e in
      by_item leaf p found.0 (spelled leaf found.0 fits found.1) found.2
