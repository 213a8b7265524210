-- The governor's policy has strict bytes, and not many.
use Rattle.std.proofs.Common.{◌≡◌, ℕ, ◌+◌, ◌<◌, ◌≤◌, ◌^◌, true, List, [], ◌∷◌, length, refl, sym, ap, ◌∙◌, lt-ltb, le-leb, arith}
use Rattle.std.specs.Prelude.{map}
use Rattle.std.specs.Str.{is_utf8}
use Rattle.std.proofs.lemmas.Bool.{and_from}
use Rattle.cbor_core.specs.declared.heads.Size.{Size}
use Rattle.cbor_core.specs.declared.heads.Size.TheVariants.{Within, One, Two, Four, Eight}
use Rattle.cbor_core.specs.declared.tree.Item.{Item}
use Rattle.cbor_core.specs.Items.{uint_item, bytes_item, text_item, array_item}
use Rattle.cbor_core.specs.Limits.{longest_string}
use Rattle.cbor_core.specs.Encoding.{size_of, head_size}
use Rattle.cbor_core.specs.Fitting.{all_items, is_strict_item, len_sum, strict_len, UintFits, BytesFit, TextFits, ArrayFits, UintLength, BytesLength, TextLength, ArrayLength}
use Rattle.policy_rules.specs.declared.conditions.Cond.{Cond}
use Rattle.policy_rules.specs.declared.conditions.CondNode.{CondNode, CondNode-F, roll-CondNode}
use Rattle.policy_rules.specs.declared.conditions.CondNode.TheVariants.{All, Not, Issuer, FirstOfSubject, rolls-All, rolls-Not, rolls-Issuer, rolls-FirstOfSubject}
use Rattle.policy_rules.specs.declared.conditions.CondNode.TheFolds.{fold-CondNode, fold_out-Cond, fold-roll-CondNode}
use Rattle.policy_rules.specs.declared.documents.Holder.{Holder}
use Rattle.policy_rules.specs.Spelling.{item_step, coded, cond_item, holder_item, rule_item, policy_item}
use Rattle.scitt_draft.specs.Named.{IsShort}
use Rattle.scitt_draft.specs.Stated.{cond_of, is_issuer, is_known_subject, again, denies_again, admits_all, governor_holder, issuer_holder, issuer, policy}

abbrev node_item : CondNode → Item
node_item = fold-CondNode Item Item item_step (λ c. c.node)

by_roll : (node : CondNode) (l : CondNode-F CondNode Cond) → roll-CondNode l ≡ node → cond_item (cond_of node) ≡ node_item (roll-CondNode l)
by_roll node l is = fold_out-Cond Item Item item_step (λ c. c.node) (cond_of node) ∙ ap node_item (sym is)

item-All : (parts : List Cond) → cond_item (cond_of (All parts)) ≡ coded 0 (map cond_item parts)
item-All parts = by_roll (All parts) (CondNode-F.All parts) (rolls-All parts) ∙ fold-roll-CondNode Item Item item_step (λ c. c.node) (CondNode-F.All parts)

item-Not : (part : Cond) → cond_item (cond_of (Not part)) ≡ coded 2 (cond_item part ∷ [])
item-Not part = by_roll (Not part) (CondNode-F.Not part) (rolls-Not part) ∙ fold-roll-CondNode Item Item item_step (λ c. c.node) (CondNode-F.Not part)

item-Issuer : (text : List ℕ) → cond_item (cond_of (Issuer text)) ≡ coded 3 (text_item text ∷ [])
item-Issuer text = by_roll (Issuer text) (CondNode-F.Issuer text) (rolls-Issuer text) ∙ fold-roll-CondNode Item Item item_step (λ c. c.node) (CondNode-F.Issuer text)

item-First : cond_item (cond_of FirstOfSubject) ≡ coded 7 []
item-First = by_roll FirstOfSubject CondNode-F.FirstOfSubject rolls-FirstOfSubject ∙ fold-roll-CondNode Item Item item_step (λ c. c.node) CondNode-F.FirstOfSubject

again_item : cond_item again ≡ array_item (uint_item 0 ∷ array_item (uint_item 3 ∷ text_item (issuer 2) ∷ []) ∷ array_item (uint_item 2 ∷ array_item (uint_item 7 ∷ []) ∷ []) ∷ [])
again_item =
    item-All (is_issuer (issuer 2) ∷ is_known_subject ∷ [])
    ∙ ap (λ (x : Item). coded 0 (x ∷ cond_item is_known_subject ∷ [])) (item-Issuer (issuer 2))
    ∙ ap (λ (x : Item). coded 0 (coded 3 (text_item (issuer 2) ∷ []) ∷ x ∷ [])) (item-Not (cond_of FirstOfSubject))
    ∙ ap (λ (x : Item). coded 0 (coded 3 (text_item (issuer 2) ∷ []) ∷ coded 2 (x ∷ []) ∷ [])) item-First

all_item : cond_item (cond_of (All [])) ≡ array_item (uint_item 0 ∷ [])
all_item = item-All []

size_small : (s : Size) → head_size s ≤ 9
size_small Within = omega arith
size_small One = omega arith
size_small Two = omega arith
size_small Four = omega arith
size_small Eight = omega arith

module _ (uint : UintFits) (bytes : BytesFit) (text : TextFits) (array : ArrayFits) where
  number : (room n : ℕ) → n < 2 ^ 64 → is_strict_item room (uint_item n) ≡ true
  number room n few = uint room n ∙ lt-ltb n (2 ^ 64) few

  string : (room : ℕ) (s : List ℕ) → length s ≤ 4198400 → is_strict_item room (bytes_item s) ≡ true
  string room s short = bytes room s ∙ le-leb (length s) longest_string short

  words : (room : ℕ) (s : List ℕ) → length s ≤ 4198400 → is_utf8 s ≡ true → is_strict_item room (text_item s) ≡ true
  words room s short utf8 = text room s ∙ and_from _ _ (le-leb (length s) longest_string short) utf8

  holder_strict : (h : Holder) → IsShort h → is_strict_item 14 (holder_item h) ≡ true
  holder_strict h short =
      array 13 (text_item h.iss ∷ bytes_item h.kid ∷ bytes_item h.key ∷ [])
      ∙ and_from _ _ refl (and_from _ _ (words 13 h.iss (omega (arith, short.iss)) short.utf8) (and_from _ _ (string 13 h.kid (omega (arith, short.kid))) (and_from _ _ (string 13 h.key (omega (arith, short.key))) refl)))

  first_strict : is_strict_item 11 (array_item (uint_item 7 ∷ [])) ≡ true
  first_strict = array 10 (uint_item 7 ∷ []) ∙ and_from _ _ refl (and_from _ _ (number 10 7 (omega arith)) refl)

  again_strict : is_utf8 (issuer 2) ≡ true → is_strict_item 13 (cond_item again) ≡ true
  again_strict utf8 =
      let named : is_strict_item 12 (array_item (uint_item 3 ∷ text_item (issuer 2) ∷ [])) ≡ true =
      array 11 (uint_item 3 ∷ text_item (issuer 2) ∷ []) ∙ and_from _ _ refl (and_from _ _ (number 11 3 (omega arith)) (and_from _ _ (words 11 (issuer 2) (omega arith) utf8) refl)) in
      let known : is_strict_item 12 (array_item (uint_item 2 ∷ array_item (uint_item 7 ∷ []) ∷ [])) ≡ true =
      array 11 (uint_item 2 ∷ array_item (uint_item 7 ∷ []) ∷ []) ∙ and_from _ _ refl (and_from _ _ (number 11 2 (omega arith)) (and_from _ _ first_strict refl)) in
      ap (is_strict_item 13) again_item
      ∙ array 12 (uint_item 0 ∷ array_item (uint_item 3 ∷ text_item (issuer 2) ∷ []) ∷ array_item (uint_item 2 ∷ array_item (uint_item 7 ∷ []) ∷ []) ∷ [])
      ∙ and_from _ _ refl (and_from _ _ (number 12 0 (omega arith)) (and_from _ _ named (and_from _ _ known refl)))

  denies_strict : is_utf8 (issuer 2) ≡ true → is_strict_item 14 (rule_item denies_again) ≡ true
  denies_strict utf8 =
      array 13 (uint_item 100 ∷ uint_item 0 ∷ cond_item again ∷ [])
      ∙ and_from _ _ refl (and_from _ _ (number 13 100 (omega arith)) (and_from _ _ (number 13 0 (omega arith)) (and_from _ _ (again_strict utf8) refl)))

  all_strict : is_strict_item 13 (cond_item (cond_of (All []))) ≡ true
  all_strict = ap (is_strict_item 13) all_item ∙ array 12 (uint_item 0 ∷ []) ∙ and_from _ _ refl (and_from _ _ (number 12 0 (omega arith)) refl)

  admits_strict : is_strict_item 14 (rule_item admits_all) ≡ true
  admits_strict =
      array 13 (uint_item 101 ∷ uint_item 1 ∷ cond_item (cond_of (All [])) ∷ [])
      ∙ and_from _ _ refl (and_from _ _ (number 13 101 (omega arith)) (and_from _ _ (number 13 1 (omega arith)) (and_from _ _ all_strict refl)))

  pub policy_strict : IsShort governor_holder → IsShort (issuer_holder 0) → IsShort (issuer_holder 1) → IsShort (issuer_holder 2) → is_strict_item 16 (policy_item policy) ≡ true
  unfolding policy
  policy_strict g a b c =
      let governors : is_strict_item 15 (array_item (holder_item governor_holder ∷ [])) ≡ true =
      array 14 (holder_item governor_holder ∷ []) ∙ and_from _ _ refl (and_from _ _ (holder_strict governor_holder g) refl) in
      let issuers : is_strict_item 15 (array_item (holder_item (issuer_holder 0) ∷ holder_item (issuer_holder 1) ∷ holder_item (issuer_holder 2) ∷ [])) ≡ true =
      array 14 (holder_item (issuer_holder 0) ∷ holder_item (issuer_holder 1) ∷ holder_item (issuer_holder 2) ∷ [])
      ∙ and_from _ _ refl (and_from _ _ (holder_strict (issuer_holder 0) a) (and_from _ _ (holder_strict (issuer_holder 1) b) (and_from _ _ (holder_strict (issuer_holder 2) c) refl))) in
      let rules : is_strict_item 15 (array_item (rule_item denies_again ∷ rule_item admits_all ∷ [])) ≡ true =
      array 14 (rule_item denies_again ∷ rule_item admits_all ∷ []) ∙ and_from _ _ refl (and_from _ _ (denies_strict c.utf8) (and_from _ _ admits_strict refl)) in
      array 15 (uint_item 1 ∷ uint_item 1 ∷ array_item (holder_item governor_holder ∷ [])
      ∷ array_item (holder_item (issuer_holder 0) ∷ holder_item (issuer_holder 1) ∷ holder_item (issuer_holder 2) ∷ [])
      ∷ array_item (rule_item denies_again ∷ rule_item admits_all ∷ []) ∷ [])
      ∙ and_from _ _ refl (and_from _ _ (number 15 1 (omega arith)) (and_from _ _ (number 15 1 (omega arith)) (and_from _ _ governors (and_from _ _ issuers (and_from _ _ rules refl)))))

module _ (uint : UintLength) (bytes : BytesLength) (text : TextLength) (array : ArrayLength) where
  number_len : (room n : ℕ) → strict_len room (uint_item n) ≤ 9
  number_len room n = omega (arith, uint room n, size_small (size_of n))

  holder_len : (h : Holder) → IsShort h → strict_len 14 (holder_item h) ≤ 1200
  holder_len h short =
      omega (
        arith,
        array 13 (text_item h.iss ∷ bytes_item h.kid ∷ bytes_item h.key ∷ []),
        text 13 h.iss,
        bytes 13 h.kid,
        bytes 13 h.key,
        size_small (size_of (length h.iss)),
        size_small (size_of (length h.kid)),
        size_small (size_of (length h.key)),
        size_small (size_of 3),
        short.iss,
        short.kid,
        short.key,
      )

  again_len : strict_len 13 (cond_item again) ≤ 120
  again_len =
      omega (
        arith,
        ap (strict_len 13) again_item,
        array 12 (uint_item 0 ∷ array_item (uint_item 3 ∷ text_item (issuer 2) ∷ []) ∷ array_item (uint_item 2 ∷ array_item (uint_item 7 ∷ []) ∷ []) ∷ []),
        array 11 (uint_item 3 ∷ text_item (issuer 2) ∷ []),
        array 11 (uint_item 2 ∷ array_item (uint_item 7 ∷ []) ∷ []),
        array 10 (uint_item 7 ∷ []),
        text 11 (issuer 2),
        number_len 12 0,
        number_len 11 3,
        number_len 11 2,
        number_len 10 7,
        size_small (size_of 1),
        size_small (size_of 2),
        size_small (size_of 3),
        size_small (size_of (length (issuer 2))),
      )

  rules_len : strict_len 15 (array_item (rule_item denies_again ∷ rule_item admits_all ∷ [])) ≤ 300
  rules_len =
      omega (
        arith,
        array 14 (rule_item denies_again ∷ rule_item admits_all ∷ []),
        array 13 (uint_item 100 ∷ uint_item 0 ∷ cond_item again ∷ []),
        array 13 (uint_item 101 ∷ uint_item 1 ∷ cond_item (cond_of (All [])) ∷ []),
        array 12 (uint_item 0 ∷ []),
        again_len,
        ap (strict_len 13) all_item,
        number_len 13 100,
        number_len 13 0,
        number_len 13 101,
        number_len 13 1,
        number_len 12 0,
        size_small (size_of 1),
        size_small (size_of 2),
        size_small (size_of 3),
      )

  pub policy_short : IsShort governor_holder → IsShort (issuer_holder 0) → IsShort (issuer_holder 1) → IsShort (issuer_holder 2) → strict_len 16 (policy_item policy) ≤ 6000
  unfolding policy
  policy_short g a b c =
      omega (
        arith,
        array 15 (uint_item 1 ∷ uint_item 1 ∷ array_item (holder_item governor_holder ∷ [])
            ∷ array_item (holder_item (issuer_holder 0) ∷ holder_item (issuer_holder 1) ∷ holder_item (issuer_holder 2) ∷ [])
            ∷ array_item (rule_item denies_again ∷ rule_item admits_all ∷ []) ∷ []),
        array 14 (holder_item governor_holder ∷ []),
        array 14 (holder_item (issuer_holder 0) ∷ holder_item (issuer_holder 1) ∷ holder_item (issuer_holder 2) ∷ []),
        holder_len governor_holder g,
        holder_len (issuer_holder 0) a,
        holder_len (issuer_holder 1) b,
        holder_len (issuer_holder 2) c,
        rules_len,
        number_len 15 1,
        size_small (size_of 1),
        size_small (size_of 3),
        size_small (size_of 5),
      )
