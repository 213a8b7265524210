-- What measuring, writing and encoding say of strict bytes.
use Rattle.std.proofs.Common.{◌≡◌, ℕ, ◌<◌, ◌≤◌, Bool, true, false, cond, List, length, take, Option, Some, None, refl, sym, ap, subst, ◌∙◌, arith, leb-true, leb-false}
use Rattle.std.specs.Prelude.{nat_le}
use Rattle.std.proofs.lemmas.List.{take_all}
use Rattle.cbor_core.specs.declared.words.Grammar.TheVariants.{Strict}
use Rattle.cbor_core.specs.declared.tree.Item.{Item}
use Rattle.cbor_core.specs.Limits.{most_containers}
use Rattle.cbor_core.specs.Spells.{Spells}
use Rattle.cbor_core.specs.Decoding.{OneStrictSpelling}
use Rattle.cbor_core.specs.Encoding.{most, len_of, spell_in, HasLength, HasRoomFor, Puts}
use Rattle.cbor_core.proofs.SpellParts.{some_is}
use Rattle.cbor_core.proofs.StrictLevels.{spell-is, spell-spells}

pub strict-is : (item : Item) (text : List ℕ) → Spells Strict item text → spell_in Strict most_containers item ≡ Some text
unfolding Spells
strict-is item text s = spell-is most_containers item text s

pub is-strict : (item : Item) (text : List ℕ) → spell_in Strict most_containers item ≡ Some text → Spells Strict item text
unfolding Spells
is-strict item text e = spell-spells most_containers item text e

pub one_strict_spelling : OneStrictSpelling
one_strict_spelling item s t p q = some_is s t (sym (strict-is item s p) ∙ strict-is item t q)

len_some : (o : Option (List ℕ)) (n : ℕ) → len_of o ≡ Some n → (text : List ℕ) × (o ≡ Some text) × (length text ≡ n) × (n ≤ most)
len_some None n e = absurd cc
len_some (Some text) n e =
    let go : (b : Bool) → nat_le (length text) most ≡ b → cond b (Some (length text)) None ≡ Some n → (length text ≡ n) × (n ≤ most) = λ b. elim b as (λ b. nat_le (length text) most ≡ b → cond b (Some (length text)) None ≡ Some n → (length text ≡ n) × (n ≤ most)) [
      | true ↦ λ le h. (let is = some_is (length text) n h in let fits : length text ≤ most = leb-true (length text) most le in (is, omega arith))
      | false ↦ λ le h. absurd cc
    ] in
    let p = go (nat_le (length text) most) refl e in
    (text, refl, p.0, p.1)

len_none : (text : List ℕ) → len_of (Some text) ≡ None → most < length text
len_none text e =
    let go : (b : Bool) → nat_le (length text) most ≡ b → cond b (Some (length text)) None ≡ None → most < length text = λ b. elim b as (λ b. nat_le (length text) most ≡ b → cond b (Some (length text)) None ≡ None → most < length text) [
      | true ↦ λ le h. absurd cc
      | false ↦ λ le h. leb-false (length text) most le
    ] in
    go (nat_le (length text) most) refl e

pub has_length : (item : Item) (o : Option ℕ) → o ≡ len_of (spell_in Strict most_containers item) → HasLength item o
has_length item None e = λ text s. len_none text (ap len_of (sym (strict-is item text s)) ∙ sym e)
has_length item (Some n) e = let p = len_some (spell_in Strict most_containers item) n (sym e) in (p.0, is-strict item p.0 p.1, p.2, p.3)

pub room_for : (item : Item) (n : ℕ) → HasLength item (Some n) → HasRoomFor (spell_in Strict most_containers item) 0 n
room_for item n (text, s, len, fits) = subst (λ (o : Option (List ℕ)). HasRoomFor o 0 n) (sym (strict-is item text s)) (refl, omega arith)

pub encoded_into : (item : Item) (old new : List ℕ) (end : ℕ) → HasLength item (Some (length old)) → length new ≡ length old → Puts (spell_in Strict most_containers item) 0 old new end → Spells Strict item new
encoded_into item old new end (text, s, len, fits) same p =
    let q = subst (λ (o : Option (List ℕ)). Puts o 0 old new end) (strict-is item text s) p in
    let all : take end new ≡ new = take_all end new (omega (arith, q.0)) in
    subst (λ (t : List ℕ). Spells Strict item t) (sym (sym all ∙ q.1)) s
