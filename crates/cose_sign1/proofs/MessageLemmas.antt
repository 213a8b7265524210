-- What is written for a message with an empty unprotected map is its strict spelling.
use Rattle.std.proofs.Common.{◌≡◌, ℕ, ◌<◌, ◌≤◌, List, [], ◌∷◌, ◌++◌, length, Some, refl, sym, subst, arith, length-append}
use Rattle.std.proofs.lemmas.List.{append-nil}
use Rattle.cbor_core.specs.declared.words.Grammar.{Grammar}
use Rattle.cbor_core.specs.declared.words.Grammar.TheVariants.{Strict, Wide}
use Rattle.cbor_core.specs.declared.heads.Size.TheVariants.{Within}
use Rattle.cbor_core.specs.declared.tree.Item.{Item}
use Rattle.cbor_core.specs.declared.tree.Node.TheVariants.{Map, outs-Array, outs-Map, outs-Tag}
use Rattle.cbor_core.specs.Tree.{Layer}
use Rattle.cbor_core.specs.Head.{MayStand}
use Rattle.cbor_core.specs.Spells.{SpellsLayer, SpellsIn, SpellEach, SpellPairs, Spells}
use Rattle.cbor_core.specs.Limits.{longest_string}
use Rattle.cose_sign1.specs.Strings.{string_text}
use Rattle.cose_sign1.specs.Tbs.{byte_item}
use Rattle.cose_sign1.specs.Message.{array_item, message_parts, bare_item, bare_len, bare_text}
use Rattle.cose_sign1.proofs.StringLemmas.{string_spelled, length_string}

abbrev no_entries : Item
no_entries = record { node = Map [] }

within : (g : Grammar) (n : ℕ) → n < 24 → MayStand g Within n
within Strict n lt = (omega arith, lt)
within Wide n lt = lt

inner_spelled : (g : Grammar) (bytes : List ℕ) → length bytes ≤ longest_string → SpellsIn g 14 (byte_item bytes) (string_text bytes)
unfolding SpellsIn
inner_spelled g bytes fits = string_spelled g 14 (SpellsIn g 13) bytes fits

map_spelled : (g : Grammar) → SpellsIn g 14 no_entries (160 ∷ [])
unfolding SpellsIn SpellPairs
map_spelled g =
    subst (λ (l : Layer). SpellsLayer g 14 (SpellsIn g 13) l (160 ∷ [])) (sym (outs-Map []))
    (omega arith, omega arith, (160 ∷ [], [], (Within, within g 0 (omega arith), refl), refl, refl))

array_spelled : (g : Grammar) (p c s : List ℕ) → length p ≤ longest_string → length c ≤ longest_string → length s ≤ longest_string
    → SpellsIn g 15 (array_item (message_parts p no_entries (Some c) s)) (132 ∷ (string_text p ++ (160 ∷ (string_text c ++ string_text s))))
unfolding SpellsIn SpellEach
array_spelled g p c s pf cf sf =
    let last = string_text s in
    let third = string_text c ++ last in
    let second = 160 ∷ third in
    let whole = string_text p ++ second in
    subst (λ (l : Layer). SpellsLayer g 15 (SpellsIn g 14) l (132 ∷ whole)) (sym (outs-Array (message_parts p no_entries (Some c) s))) (
      omega arith,
      omega arith,
      (
        132 ∷ [],
        whole,
        (Within, within g 4 (omega arith), refl),
        (string_text p, second, inner_spelled g p pf, (160 ∷ [], third, map_spelled g, (string_text c, last, inner_spelled g c cf, (last, [], inner_spelled g s sf, refl, sym (append-nil last)), refl), refl), refl),
        refl,
      ),
    )

pub bare_spelled : (g : Grammar) (p c s : List ℕ) → length p ≤ longest_string → length c ≤ longest_string → length s ≤ longest_string → Spells g (bare_item p c s) (bare_text p c s)
unfolding Spells SpellsIn bare_text
bare_spelled g p c s pf cf sf =
    let whole = 132 ∷ (string_text p ++ (160 ∷ (string_text c ++ string_text s))) in
    subst (λ (l : Layer). SpellsLayer g 16 (SpellsIn g 15) l (210 ∷ whole)) (sym (outs-Tag 18 (array_item (message_parts p no_entries (Some c) s))))
    (omega arith, (210 ∷ [], whole, (Within, within g 18 (omega arith), refl), array_spelled g p c s pf cf sf, refl))

pub bare_length : (p c s : List ℕ) → length (bare_text p c s) ≡ bare_len p c s
unfolding bare_text
bare_length p c s =
    omega (arith, length-append (string_text p) (160 ∷ (string_text c ++ string_text s)), length-append (string_text c) (string_text s), length_string p, length_string c, length_string s)
