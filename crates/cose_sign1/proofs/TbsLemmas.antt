-- What is written is the Sig_structure, and the strings that spell an empty map are the five that are tried.
use Rattle.std.proofs.Common.{◌≡◌, ℕ, ◌+◌, ◌≤◌, Bool, true, false, ◌&&◌, ◌||◌, nat_lt, if◌then◌else◌, List, [], ◌∷◌, ◌++◌, length, refl, sym, ap, subst, ◌∙◌, inl, inr, arith, length-append}
use Rattle.std.proofs.lemmas.List.{append-nil}
use Rattle.std.proofs.lemmas.Bool.{and_parts, ltb-true, or_cases}
use Rattle.std.proofs.lemmas.Str.{IsUtf8-from_ascii}
use Rattle.std.proofs.lemmas.Str.Ascii.{IsAscii-nil, IsAscii-cons}
use Rattle.std.proofs.lemmas.Slice.Eq.{bytes_eq-Decides}
use Rattle.std.specs.Str.{IsAscii, bytes_eq}
use Rattle.cbor_core.specs.declared.words.Grammar.TheVariants.{Strict, Wide}
use Rattle.cbor_core.specs.declared.heads.Size.{Size}
use Rattle.cbor_core.specs.declared.heads.Size.TheVariants.{Within, One, Two, Four, Eight}
use Rattle.cbor_core.specs.declared.tree.Item.{Item}
use Rattle.cbor_core.specs.declared.tree.Node.TheVariants.{Text, Map, outs-Text, outs-Array, outs-Map}
use Rattle.cbor_core.specs.Tree.{Layer}
use Rattle.cbor_core.specs.Head.{head, MayStand}
use Rattle.cbor_core.specs.Spells.{SpellsLayer, SpellsIn, SpellEach, SpellPairs, Spells}
use Rattle.cbor_core.specs.Limits.{longest_string}
use Rattle.cose_sign1.specs.Strings.{string_head, string_text, string_len}
use Rattle.cose_sign1.specs.Tbs.{byte_item, signature1, sig_structure, IsNoMap, IsSigned, Tbs, no_map, signed_of, tbs_text}
use Rattle.cose_sign1.proofs.StringLemmas.{string_spelled, length_string}

part_spelled : (bytes : List ℕ) → length bytes ≤ longest_string → SpellsIn Strict 15 (byte_item bytes) (string_text bytes)
unfolding SpellsIn
part_spelled bytes fits = string_spelled Strict 15 (SpellsIn Strict 14) bytes fits

abbrev all_small : List ℕ → Bool
all_small [] = true
all_small (b ∷ bs) = nat_lt b 128 && all_small bs

ascii_by : (bs : List ℕ) → all_small bs ≡ true → IsAscii bs
ascii_by [] e = IsAscii-nil
ascii_by (b ∷ bs) e =
    let p = and_parts (nat_lt b 128) (all_small bs) e in
    IsAscii-cons b bs (ltb-true b 128 p.0) (ascii_by bs p.1)

context_spelled : SpellsIn Strict 15 (record { node = Text signature1 }) (106 ∷ signature1)
unfolding SpellsIn
context_spelled =
    subst (λ (l : Layer). SpellsLayer Strict 15 (SpellsIn Strict 14) l (106 ∷ signature1)) (sym (outs-Text signature1))
    (omega arith, IsUtf8-from_ascii signature1 (ascii_by signature1 refl), (106 ∷ [], signature1, (Within, (omega arith, omega arith), refl), refl, refl))

pub structure_spelled : (signed payload : List ℕ) → length signed ≤ longest_string → length payload ≤ longest_string → Spells Strict (sig_structure signed payload) (tbs_text signed payload)
unfolding Spells SpellsIn SpellEach tbs_text string_head
structure_spelled signed payload s p =
    let items : List Item = record { node = Text signature1 } ∷ byte_item signed ∷ byte_item [] ∷ byte_item payload ∷ [] in
    let last = string_text payload in
    let third = 64 ∷ last in
    let second = string_text signed ++ third in
    subst (λ (l : Layer). SpellsLayer Strict 16 (SpellsIn Strict 15) l (132 ∷ 106 ∷ signature1 ++ second)) (sym (outs-Array items)) (
      omega arith,
      omega arith,
      (
        132 ∷ [],
        106 ∷ signature1 ++ second,
        (Within, (omega arith, omega arith), refl),
        (106 ∷ signature1, second, context_spelled, (string_text signed, third, part_spelled signed s, (64 ∷ [], last, part_spelled [] (omega arith), (last, [], part_spelled payload p, refl, sym (append-nil last)), refl), refl), refl),
        refl,
      ),
    )

stands_wide : (size : Size) → MayStand Wide size 0
stands_wide Within = omega arith
stands_wide One = omega arith
stands_wide Two = omega arith
stands_wide Four = omega arith
stands_wide Eight = omega arith

map_spelled : (size : Size) → Spells Wide (record { node = Map [] }) (head 5 size 0)
unfolding Spells SpellsIn SpellPairs
map_spelled size =
    subst (λ (l : Layer). SpellsLayer Wide 16 (SpellsIn Wide 15) l (head 5 size 0)) (sym (outs-Map []))
    (omega arith, omega arith, (head 5 size 0, [], (size, stands_wide size, refl), refl, sym (append-nil (head 5 size 0))))

map_heads : (s : List ℕ) → Spells Wide (record { node = Map [] }) s → (size : Size) × (s ≡ head 5 size 0)
unfolding Spells SpellsIn SpellPairs
map_heads s spelled =
    let h = subst (λ (l : Layer). SpellsLayer Wide 16 (SpellsIn Wide 15) l s) (outs-Map []) spelled in
    (h.2.2.0, h.2.4 ∙ ap (λ r. h.2.0 ++ r) h.2.3 ∙ append-nil h.2.0 ∙ h.2.2.2)

no_map_heads : (size : Size) → no_map (head 5 size 0) ≡ true
no_map_heads Within = refl
no_map_heads One = refl
no_map_heads Two = refl
no_map_heads Four = refl
no_map_heads Eight = refl

no_map_from : (s : List ℕ) → IsNoMap s → no_map s ≡ true
no_map_from s h =
    elim h [
      | inl e ↦ subst (λ (x : List ℕ). no_map x ≡ true) (sym e) refl
      | inr spelled ↦ let m = map_heads s spelled in subst (λ (x : List ℕ). no_map x ≡ true) (sym m.1) (no_map_heads m.0)
    ]

is_text : (s k : List ℕ) → bytes_eq s k ≡ true → s ≡ k
is_text s k e = (bytes_eq-Decides s k).0 e

-- the string is the first of two texts, or the test of the others holds
one_more : (P : List ℕ → Type 0) (s k : List ℕ) (b : Bool) → (bytes_eq s k || b) ≡ true → P k → (b ≡ true → P s) → P s
one_more P s k b e here more =
    elim (or_cases (bytes_eq s k) b e) [ inl t ↦ subst P (sym (is_text s k t)) here | inr t ↦ more t ]

spelled_as : (s : List ℕ) (size : Size) → s ≡ head 5 size 0 → IsNoMap s
spelled_as s size e = inr (subst (λ (x : List ℕ). Spells Wide (record { node = Map [] }) x) (sym e) (map_spelled size))

no_map_is : (s : List ℕ) → no_map s ≡ true → IsNoMap s
no_map_is s e =
    one_more IsNoMap s [] _ e (inl refl) (λ f.
    one_more IsNoMap s (160 ∷ []) _ f (spelled_as _ Within refl) (λ g.
    one_more IsNoMap s (184 ∷ 0 ∷ []) _ g (spelled_as _ One refl) (λ h.
    one_more IsNoMap s (185 ∷ 0 ∷ 0 ∷ []) _ h (spelled_as _ Two refl) (λ i.
    one_more IsNoMap s (186 ∷ 0 ∷ 0 ∷ 0 ∷ 0 ∷ []) _ i (spelled_as _ Four refl) (λ j. spelled_as s Eight (is_text s _ j))))))

signed_by : (protected : List ℕ) (b : Bool) → no_map protected ≡ b → IsSigned protected (if b then [] else protected)
signed_by protected true e = inl (no_map_is protected e, refl)
signed_by protected false e = inr (λ h. let t : false ≡ true = sym e ∙ no_map_from protected h in absurd cc, refl)

pub signed_is : (protected : List ℕ) → IsSigned protected (signed_of protected)
unfolding signed_of
signed_is protected = signed_by protected (no_map protected) refl

signed_small : (protected : List ℕ) (b : Bool) → length protected ≤ longest_string → length (if b then [] else protected) ≤ longest_string
signed_small protected true h = omega arith
signed_small protected false h = h

pub signed_fits : (protected : List ℕ) → length protected ≤ longest_string → length (signed_of protected) ≤ longest_string
unfolding signed_of
signed_fits protected h = signed_small protected (no_map protected) h

pub tbs_length : (signed payload : List ℕ) → length (tbs_text signed payload) ≡ 13 + string_len (length signed) + string_len (length payload)
unfolding tbs_text
tbs_length signed payload =
    omega (arith, length-append (string_text signed) (64 ∷ string_text payload), length_string signed, length_string payload)

pub tbs_is : (protected payload : List ℕ) → length protected ≤ longest_string → length payload ≤ longest_string → Tbs protected payload (tbs_text (signed_of protected) payload)
tbs_is protected payload p q =
    (signed_of protected, signed_is protected, structure_spelled (signed_of protected) payload (signed_fits protected p) q)
