-- Byte strings in their shortest spelling, and texts written one behind the other.
use Rattle.std.proofs.Common.{◌≡◌, ℕ, ◌^◌, ◌<◌, ◌≤◌, Bool, true, false, nat_lt, if◌then◌else◌, List, ◌++◌, length, take, refl, sym, ap, subst, ◌∙◌, arith, length-append, append_assoc}
use Rattle.std.proofs.lemmas.Bool.{ltb-true, ltb-false}
use Rattle.std.proofs.Math.Seq.{take-length}
use Rattle.cbor_core.specs.declared.words.Grammar.{Grammar}
use Rattle.cbor_core.specs.declared.words.Grammar.TheVariants.{Strict, Wide}
use Rattle.cbor_core.specs.declared.heads.Size.{Size}
use Rattle.cbor_core.specs.declared.heads.Size.TheVariants.{Within, One, Two, Four, Eight}
use Rattle.cbor_core.specs.declared.tree.Item.{Item}
use Rattle.cbor_core.specs.declared.tree.Node.{out-Node}
use Rattle.cbor_core.specs.declared.tree.Node.TheVariants.{outs-Bytes}
use Rattle.cbor_core.specs.Tree.{Layer}
use Rattle.cbor_core.specs.Head.{head, MayStand}
use Rattle.cbor_core.specs.Encoding.{size_of, head_size}
use Rattle.cbor_core.specs.Spells.{SpellsLayer}
use Rattle.cbor_core.specs.Limits.{longest_string}
use Rattle.cbor_core.specs.Writes.{Writes}
use Rattle.cose_sign1.specs.Strings.{head_len, string_head, string_text, string_len}
use Rattle.cose_sign1.specs.Tbs.{byte_item}

pick : (P : Size → Type 0) (b : Bool) (s t : Size) → (b ≡ true → P s) → (b ≡ false → P t) → P (if b then s else t)
pick P true s t f g = f refl
pick P false s t f g = g refl

-- what holds at each size, under its bounds, holds at the shortest one
by_size : (n : ℕ) (P : Size → Type 0) → (n < 24 → P Within) → (24 ≤ n → n < 2 ^ 8 → P One) → (2 ^ 8 ≤ n → n < 2 ^ 16 → P Two) → (2 ^ 16 ≤ n → n < 2 ^ 32 → P Four) → (2 ^ 32 ≤ n → P Eight) → P (size_of n)
by_size n P a b c d e =
    pick P (nat_lt n 24) _ _ (λ t. a (ltb-true n 24 t)) (λ f. pick P (nat_lt n (2 ^ 8)) _ _ (λ t. b (ltb-false n 24 f) (ltb-true n (2 ^ 8) t)) (λ g. pick P (nat_lt n (2 ^ 16)) _ _ (λ t. c (ltb-false n (2 ^ 8) g) (ltb-true n (2 ^ 16) t)) (λ h. pick P (nat_lt n (2 ^ 32)) _ _ (λ t. d (ltb-false n (2 ^ 16) h) (ltb-true n (2 ^ 32) t)) (λ k. e (ltb-false n (2 ^ 32) k)))))

pub length_head : (n : ℕ) → length (string_head n) ≡ head_len n
unfolding string_head head_len
length_head n = by_size n (λ s. length (head 2 s n) ≡ head_size s) (λ _. refl) (λ _ _. refl) (λ _ _. refl) (λ _ _. refl) (λ _. refl)

shortest_stands : (n : ℕ) → n < 2 ^ 64 → MayStand Strict (size_of n) n
shortest_stands n fits =
    by_size n (λ s. MayStand Strict s n) (λ a. (omega arith, a)) (λ a b. (a, b)) (λ a b. (a, b)) (λ a b. (a, b)) (λ a. (a, fits))

pub length_string : (bytes : List ℕ) → length (string_text bytes) ≡ string_len (length bytes)
length_string bytes = omega (arith, length-append (string_head (length bytes)) bytes, length_head (length bytes))

stands_in : (g : Grammar) (n : ℕ) → n < 2 ^ 64 → MayStand g (size_of n) n
stands_in Strict n fits = shortest_stands n fits
stands_in Wide n fits = (shortest_stands n fits).1

pub string_spelled : (g : Grammar) (room : ℕ) (Part : Item → List ℕ → Type 0) (bytes : List ℕ) → length bytes ≤ longest_string → SpellsLayer g room Part (out-Node (byte_item bytes).node) (string_text bytes)
unfolding string_head
string_spelled g room Part bytes fits =
    let n = length bytes in
    subst (λ (l : Layer). SpellsLayer g room Part l (string_text bytes)) (sym (outs-Bytes bytes)) (fits, (head 2 (size_of n) n, bytes, (size_of n, stands_in g n (omega arith), refl), refl, refl))

pub Writes-then : {s t : List ℕ} {at m e : ℕ} {a b c : List ℕ} → Writes s at a b m → Writes t m b c e → Writes (s ++ t) at a c e
Writes-then {s} {t} {at} {m} {e} {a} {b} {c} first next = record {
  place = omega (arith, first.place, next.place, length-append s t);
  bytes = next.bytes ∙ ap (λ x. x ++ t) first.bytes ∙ append_assoc (take at a) s t;
}

pub Writes-whole : {s : List ℕ} {e : ℕ} {a b : List ℕ} → Writes s 0 a b e → length b ≡ length s → b ≡ s
Writes-whole {s} {e} {a} {b} w le =
    let all : e ≡ length b = omega (arith, w.place) in
    sym (take-length b) ∙ ap (λ k. take k b) (sym all) ∙ w.bytes
