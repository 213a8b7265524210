-- The laws of bytes that are read as a whole.
use Rattle.std.proofs.Common.{◌≡◌, ℕ, ◌≤◌, ◌⊎◌, List, [], length, take, drop, inl, inr, refl, sym, ap, subst, ◌∙◌, arith}
use Rattle.std.proofs.lemmas.Bool.{cases_lt}
use Rattle.std.proofs.lemmas.List.{take_all, take-append-drop, length-take}
use Rattle.cbor_core.specs.declared.words.Grammar.{Grammar}
use Rattle.cbor_core.specs.declared.words.Why.TheVariants.{Truncated, Trailing}
use Rattle.cbor_core.specs.declared.words.Fault.{Fault}
use Rattle.cbor_core.specs.declared.tree.Item.{Item}
use Rattle.cbor_core.specs.Spells.{Spells}
use Rattle.cbor_core.specs.Head.{head_at}
use Rattle.cbor_core.specs.Faults.{Stuck}
use Rattle.cbor_core.specs.Decoding.{HasPrefix, Trails, WholeFault, ItemOrFault, NeverBoth, OneItem, OneWholeFault, NoneIsEmpty}
use Rattle.cbor_core.proofs.DecodeLaws.{prefix_free, prefix_or_fault, not_both, one_fault}

pub one_item : OneItem
one_item g bytes a b s t = (prefix_free g a b bytes bytes [] [] s t refl).0

-- all the bytes are their own prefix
of_prefix : (g : Grammar) (bytes : List ℕ) (item : Item) → Spells g item bytes → Spells g item (take (length bytes) bytes)
of_prefix g bytes item s =
    subst (λ (t : List ℕ). Spells g item t) (sym (take_all (length bytes) bytes (omega arith))) s

-- what is in front of bytes that follow, as a prefix
trailing_prefix : (g : Grammar) (bytes : List ℕ) (fault : Fault) → Trails g bytes fault → HasPrefix g bytes
trailing_prefix g bytes fault (why, within, (item, s)) = (item, fault.at, omega (arith, within), s)

-- an item spelled by the first m bytes, and one spelled by the first n of them
same_place : (g : Grammar) (bytes : List ℕ) (a b : Item) (m n : ℕ) → m ≤ length bytes → n ≤ length bytes → Spells g a (take m bytes) → Spells g b (take n bytes) → m ≡ n
same_place g bytes a b m n p q s t =
    let e = (prefix_free g a b (take m bytes) (take n bytes) (drop m bytes) (drop n bytes) s t (take-append-drop m bytes ∙ sym (take-append-drop n bytes))).1 in
    omega (arith, ap length e, length-take m bytes, length-take n bytes)

pub never_both : NeverBoth
never_both g bytes item fault s (inl f) =
    not_both g bytes (item, length bytes, omega arith, of_prefix g bytes item s) (fault.at, fault.why, f)
never_both g bytes item fault s (inr (why, within, (other, t))) =
    let e = same_place g bytes item other (length bytes) fault.at (omega arith) (omega (arith, within)) (of_prefix g bytes item s) t in
    omega (arith, within, e)

fault_is : (a b : Fault) → a.at ≡ b.at → a.why ≡ b.why → a ≡ b
fault_is a b p q = λ i. record { at = p i; why = q i }

pub one_whole_fault : OneWholeFault
one_whole_fault g bytes a b (inl f) (inl h) = let p = one_fault g bytes a.at b.at a.why b.why f h in fault_is a b p.0 p.1
one_whole_fault g bytes a b (inl f) (inr t) = absurd (not_both g bytes (trailing_prefix g bytes b t) (a.at, a.why, f))
one_whole_fault g bytes a b (inr t) (inl f) = absurd (not_both g bytes (trailing_prefix g bytes a t) (b.at, b.why, f))
one_whole_fault g bytes a b (inr (p, within, (x, s))) (inr (q, under, (y, t))) =
    fault_is a b (same_place g bytes x y a.at b.at (omega (arith, within)) (omega (arith, under)) s t) (p ∙ sym q)

from_prefix : (g : Grammar) (bytes : List ℕ) → HasPrefix g bytes → ((item : Item) × Spells g item bytes) ⊎ ((fault : Fault) × WholeFault g bytes fault)
from_prefix g bytes (item, n, le, s) =
    elim (cases_lt n (length bytes)) [
      | inl lt ↦ inr (record { at = n; why = Trailing }, inr (refl, lt, (item, s)))
      | inr ge ↦ inl (item, subst (λ (t : List ℕ). Spells g item t) (take_all n bytes ge) s)
    ]

pub item_or_fault : ItemOrFault
item_or_fault g bytes fits =
    elim (prefix_or_fault g bytes fits) [
      | inl p ↦ from_prefix g bytes p
      | inr (at, why, f) ↦ inr (record { at = at; why = why }, inl f)
    ]

pub none_is_empty : NoneIsEmpty
unfolding Stuck head_at
none_is_empty g item s =
    never_both g [] item (record { at = 0; why = Truncated }) s (inl (omega arith, inl (inl refl, refl)))
