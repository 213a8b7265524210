-- Two items have one code exactly where they are one tree.
use Rattle.std.proofs.Common.{◌≡◌, ℕ, ◌+◌, ◌<◌, ◌≤◌, true, false, List, length, drop, get_or, refl, ap, subst, eq-eqb, eqb-true}
use Rattle.std.proofs.lemmas.Bool.{and_parts, and_from, false_from_ne_true}
use Rattle.std.proofs.lemmas.List.{drop_more, drop_all}
use base.Stored.{Gv, gnil, gnum, gcons}
use Rattle.cbor_core.specs.declared.tree.Item.{Item}
use Rattle.cbor_core.specs.contracts.tree.Item.{the_row}
use Rattle.cbor_core.specs.Tree.{same_code, same, is_key}

code-same : (a b : Gv) → same_code a b ≡ true → a ≡ b
code-same gnil gnil e = refl
code-same gnil (gnum n) e = absurd cc
code-same gnil (gcons c d) e = absurd cc
code-same (gnum m) gnil e = absurd cc
code-same (gnum m) (gnum n) e = ap gnum (eqb-true m n e)
code-same (gnum m) (gcons c d) e = absurd cc
code-same (gcons a b) gnil e = absurd cc
code-same (gcons a b) (gnum n) e = absurd cc
code-same (gcons a b) (gcons c d) e =
    let p = and_parts (same_code a c) (same_code b d) e in
    let x = code-same a c p.0 in
    let y = code-same b d p.1 in
    cc

code-itself : (a : Gv) → same_code a a ≡ true
code-itself gnil = refl
code-itself (gnum n) = eq-eqb n n refl
code-itself (gcons a b) = and_from (same_code a a) (same_code b b) (code-itself a) (code-itself b)

pub same-is : (a b : Item) → same a b ≡ true → a ≡ b
unfolding same
same-is a b e = (the_row.coded).inj a b (code-same ((the_row.coded).code a) ((the_row.coded).code b) e)

pub same-itself : (a : Item) → same a a ≡ true
unfolding same
same-itself a = code-itself ((the_row.coded).code a)

pub same-from : (a b : Item) → a ≡ b → same a b ≡ true
same-from a b e = subst (λ (x : Item). same a x ≡ true) e (same-itself a)

pub same-no : (a b : Item) → (a ≡ b → ⊥) → same a b ≡ false
same-no a b ne = false_from_ne_true (same a b) (λ t. ne (same-is a b t))

pub key_here : (pairs : List (Item × Item)) (i : ℕ) (d : Item × Item) (item : Item) → i < length pairs → (get_or pairs i d).0 ≡ item → is_key (drop i pairs) item ≡ true
unfolding is_key
key_here pairs i d item lt e = rw (drop_more pairs i d lt, same-from (get_or pairs i d).0 item e) refl

pub key_more : (pairs : List (Item × Item)) (i : ℕ) (d : Item × Item) (item : Item) → i < length pairs → ((get_or pairs i d).0 ≡ item → ⊥) → is_key (drop i pairs) item ≡ is_key (drop (i + 1) pairs) item
unfolding is_key
key_more pairs i d item lt ne = rw (drop_more pairs i d lt, same-no (get_or pairs i d).0 item ne) refl

pub key_end : (pairs : List (Item × Item)) (i : ℕ) (item : Item) → length pairs ≤ i → is_key (drop i pairs) item ≡ false
unfolding is_key
key_end pairs i item le = rw (drop_all i pairs le) refl
