-- What the tests of items and keys in the definitions mean.
use Rattle.std.specs.Prelude.{Any}
use Rattle.std.specs.List.{list_any}
use Rattle.std.proofs.Common.{◌≡◌, Bool, true, false, cond, ◌||◌, List, [], ◌∷◌, refl, sym, ◌∙◌, ap}
use Rattle.std.proofs.lemmas.List.Folds.{Any-from_list_any, list_any-from_Any}
use Rattle.cbor_core.specs.declared.tree.Item.{Item}
use Rattle.cbor_core.specs.Tree.{same, is_key}
use Rattle.cbor_core.specs.Decoding.{SameIsEqual, KeyIsAmong}
use Rattle.cbor_core.proofs.SameLemmas.{same-is, same-from}

pub same_is_equal : SameIsEqual
same_is_equal = λ a b. (same-is a b, same-from a b)

abbrev has : Item → Item × Item → Bool
has item pair = same pair.0 item

either : (b c : Bool) → cond b true c ≡ (b || c)
either true c = refl
either false c = refl

key_any : (pairs : List (Item × Item)) (item : Item) → is_key pairs item ≡ list_any (has item) pairs
unfolding is_key
key_any [] item = refl
key_any (pair ∷ pairs) item = either (has item pair) (is_key pairs item) ∙ ap (λ b. has item pair || b) (key_any pairs item)

key_among : (pairs : List (Item × Item)) (item : Item) → is_key pairs item ≡ true → Any (λ pair. pair.0 ≡ item) pairs
key_among pairs item e =
    let found = Any-from_list_any (has item) pairs (sym (key_any pairs item) ∙ e) in
    (found.0, found.1, found.2, found.3, same-is found.1.0 item found.4)

among_key : (pairs : List (Item × Item)) (item : Item) → Any (λ pair. pair.0 ≡ item) pairs → is_key pairs item ≡ true
among_key pairs item found =
    key_any pairs item ∙ list_any-from_Any (has item) pairs (found.0, found.1, found.2, found.3, same-from found.1.0 item found.4)

pub key_is_among : KeyIsAmong
key_is_among = λ pairs item. (key_among pairs item, among_key pairs item)
