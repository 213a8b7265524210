-- The keys of a strict map rise while they are read.
use Rattle.std.proofs.Common.{◌≡◌, ℕ, true, false, List, [], ◌∷◌, ◌++◌, None, Ok, refl, sym, ap, subst, ◌∙◌, append_assoc}
use Rattle.cbor_core.specs.declared.words.Grammar.{Grammar}
use Rattle.cbor_core.specs.declared.words.Grammar.TheVariants.{Strict, Wide}
use Rattle.cbor_core.specs.declared.tree.Item.{Item}
use Rattle.cbor_core.specs.Bytes.{IsBytes, is_below}
use Rattle.cbor_core.specs.Tree.{is_key}
use Rattle.cbor_core.specs.Spells.{is_strict, key_row, SpellsIn}
use Rattle.cbor_core.specs.Reading.{read_in, read_pair, front_of, Risen, KeysRise, KeyStands}
use Rattle.cbor_core.specs.Encoding.{no_writer}
use Rattle.cbor_core.proofs.StepLemmas.{IsBytes-after, front-is}
use Rattle.cbor_core.proofs.PairLemmas.{pair-spelled}
use Rattle.cbor_core.proofs.ReadLaws.{read-spelled}
use Rattle.cbor_core.proofs.StrictLemmas.{risen_past, risen_push, no_key, row_order}
use Rattle.cbor_core.proofs.StrictLevels.{spell-is}
use Rattle.cbor_core.proofs.SpellParts.{some_is}

pub strict_only : (g : Grammar) → is_strict g ≡ true → g ≡ Strict
strict_only Strict e = refl
strict_only Wide e = absurd cc

pub unique : (room : ℕ) (item : Item) (s t : List ℕ) → SpellsIn Strict room item s → SpellsIn Strict room item t → s ≡ t
unique room item s t p q = some_is s t (sym (spell-is room item s p) ∙ spell-is room item t q)

-- nothing is before the first key
pub none-rise : (g : Grammar) (room : ℕ) → KeysRise g room [] []
unfolding Risen
none-rise g room e = tt

-- a key above the last has no row
pub no_row_above : (g : Grammar) (room : ℕ) (earlier : List (Item × Item)) (last : List ℕ) (key : Item) (text : List ℕ) → KeysRise g room earlier last → KeyStands g room key text → is_strict g ≡ true → is_below last text ≡ true → key_row g earlier last key text ≡ None
no_row_above g room earlier last key text rises stands strict above =
    let fresh : is_key earlier key ≡ false = no_key (SpellsIn Strict room) no_writer (unique room) earlier last key text (rises strict) (stands strict) above in
    rw (fresh, strict, above) refl

-- a key that was read stands so
pub key_stands : (g : Grammar) (room : ℕ) (bytes : List ℕ) (key : Item) (rest : List ℕ) → IsBytes bytes → read_in g room bytes ≡ Ok (key, rest) → KeyStands g room key (front_of bytes rest)
key_stands g room bytes key rest fits e strict =
    let is = strict_only g strict in
    let e' = subst (λ (x : Grammar). read_in x room bytes ≡ Ok (key, rest)) is e in
    let s = read-spelled Strict room bytes key rest fits e' in
    let front : front_of bytes rest ≡ s.0 = ap (λ (b : List ℕ). front_of b rest) s.2 ∙ front-is s.0 rest in
    subst (λ (t : List ℕ). SpellsIn Strict room key t) (sym front) s.1

-- behind a pair that was read the keys have risen to its key
pub rise-on : (g : Grammar) (room : ℕ) (earlier : List (Item × Item)) (last bytes : List ℕ) (pair : Item × Item) (key rest : List ℕ) → IsBytes bytes → KeysRise g room earlier last
    → read_pair g (read_in g room) earlier last bytes ≡ Ok (pair, (key, rest)) → KeysRise g room (earlier ++ pair ∷ []) key
rise-on g room earlier last bytes pair key rest fits rises e strict =
    let is = strict_only g strict in
    let e' = subst (λ (x : Grammar). read_pair x (read_in x room) earlier last bytes ≡ Ok (pair, (key, rest))) is e in
    let s = pair-spelled Strict (SpellsIn Strict room) (read_in Strict room) (read-spelled Strict room) earlier last bytes (pair, (key, rest)) fits e' in
    let above : is_below last key ≡ true = row_order (SpellsIn Strict room) no_writer earlier last pair.0 key s.2 in
    risen_push (SpellsIn Strict room) no_writer earlier pair key (risen_past (SpellsIn Strict room) no_writer earlier last key (rises strict) above) s.1

-- what follows a pair that was read is bytes
pub pair-fits : (g : Grammar) (room : ℕ) (earlier : List (Item × Item)) (last bytes : List ℕ) (pair : Item × Item) (key rest : List ℕ) → IsBytes bytes
    → read_pair g (read_in g room) earlier last bytes ≡ Ok (pair, (key, rest)) → IsBytes rest
pair-fits g room earlier last bytes pair key rest fits e =
    let s = pair-spelled g (SpellsIn g room) (read_in g room) (read-spelled g room) earlier last bytes (pair, (key, rest)) fits e in
    IsBytes-after bytes (key ++ s.0) rest fits (s.4 ∙ sym (append_assoc key s.0 rest))
