-- The last reservation, and which records fit, with one record more.
use Rattle.std.proofs.Common.{◌≡◌, ℕ, ◌+◌, ◌<◌, List, [], ◌∷◌, ◌++◌, length, take, get_or, true, Option, Some, None, refl, sym, ap, ◌∙◌, arith}
use Rattle.std.specs.Prelude.{filter_map, fold, option_and_then}
use Rattle.std.specs.List.{cons_option}
use Rattle.std.proofs.lemmas.List.{take_more}
use Rattle.std.proofs.lemmas.List.Sums.{fold-append}
use Rattle.std.proofs.lemmas.List.Elements.{filter_map-append}
use Rattle.cbor_core.specs.declared.tree.Item.{Item}
use Rattle.cbor_core.specs.Items.{array_in}
use Rattle.cbor_core.specs.Decoding.{strict_item}
use Rattle.key_store.specs.declared.records.KeyHead.{KeyHead}
use Rattle.key_store.specs.Records.{head_of_parts, head_in, head_of, upto_of_parts, upto_in, upto_of}
use Rattle.key_store.specs.Keys.{reserved_of, key_of, fits_at}

pub reserved_more : (records : List (List ℕ)) (body : List ℕ) (upto : ℕ) → upto_of body ≡ Some upto → reserved_of (records ++ body ∷ []) ≡ upto
reserved_more records body upto reads =
    ap (fold (λ (last next : ℕ). next) 0) (filter_map-append upto_of records (body ∷ []) ∙ ap (λ o. filter_map upto_of records ++ cons_option o []) reads)
    ∙ fold-append (λ (last next : ℕ). next) 0 (filter_map upto_of records) (upto ∷ [])

pub reserved_next : (records : List (List ℕ)) (n : ℕ) (body : List ℕ) (upto : ℕ) → n < length records → body ≡ get_or records n [] → upto_of body ≡ Some upto → upto ≡ reserved_of (take (n + 1) records)
reserved_next records n body upto within is reads =
    sym (ap reserved_of (take_more records n [] within ∙ ap (λ b. take n records ++ b ∷ []) (sym is)) ∙ reserved_more (take n records) body upto reads)

-- the first record reserves nothing
not_both : (parts : List Item) (head : KeyHead) → head_of_parts parts ≡ Some head → upto_of_parts parts ≡ None
not_both [] head e = refl
not_both (a ∷ []) head e = refl
not_both (a ∷ b ∷ []) head e = cc
not_both (a ∷ b ∷ c ∷ rest) head e = refl

not_both_arrays : (o : Option (List Item)) (head : KeyHead) → option_and_then head_of_parts o ≡ Some head → option_and_then upto_of_parts o ≡ None
not_both_arrays None head e = refl
not_both_arrays (Some parts) head e = not_both parts head e

not_both_items : (o : Option Item) (head : KeyHead) → option_and_then head_in o ≡ Some head → option_and_then upto_in o ≡ None
not_both_items None head e = refl
not_both_items (Some item) head e = not_both_arrays (array_in item) head e

pub head_reserves_none : (body : List ℕ) (head : KeyHead) → head_of body ≡ Some head → upto_of body ≡ None
unfolding head_of upto_of
head_reserves_none body head e = not_both_items (strict_item body) head e

pub reserved_first : (records : List (List ℕ)) (head : KeyHead) → 0 < length records → key_of records ≡ Some head → 0 ≡ reserved_of (take 1 records)
reserved_first [] head some key = absurd (omega arith)
reserved_first (first ∷ rest) head some key =
    sym (ap (λ o. fold (λ (last next : ℕ). next) 0 (cons_option o [])) (head_reserves_none first head key))

pub fits_below_one : (records : List (List ℕ)) (k : ℕ) → k < 1 → fits_at records 0 ≡ true → fits_at records k ≡ true
fits_below_one records k below first =
    let zero_is : k ≡ 0 = omega arith in
    rw zero_is first
