-- One more item's bytes behind those of the items so far.
use Rattle.std.proofs.Common.{◌≡◌, ℕ, ◌+◌, ◌<◌, List, [], ◌∷◌, ◌++◌, length, take, get_or, refl, sym, ap, ◌∙◌}
use Rattle.std.proofs.lemmas.List.{take_more}
use Rattle.cbor_core.specs.declared.tree.Item.{Item}
use Rattle.cbor_core.specs.declared.tree.Node.{out-Node}
use Rattle.statement.specs.Claims.{blob_in, blobs_of}

blobs_push : (items : List Item) (item : Item) → blobs_of (items ++ item ∷ []) ≡ blobs_of items ++ blob_in (out-Node item.node) ∷ []
blobs_push [] item = refl
blobs_push (x ∷ xs) item = ap (λ (rest : List (List ℕ)). blob_in (out-Node x.node) ∷ rest) (blobs_push xs item)

pub blobs_more : (items : List Item) (i : ℕ) (item : Item) (blob : List ℕ) (blobs : List (List ℕ)) → i < length items → item ≡ get_or items i item
    → blob ≡ blob_in (out-Node item.node) → blobs ≡ blobs_of (take i items) → blobs ++ blob ∷ [] ≡ blobs_of (take (i + 1) items)
blobs_more items i item blob blobs lt e b so_far =
    ap (λ (front : List (List ℕ)). front ++ blob ∷ []) so_far
    ∙ ap (λ (last : List ℕ). blobs_of (take i items) ++ last ∷ []) b
    ∙ sym (blobs_push (take i items) item)
    ∙ ap (λ (x : Item). blobs_of (take i items ++ x ∷ [])) e
    ∙ ap (λ (xs : List Item). blobs_of xs) (sym (take_more items i item lt))
