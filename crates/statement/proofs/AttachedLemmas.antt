-- A statement to which a receipt was attached.
use Rattle.std.specs.Prelude.{option_and_then}
use Rattle.std.proofs.Common.{◌≡◌, ℕ, true, cond, List, [], ◌∷◌, ◌++◌, Option, Some, None, Ok, Result, refl, sym, ap, subst, ◌∙◌}
use Rattle.sha2.specs.Sha256.{sha256}
use Rattle.cbor_core.specs.declared.words.Grammar.TheVariants.{Strict, Wide}
use Rattle.cbor_core.specs.declared.tree.Item.{Item}
use Rattle.cbor_core.specs.declared.tree.Node.{Node-F, out-Node}
use Rattle.cbor_core.specs.declared.tree.Node.TheVariants.{outs-Uint, outs-Bytes, outs-Array}
use Rattle.cbor_core.specs.Tree.{Layer}
use Rattle.cbor_core.specs.Spells.{Spells}
use Rattle.cbor_core.specs.Exact.{StrictIsWide}
use Rattle.cbor_core.specs.Items.{uint_item, bytes_item, array_item, array_at, array_in}
use Rattle.cose_sign1.specs.declared.sign1.Sign1.{Sign1}
use Rattle.cose_sign1.specs.declared.stops.Sign1Stop.{Sign1Stop}
use Rattle.cose_sign1.specs.Labels.{is_number_in, value_at}
use Rattle.cose_sign1.specs.Sign1Of.{Sign1Of}
use Rattle.cose_sign1.specs.Message.{bare_item, bare_of, BareIsMessage}
use Rattle.cose_sign1.specs.OneAnswer.{OneAnswer as OneMessage}
use Rattle.cose_sign1.specs.Attached.{items_or, receipt_items, attached_entries, entries_after, attached_of}
use Rattle.statement.specs.declared.statement_type.Statement.{Statement}
use Rattle.statement.specs.Claims.{names_of, blob_in, blobs_of, blobs_in, receipts_by, receipts_of}
use Rattle.statement.specs.Statements.{Reads}
use Rattle.statement.specs.Parsed.{said, StatementOf}
use Rattle.statement.specs.Attached.{IsSameWith, AttachedIsSame}
use Rattle.statement.proofs.AnswerLemmas.{made_of}

blobs_push : (items : List Item) (receipt : List ℕ) → blobs_of (items ++ bytes_item receipt ∷ []) ≡ blobs_of items ++ receipt ∷ []
blobs_push [] receipt = ap (λ (l : Layer). blob_in l ∷ []) (outs-Bytes receipt)
blobs_push (item ∷ items) receipt = ap (λ (b : List (List ℕ)). blob_in (out-Node item.node) ∷ b) (blobs_push items receipt)

layer_blobs : (l : Layer) → blobs_of (items_or (array_at l)) ≡ blobs_in l
layer_blobs (Node-F.Array items) = refl
layer_blobs _ = refl

value_blobs : (o : Option Item) → blobs_of (items_or (option_and_then array_in o)) ≡ receipts_by o
value_blobs None = refl
value_blobs (Some item) = layer_blobs (out-Node item.node)

-- the receipts that stand there afterwards
receipts_after : (u : List (Item × Item)) (receipt : List ℕ) → receipts_of (attached_entries (receipt_items u) receipt) ≡ receipts_of u ++ receipt ∷ []
receipts_after u receipt =
    let items = receipt_items u ++ bytes_item receipt ∷ [] in
    ap (λ (l : Layer). receipts_by (cond (is_number_in 394 l) (Some (array_item items)) None)) (outs-Uint 394)
    ∙ ap (λ (l : Layer). blobs_in l) (outs-Array items)
    ∙ blobs_push (receipt_items u) receipt
    ∙ ap (λ (b : List (List ℕ)). b ++ receipt ∷ []) (value_blobs (value_at 394 u))

ok_same : (v w : Sign1) → ◌≡◌ {A = Result Sign1 Sign1Stop} (Ok v) (Ok w) → v ≡ w
ok_same v w e = cc

module _ (one : OneMessage) (wide : StrictIsWide) (bare : BareIsMessage) where
  pub attached_is_same : AttachedIsSame
  attached_is_same bytes receipt attached s ((v, is, named, p, c, sig, receipts, small), form, id) (w, is_w, room, made) =
      let same : w ≡ v = ok_same w v (one bytes (Ok w) (Ok v) is_w is) in
      let here : Sign1Of attached (attached_of v receipt) = subst (λ (x : Sign1). Sign1Of attached (attached_of x receipt)) same made.1 in
      let form_wide : Spells Wide (bare_item s.protected s.payload s.signature) s.logged = wide (bare_item s.protected s.payload s.signature) s.logged form in
      let form_v : Spells Wide (bare_item v.protected s.payload v.signature) s.logged = subst (λ (x : List ℕ × List ℕ). Spells Wide (bare_item x.0 s.payload x.1) s.logged) (λ i. (sym p i, sym sig i)) form_wide in
      let again : Reads s.logged (said s) s.protected s.payload s.signature [] = (bare_of v, bare bytes s.logged s.payload v is c form_v, named, p, c, sig, refl, small) in
      let more : receipts_of (entries_after v receipt) ≡ s.receipts ++ receipt ∷ [] = receipts_after v.headers.unprotected receipt ∙ ap (λ (b : List (List ℕ)). b ++ receipt ∷ []) receipts in
      let reads : Reads attached (said s) s.protected s.payload s.signature (s.receipts ++ receipt ∷ []) = (attached_of v receipt, here, named, p, c, sig, more, small) in
      (made_of (said s) s.protected s.payload s.signature s.logged (s.receipts ++ receipt ∷ []) form again, (reads, form, refl), record { says = refl; logged = refl; id = sym id; receipts = refl })
