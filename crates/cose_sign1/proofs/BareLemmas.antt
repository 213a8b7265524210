-- A message keeps its shape and its headers stay fine when its unprotected header is dropped.
use Rattle.std.proofs.Common.{◌≡◌, ℕ, Bool, true, false, not, if◌then◌else◌, List, [], Option, Some, None, refl, sym, ap, subst, ◌∙◌}
use Rattle.std.proofs.lemmas.Bool.{or_parts}
use Rattle.cbor_core.specs.declared.words.Grammar.TheVariants.{Wide}
use Rattle.cbor_core.specs.declared.tree.Item.{Item}
use Rattle.cbor_core.specs.declared.tree.Node.TheVariants.{Map, outs-Array, outs-Bytes, outs-Map, outs-Tag}
use Rattle.cbor_core.specs.Spells.{Spells}
use Rattle.cose_sign1.specs.declared.parts.Parts.{Parts}
use Rattle.cose_sign1.specs.declared.sign1.Sign1.{Sign1}
use Rattle.cose_sign1.specs.declared.stops.Sign1Stop.{Sign1Stop}
use Rattle.cose_sign1.specs.declared.stops.Sign1Stop.TheVariants.{BadCrit}
use Rattle.cose_sign1.specs.Labels.{value_at, has_number}
use Rattle.cose_sign1.specs.Parts.{parts_in}
use Rattle.cose_sign1.specs.Headers.{or_then, first_fault, protected_fault, unprotected_fault, crit_fine, bad_crit, crit_fault, header_fault}
use Rattle.cose_sign1.specs.Sign1Of.{HasEntries, message_of, Sign1Of}
use Rattle.cose_sign1.specs.Message.{array_item, message_parts, bare_item, bare_of, BareIsMessage}

pub or_none : (a b : Option Sign1Stop) → or_then a b ≡ None → (a ≡ None) × (b ≡ None)
or_none None b e = (refl, e)
or_none (Some stop) b e = absurd cc

pub if_none : (b : Bool) → (if b then Some BadCrit else None) ≡ None → b ≡ false
if_none true e = absurd cc
if_none false e = refl

crit_bare : (entries unprotected : List (Item × Item)) → crit_fault entries unprotected ≡ None → crit_fault entries [] ≡ None
crit_bare entries unprotected e =
    let fine = not (crit_fine entries (value_at 2 entries)) in
    let p = or_parts (has_number 2 unprotected) fine (if_none (bad_crit entries unprotected) e) in
    ap (λ (b : Bool). if b then Some BadCrit else None) p.1

header_bare : (entries unprotected : List (Item × Item)) → header_fault entries unprotected ≡ None → header_fault entries [] ≡ None
unfolding header_fault first_fault
header_bare entries unprotected e =
    let p = or_none (first_fault protected_fault entries) _ e in
    let q = or_none (first_fault (unprotected_fault entries) unprotected) _ p.1 in
    ap (λ (a : Option Sign1Stop). or_then a (crit_fault entries [])) p.0 ∙ crit_bare entries unprotected q.1

abbrev bare_parts : List ℕ → Option (List ℕ) → List ℕ → Parts
bare_parts p c s = record { tagged = true; protected = p; unprotected = []; payload = c; signature = s }

parts_bare : (p c s : List ℕ) → parts_in (bare_item p c s) ≡ Some (bare_parts p (Some c) s)
unfolding parts_in
parts_bare p c s =
    let items = message_parts p (record { node = Map [] }) (Some c) s in
    rw (outs-Tag 18 (array_item items), outs-Array items, outs-Bytes p, outs-Map [], outs-Bytes c, outs-Bytes s) refl

bare_at : (parts : Parts) (entries : List (Item × Item)) (logged payload : List ℕ) → HasEntries parts.protected entries → header_fault entries parts.unprotected ≡ None
    → parts.payload ≡ Some payload → Spells Wide (bare_item parts.protected payload parts.signature) logged → Sign1Of logged (bare_of (message_of parts entries))
bare_at parts entries logged payload has fine e spelled =
    let shape = subst (λ (o : Option (List ℕ)). parts_in (bare_item parts.protected payload parts.signature) ≡ Some (bare_parts parts.protected o parts.signature)) (sym e) (parts_bare parts.protected payload parts.signature) in
    (bare_parts parts.protected parts.payload parts.signature, entries, (bare_item parts.protected payload parts.signature, spelled, shape), has, header_bare entries parts.unprotected fine, refl)

pub bare_is : BareIsMessage
bare_is bytes logged payload v h e spelled =
    let m = h.5 in
    let e' = subst (λ (x : Sign1). x.payload ≡ Some payload) m e in
    let spelled' = subst (λ (x : Sign1). Spells Wide (bare_item x.protected payload x.signature) logged) m spelled in
    subst (λ (x : Sign1). Sign1Of logged (bare_of x)) (sym m) (bare_at h.0 h.1 logged payload h.3 h.4 e' spelled')
