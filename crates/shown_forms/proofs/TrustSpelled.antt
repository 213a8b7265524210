-- What is read as a trust file is spelled as one, in one way, and so is what is written of its form.
use Rattle.std.proofs.Common.{◌≡◌, ℕ, inl, inr, true, false, ◌&&◌, List, [], ◌∷◌, ◌++◌, map, length, Result, Ok, Err, String, Global, refl, sym, ap, subst, ◌∙◌}
use Rattle.std.specs.Prelude.{◌==◌, nat_le, Option, Some, None, option_and_then, if◌then◌else◌}
use Rattle.std.proofs.lemmas.Bool.{eqb-true}
use Rattle.std.proofs.lemmas.List.{append-nil, append_assoc, map_push}
use Rattle.cbor_core.specs.declared.words.Grammar.TheVariants.{Strict}
use Rattle.cbor_core.specs.declared.tree.Item.{Item}
use Rattle.cbor_core.specs.declared.tree.Node.{Node-F, out-Node, roll-Node}
use Rattle.cbor_core.specs.declared.tree.Node.TheVariants.{Bytes, rolls-Bytes}
use Rattle.cbor_core.specs.Tree.{Layer}
use Rattle.cbor_core.specs.Items.{uint_in, bytes_at, bytes_in, text_in, array_in, is_number, is_uint}
use Rattle.cbor_core.specs.Decoding.{OneStrictSpelling}
use Rattle.cbor_core.specs.Spells.{Spells}
use Rattle.policy_rules.specs.declared.documents.Policy.{Policy}
use Rattle.policy_rules.specs.Documents.{PolicyOf}
use Rattle.policy_rules.specs.Spelling.{uint_item, text_item, bytes_item, array_item, holder_item}
use Rattle.policy_rules.proofs.Spelled.{nothing, same_some, given_then, given_if, back, number_is, text_is, items_is}
use Rattle.relying_party.specs.declared.trust.Issuer.{Issuer}
use Rattle.relying_party.specs.declared.trust.Trust.{Trust}
use Rattle.relying_party.specs.declared.trust.TrustStop.{TrustStop}
use Rattle.relying_party.specs.Parties.{ServiceKey}
use Rattle.relying_party.specs.OneAnswer.{OneAnswer}
use Rattle.relying_party.specs.TrustFiles.{key_in, service_from, service_of_parts, service_in, issuer_from, issuer_of_parts, issuer_in, each_onto, so_many, list_in, trust_from, trust_of_parts, trust_in, TrustOf, TrustFault, Decoded}
use Rattle.scitt_forms.specs.Refusals.{Said, and_then}
use Rattle.scitt_forms.specs.Trusts.{trust_item_said}
use Rattle.scitt_forms.specs.Writing.{item_said}
use Rattle.write_trust.specs.WritesTrust.{past_word, judged, trust_doc, WritesTrust}
use Rattle.shown_forms.specs.declared.showing.ShowStop.{ShowStop}
use Rattle.shown_forms.specs.declared.showing.ShowStop.TheVariants.{NoDocument, NoForm, OutOfMemory}
use Rattle.shown_forms.specs.Trusts.{holder_of, service_item, trust_item}
use Rattle.shown_forms.specs.Showing.{TrustShown, ShowsTrust, ShowsDocument, ReadsTrustBack}

bytes_rolls : (l : Layer) (s : List ℕ) → bytes_at l ≡ Some s → roll-Node l ≡ Bytes s
bytes_rolls (Node-F.Bytes t) s e = rolls-Bytes t ∙ ap Bytes (same_some t s e)
bytes_rolls _ s e = absurd (nothing s e)

bytes_is : (item : Item) (s : List ℕ) → bytes_in item ≡ Some s → bytes_item s ≡ item
bytes_is item s e = back item (Bytes s) (bytes_rolls (out-Node item.node) s e)

key_is : (item : Item) (s : List ℕ) → key_in item ≡ Some s → bytes_item s ≡ item
key_is item s e =
    let step = given_then (λ x. if length x == 60 then Some x else None) (bytes_in item) s e in
    elim (given_if (length step.from == 60) (Some step.from) None s step.gives) [
      | inl sized ↦ ap bytes_item (sym (same_some step.from s sized.1)) ∙ bytes_is item step.from step.is
      | inr other ↦ absurd (nothing s other.1)
    ]

service_given : (o p : Option (List ℕ)) (s : ServiceKey) → service_from o p ≡ Some s → (o ≡ Some s.name) × (p ≡ Some s.key)
service_given (Some n) (Some k) s e =
    let made : ServiceKey = record { name = n; key = k } in
    let same = same_some made s e in (ap (λ (x : ServiceKey). Some x.name) same, ap (λ (x : ServiceKey). Some x.key) same)
service_given None p s e = absurd (nothing s e)
service_given (Some n) None s e = absurd (nothing s e)

two_same : (a b x y : Item) → a ≡ x → b ≡ y → array_item (a ∷ b ∷ []) ≡ array_item (x ∷ y ∷ [])
two_same a b x y e f = cc

three_same : (a b c x y z : Item) → a ≡ x → b ≡ y → c ≡ z → array_item (a ∷ b ∷ c ∷ []) ≡ array_item (x ∷ y ∷ z ∷ [])
three_same a b c x y z e f g = cc

service_parts : (items : List Item) (s : ServiceKey) → service_of_parts items ≡ Some s → service_item s ≡ array_item items
service_parts [] s e = absurd (nothing s e)
service_parts (name ∷ []) s e = absurd (nothing s e)
service_parts (name ∷ key ∷ other ∷ more) s e = absurd (nothing s e)
service_parts (name ∷ key ∷ []) s e =
    let (n, k) = service_given (text_in name) (key_in key) s e in two_same _ _ _ _ (text_is name s.name n) (key_is key s.key k)

service_is : (item : Item) (s : ServiceKey) → service_in item ≡ Some s → service_item s ≡ item
service_is item s e =
    let step = given_then service_of_parts (array_in item) s e in service_parts step.from s step.gives ∙ items_is item step.from step.is

issuer_given : (o p q : Option (List ℕ)) (i : Issuer) → issuer_from o p q ≡ Some i → (o ≡ Some i.iss) × (p ≡ Some i.kid) × (q ≡ Some i.key)
issuer_given (Some n) (Some m) (Some k) i e =
    let made : Issuer = record { iss = n; kid = m; key = k } in
    let same = same_some made i e in (ap (λ (x : Issuer). Some x.iss) same, ap (λ (x : Issuer). Some x.kid) same, ap (λ (x : Issuer). Some x.key) same)
issuer_given None p q i e = absurd (nothing i e)
issuer_given (Some n) None q i e = absurd (nothing i e)
issuer_given (Some n) (Some m) None i e = absurd (nothing i e)

abbrev issuer_item : Issuer → Item
issuer_item i = holder_item (holder_of i)

issuer_parts : (items : List Item) (i : Issuer) → issuer_of_parts items ≡ Some i → issuer_item i ≡ array_item items
issuer_parts [] i e = absurd (nothing i e)
issuer_parts (iss ∷ []) i e = absurd (nothing i e)
issuer_parts (iss ∷ kid ∷ []) i e = absurd (nothing i e)
issuer_parts (iss ∷ kid ∷ key ∷ other ∷ more) i e = absurd (nothing i e)
issuer_parts (iss ∷ kid ∷ key ∷ []) i e =
    let (n, m, k) = issuer_given (text_in iss) (bytes_in kid) (key_in key) i e in
    three_same _ _ _ _ _ _ (text_is iss i.iss n) (bytes_is kid i.kid m) (key_is key i.key k)

issuer_is : (item : Item) (i : Issuer) → issuer_in item ≡ Some i → issuer_item i ≡ item
issuer_is item i e = let step = given_then issuer_of_parts (array_in item) i e in issuer_parts step.from i step.gives ∙ items_is item step.from step.is

each_is : {A : Type 0} (part : Item → Option A) (spell : A → Item) → ((item : Item) (x : A) → part item ≡ Some x → spell x ≡ item)
    → (front : List A) (items : List Item) (all : List A) → each_onto part front items ≡ Some all → map spell all ≡ map spell front ++ items
each_is part spell one front [] all e = ap (map spell) (sym (same_some front all e)) ∙ sym (append-nil (map spell front))
each_is part spell one front (item ∷ items) all e =
    let step = given_then (λ x. each_onto part (front ++ x ∷ []) items) (part item) all e in
    each_is part spell one (front ++ step.from ∷ []) items all step.gives
    ∙ ap (λ xs. xs ++ items) (map_push spell front step.from)
    ∙ append_assoc (map spell front) (spell step.from ∷ []) items
    ∙ ap (λ x. map spell front ++ x ∷ items) (one item step.from step.is)

list_is : {A : Type 0} (part : Item → Option A) (spell : A → Item) → ((item : Item) (x : A) → part item ≡ Some x → spell x ≡ item)
    → (low high : ℕ) (item : Item) (xs : List A) → list_in part low high item ≡ Some xs → array_item (map spell xs) ≡ item
list_is part spell one low high item xs e =
    let step = given_then (so_many part low high) (array_in item) xs e in
    let items : List Item = step.from in
    elim (given_if (nat_le low (length items) && nat_le (length items) high) (each_onto part [] items) None xs step.gives) [
      | inl fits ↦ ap array_item (each_is part spell one [] items xs fits.1) ∙ items_is item items step.is
      | inr past ↦ absurd (nothing xs past.1)
    ]

map_twice : (xs : List Issuer) → map holder_item (map holder_of xs) ≡ map issuer_item xs
map_twice [] = refl
map_twice (x ∷ xs) = ap (λ ys. issuer_item x ∷ ys) (map_twice xs)

number_given : (n : ℕ) (o : Option ℕ) → is_number n o ≡ true → o ≡ Some n
number_given n None e = cc
number_given n (Some m) e = ap Some (eqb-true m n e)

trust_given : (o : Option (List ServiceKey)) (p : Option (List Issuer)) (t : Trust) → trust_from o p ≡ Some t → (o ≡ Some t.services) × (p ≡ Some t.issuers)
trust_given (Some s) (Some i) t e =
    let made : Trust = record { services = s; issuers = i } in
    let same = same_some made t e in (ap (λ (x : Trust). Some x.services) same, ap (λ (x : Trust). Some x.issuers) same)
trust_given None p t e = absurd (nothing t e)
trust_given (Some s) None t e = absurd (nothing t e)

trust_parts : (items : List Item) (t : Trust) → trust_of_parts items ≡ Some t → trust_item t ≡ array_item items
trust_parts [] t e = absurd (nothing t e)
trust_parts (form ∷ []) t e = absurd (nothing t e)
trust_parts (form ∷ services ∷ []) t e = absurd (nothing t e)
trust_parts (form ∷ services ∷ issuers ∷ other ∷ more) t e = absurd (nothing t e)
trust_parts (form ∷ services ∷ issuers ∷ []) t e =
    elim (given_if (is_uint 1 form) (trust_from (list_in service_in 1 64 services) (list_in issuer_in 0 256 issuers)) None t e) [
      | inl one ↦
          let (s, i) = trust_given (list_in service_in 1 64 services) (list_in issuer_in 0 256 issuers) t one.1 in
          three_same _ _ _ _ _ _ (number_is form 1 (number_given 1 (uint_in form) one.0)) (list_is service_in service_item service_is 1 64 services t.services s)
          (ap array_item (map_twice t.issuers) ∙ list_is issuer_in issuer_item issuer_is 0 256 issuers t.issuers i)
      | inr other ↦ absurd (nothing t other.1)
    ]

-- an item that is read as a trust file is the item that the trust file is written as
pub trust_spelled : (item : Item) (t : Trust) → trust_in item ≡ Some t → trust_item t ≡ item
unfolding trust_in
trust_spelled item t e = let step = given_then trust_of_parts (array_in item) t e in trust_parts step.from t step.gives ∙ items_is item step.from step.is

-- a text that says a trust file's item is written as its bytes
pub trust_shown : (bytes text : List ℕ) (t : Trust) → TrustOf bytes t → item_said trust_item_said text ≡ Ok (trust_item t) → TrustShown bytes text
trust_shown bytes text t (item, spells, is) said =
    let same : item_said trust_item_said text ≡ Ok item = said ∙ ap Ok (trust_spelled item t is) in
    let doc : and_then (item_said trust_item_said text) trust_doc ≡ Ok t = ap (λ s. and_then s trust_doc) same ∙ ap (judged (past_word item)) is in
    record { trust = t; is = (item, spells, is); writes = (t, doc, (item, spells, is)) }

-- the decoder's answer at the stop that it is
pub stopped_by : (bytes : List ℕ) (stop named : TrustStop) → Decoded bytes (Err stop) → stop ≡ named → Decoded bytes (Err named)
stopped_by bytes stop named answers is = subst (λ (s : TrustStop). Decoded bytes (Err s)) is answers

-- bytes with a fault are no trust file
pub no_trust : OneAnswer → (bytes : List ℕ) (stop : TrustStop) → TrustFault bytes stop → (t : Trust) → TrustOf bytes t → ⊥
no_trust one bytes stop fault t is = let same : ◌≡◌ {A = Result Trust TrustStop} (Ok t) (Err stop) = one bytes (Ok t) (Err stop) is fault in cc

same_trust : (said : Said Trust) (a b : Trust) → said ≡ Ok a → said ≡ Ok b → a ≡ b
same_trust said a b is_a is_b = cc

pub trust_reads_back : OneStrictSpelling → ReadsTrustBack
trust_reads_back unique bytes text other shown (e, told, (mine, spells, read)) =
    let (d, said, (item, spelling, is)) = shown.writes in
    let same : e ≡ d = same_trust (and_then (item_said trust_item_said text) trust_doc) e d told said in
    let items : mine ≡ item = sym (trust_spelled mine e read) ∙ ap trust_item same ∙ trust_spelled item d is in
    unique mine other bytes spells (subst (λ (i : Item). Spells Strict i bytes) (sym items) spelling)

-- bytes that are no policy are shown as a trust file is
pub as_trust : (bytes : List ℕ) (r : Result (String Global) ShowStop) → ((policy : Policy) → PolicyOf bytes policy → ⊥) → ShowsTrust bytes r → ShowsDocument bytes r
as_trust bytes (Ok text) none shown = inr shown
as_trust bytes (Err NoDocument) none shown = (none, shown)
as_trust bytes (Err NoForm) none shown = absurd shown
as_trust bytes (Err OutOfMemory) none shown = tt
