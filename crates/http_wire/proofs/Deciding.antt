-- A whole head decides the answer, however its bytes are cut.
use Rattle.std.proofs.Common.{◌≡◌, ℕ, zero, suc, slice_index, ◌<◌, inl, inr, List, [], ◌∷◌, ◌++◌, length, Bool, IsTrue, Some, Result, Err, refl, sym, ap, ◌∙◌, subst, arith, append-nil, length-append, lit≤, lit<}
use Rattle.std.proofs.lemmas.Str.{IsUtf8-from_ascii}
use Rattle.std.proofs.lemmas.List.Elements.{All-cons, All-nil}
use Rattle.httparse.specs.Grammar.{RequestHead, IsRequestHead, IsField, print_request, is_token_byte, is_uri_byte, lf}
use Rattle.http_wire.specs.declared.request.HeadFault.{HeadFault}
use Rattle.http_wire.specs.declared.request.HeadFault.TheVariants.{BadHead, NoLength, TooLarge, HeadTooLong}
use Rattle.http_wire.specs.declared.request.Next.{Next}
use Rattle.http_wire.specs.declared.request.Next.TheVariants as next
use Rattle.http_wire.specs.Heads.{IsHead, Hopeless, body_length, pairs_of, is_head_method}
use Rattle.http_wire.specs.Requests.{IsRequest, FaultByFields, IsHeadFault, LacksBody, EndsInside}
use Rattle.http_wire.specs.Taking.{Gives}
use Rattle.http_wire.specs.Laws.{RefusedHoweverCut, CutInBody, IsEnd}
use Rattle.http_wire.proofs.Finding.{head_more, request_more, same_length, heads_agree, no_head_in_none, within_limit}

-- the length of one head's body, found twice
abbrev length_of : RequestHead → Result ℕ HeadFault
length_of h = body_length h.method (pairs_of h)

faults_agree : (bytes : List ℕ) (fault found : HeadFault) (of_head by_head : Bool) → FaultByFields bytes fault of_head → FaultByFields bytes found by_head
    → (found ≡ fault) × (by_head ≡ of_head)
faults_agree bytes fault found of_head by_head f g =
    let heads = heads_agree bytes g.head f.head g.rest f.rest g.reads f.reads in
    let both : Err found ≡ Err fault = sym g.why ∙ ap length_of heads.0 ∙ f.why in
    (cc both, g.method ∙ ap (λ (h : RequestHead). is_head_method h.method) heads.0 ∙ sym f.method)

fault_more : (bytes more : List ℕ) (fault : HeadFault) (of_head : Bool) → FaultByFields bytes fault of_head → FaultByFields (bytes ++ more) fault of_head
fault_more bytes more fault of_head f = record { head = f.head; rest = f.rest ++ more; reads = head_more more f.reads; why = f.why; method = f.method }

fault_no_request : (bytes rest : List ℕ) (fault : HeadFault) (of_head : Bool) (q : _) → FaultByFields bytes fault of_head → IsRequest bytes q rest → ⊥
fault_no_request bytes rest fault of_head q f x =
    let heads = heads_agree bytes f.head x.head _ _ f.reads x.reads in
    let both = sym f.why ∙ ap length_of heads.0 ∙ x.whole in cc both

fault_no_body : (bytes : List ℕ) (fault : HeadFault) (of_head : Bool) → FaultByFields bytes fault of_head → LacksBody bytes → ⊥
fault_no_body bytes fault of_head f l =
    let heads = heads_agree bytes f.head l.head _ _ f.reads l.reads in
    let both = sym f.why ∙ ap length_of heads.0 ∙ l.wants in cc both

-- the parser's own faults don't stand where a whole head does
refused_head : (bytes more : List ℕ) (found : HeadFault) (by_head : Bool) (h : RequestHead) (rest : List ℕ) → IsHeadFault bytes found by_head → IsHead (bytes ++ more) h rest
    → FaultByFields (bytes ++ more) found by_head
refused_head bytes more BadHead by_head h rest (inl f) x = absurd (f.0 more h rest x)
refused_head bytes more BadHead by_head h rest (inr f) x = fault_more bytes more BadHead by_head f
refused_head bytes more NoLength by_head h rest f x = fault_more bytes more NoLength by_head f
refused_head bytes more TooLarge by_head h rest f x = fault_more bytes more TooLarge by_head f
refused_head bytes more HeadTooLong by_head h rest f x = absurd (f.2.0 h _ (within_limit bytes more h rest f.1 x))

whole_cut : (bytes more : List ℕ) → more ≡ [] → bytes ++ more ≡ bytes
whole_cut bytes more e = ap (λ (xs : List ℕ). bytes ++ xs) e ∙ append-nil bytes

cut_head : (bytes : List ℕ) (h : RequestHead) (rest : List ℕ) → EndsInside bytes → IsHead bytes h rest → LacksBody bytes
cut_head bytes h rest (inl f) x = absurd (f.2.0 h rest x.reads)
cut_head bytes h rest (inr f) x = f

none_of : (bytes more : List ℕ) (h : RequestHead) (rest : List ℕ) → bytes ≡ [] → more ≡ [] → IsHead (bytes ++ more) h rest → ⊥
none_of bytes more h rest e f x = no_head_in_none h rest (subst (λ (xs : List ℕ). IsHead xs h rest) (ap (λ (xs : List ℕ). xs ++ more) e ∙ f) x)

pub refused_however_cut : RefusedHoweverCut
refused_however_cut bytes more (next.Request q) held fault of_head g f =
    absurd (fault_no_request (bytes ++ more) (held ++ more) fault of_head q f (request_more more g))
refused_however_cut bytes more next.Ended held fault of_head g f = absurd (none_of bytes more f.head f.rest g.0 g.1 f.reads)
refused_however_cut bytes more next.CutShort held fault of_head g f =
    let whole = subst (λ (xs : List ℕ). FaultByFields xs fault of_head) (whole_cut bytes more g.1) f in
    absurd (fault_no_body bytes fault of_head whole (cut_head bytes whole.head whole.rest g.0 whole.reads))
refused_however_cut bytes more (next.Refused found by_head) held fault of_head g f =
    faults_agree (bytes ++ more) fault found of_head by_head f (refused_head bytes more found by_head f.head f.rest g f.reads)
refused_however_cut bytes more next.ReadFault held fault of_head g f = tt
refused_however_cut bytes more next.OutOfMemory held fault of_head g f = tt

-- a request has its whole body
lacks_no_request : (bytes rest : List ℕ) (q : _) → LacksBody bytes → IsRequest bytes q rest → ⊥
lacks_no_request bytes rest q l x =
    let heads = heads_agree bytes l.head x.head l.rest (x.body ++ rest) l.reads x.reads in
    let sizes : l.size ≡ length x.body = same_length _ _ _ l.wants (ap length_of heads.0 ∙ x.whole) in
    omega (arith, l.short, sizes, ap length heads.1, length-append x.body rest)

pub cut_in_body : CutInBody
cut_in_body bytes more (next.Request q) held g l = absurd (lacks_no_request (bytes ++ more) (held ++ more) q l (request_more more g))
cut_in_body bytes more next.Ended held g l = absurd (none_of bytes more l.head l.rest g.0 g.1 l.reads)
cut_in_body bytes more next.CutShort held g l = tt
cut_in_body bytes more (next.Refused found by_head) held g l =
    absurd (fault_no_body (bytes ++ more) found by_head (refused_head bytes more found by_head l.head l.rest g l.reads) l)
cut_in_body bytes more next.ReadFault held g l = tt
cut_in_body bytes more next.OutOfMemory held g l = tt

-- the shortest head
least : RequestHead
least = record { blank = []; method = 71 ∷ []; target = 47 ∷ []; minor = 0; line_end = lf; fields = []; last = lf }

ascii_slash : (i : ℕ) → slice_index (47 ∷ []) i < 128
ascii_slash zero = lit< tt
ascii_slash (suc i) = lit< tt

is_least : IsRequestHead least
unfolding least is_token_byte
is_least = record {
  method = (lit< tt, All-cons (λ (b : ℕ). IsTrue (is_token_byte b)) 71 [] refl (All-nil (λ (b : ℕ). IsTrue (is_token_byte b))));
  target = (lit< tt, All-cons (λ (b : ℕ). IsTrue (is_uri_byte b)) 47 [] refl (All-nil (λ (b : ℕ). IsTrue (is_uri_byte b))));
  target_text = IsUtf8-from_ascii (47 ∷ []) ascii_slash;
  minor = lit≤ tt;
  fields = All-nil IsField;
}

-- no byte is not yet hopeless
not_hopeless : Hopeless [] → ⊥
unfolding least print_request
not_hopeless f = f (print_request least) least [] (record {
  reads = (is_least, sym (append-nil (print_request least)));
  fields = lit≤ tt;
  size = lit≤ tt;
})

pub ends_at_nothing : (answer : Next) (held : List ℕ) → Gives [] (Some []) answer held → IsEnd answer
ends_at_nothing (next.Request q) held g = absurd (no_head_in_none g.head _ g.reads)
ends_at_nothing next.Ended held g = tt
ends_at_nothing next.CutShort held g =
    let P : Type 0 = ⊥ in elim g.0 as (λ _. P) [ inl f ↦ omega (arith, f.0) | inr f ↦ no_head_in_none f.head _ f.reads ]
ends_at_nothing (next.Refused BadHead by_head) held (inl f) = absurd (not_hopeless f.0)
ends_at_nothing (next.Refused BadHead by_head) held (inr f) = absurd (no_head_in_none f.head _ f.reads)
ends_at_nothing (next.Refused NoLength by_head) held f = absurd (no_head_in_none f.head _ f.reads)
ends_at_nothing (next.Refused TooLarge by_head) held f = absurd (no_head_in_none f.head _ f.reads)
ends_at_nothing (next.Refused HeadTooLong by_head) held f = absurd (omega (arith, f.1))
ends_at_nothing next.ReadFault held g = tt
ends_at_nothing next.OutOfMemory held g = tt

pub ends_nowhere_else : (bytes more held : List ℕ) → Gives bytes (Some more) next.Ended held → bytes ++ more ≡ []
ends_nowhere_else bytes more held g = ap (λ (xs : List ℕ). xs ++ more) g.0 ∙ g.1
