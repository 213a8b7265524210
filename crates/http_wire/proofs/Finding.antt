-- A request that is in the bytes is found.
use Rattle.std.proofs.Common.{◌≡◌, ℕ, suc, ◌-◌, ◌<◌, ◌≤◌, inl, inr, List, [], ◌∷◌, ◌++◌, length, take, drop, Bool, Result, Ok, refl, sym, ap, ◌∙◌, subst, arith, append_assoc, append-nil, length-append}
use Rattle.std.proofs.lemmas.List.{take_at, drop_at, take-append-le}
use Rattle.httparse.specs.Grammar.{RequestHead, ReadsRequest, print_request}
use Rattle.httparse.proofs.GrammarLemmas.{request_unique, ReadsRequest-append}
use Rattle.http_wire.specs.declared.request.HeadFault.{HeadFault}
use Rattle.http_wire.specs.declared.request.HeadFault.TheVariants.{BadHead, NoLength, TooLarge, HeadTooLong}
use Rattle.http_wire.specs.declared.request.Request.{Request}
use Rattle.http_wire.specs.declared.request.Next.TheVariants as next
use Rattle.http_wire.specs.Heads.{IsHead, body_length, pairs_of}
use Rattle.http_wire.specs.Requests.{IsRequest, request_of, FaultByFields, IsHeadFault, EndsInside}
use Rattle.http_wire.specs.Laws.{FoundHoweverCut, OneRequest}

pub head_more : {bytes rest : List ℕ} {h : RequestHead} (more : List ℕ) → IsHead bytes h rest → IsHead (bytes ++ more) h (rest ++ more)
head_more {bytes} {rest} {h} more x = record { reads = ReadsRequest-append bytes h rest more x.reads; fields = x.fields; size = x.size }

pub request_more : {bytes rest : List ℕ} {q : Request} (more : List ℕ) → IsRequest bytes q rest → IsRequest (bytes ++ more) q (rest ++ more)
request_more {bytes} {rest} more r = record {
  head = r.head;
  body = r.body;
  reads = subst (IsHead (bytes ++ more) r.head) (append_assoc r.body rest more) (head_more more r.reads);
  whole = r.whole;
  is = r.is;
}

pub same_length : (m n : ℕ) (r : Result ℕ HeadFault) → r ≡ Ok m → r ≡ Ok n → m ≡ n
same_length m n r e f = cc (e, f)

-- two heads at the front are one
pub heads_agree : (bytes : List ℕ) (h k : RequestHead) (r s : List ℕ) → IsHead bytes h r → IsHead bytes k s → (h ≡ k) × (r ≡ s)
heads_agree bytes h k r s x y = request_unique bytes h k r s x.reads y.reads

bodies_agree : (a b r s : List ℕ) → length a ≡ length b → a ++ r ≡ b ++ s → (a ≡ b) × (r ≡ s)
bodies_agree a b r s e same = (
  sym (take_at a r (length a) refl) ∙ ap (take (length a)) same ∙ take_at b s (length a) (sym e),
  sym (drop_at a r (length a) refl) ∙ ap (drop (length a)) same ∙ drop_at b s (length a) (sym e),
)

pub one_request : OneRequest
one_request bytes p q r s x y =
    let heads = heads_agree bytes x.head y.head (x.body ++ r) (y.body ++ s) x.reads y.reads in
    let sizes : length x.body ≡ length y.body =
    same_length _ _ _ x.whole (ap (λ (h : RequestHead). body_length h.method (pairs_of h)) heads.0 ∙ y.whole) in
    let bodies = bodies_agree x.body y.body r s sizes heads.1 in
    (x.is ∙ ap (λ (h : RequestHead). request_of h x.body) heads.0 ∙ ap (request_of y.head) bodies.0 ∙ sym y.is, bodies.1)

-- no request in no bytes
pub no_head_in_none : (h : RequestHead) (rest : List ℕ) → IsHead [] h rest → ⊥
unfolding print_request
no_head_in_none h rest x =
    let e = ap length x.reads.1 in
    let long : 0 < length (print_request h ++ rest) = grind (arith, length-append {A = ℕ}) in
    omega (arith, e, long)

-- a head is whole in the first 8,192 bytes
take_over : (xs ys : List ℕ) (n : ℕ) → length xs ≤ n → take n (xs ++ ys) ≡ xs ++ take (n - length xs) ys
take_over [] ys n h = ap (λ (k : ℕ). take k ys) (omega arith)
take_over (x ∷ xs) ys n h =
    let e : n ≡ suc (n - 1) = omega arith in
    let f : n - length (x ∷ xs) ≡ (n - 1) - length xs = omega arith in
    ap (λ (k : ℕ). take k (x ∷ (xs ++ ys))) e ∙ ap (λ (zs : List ℕ). x ∷ zs) (take_over xs ys (n - 1) (omega arith)) ∙ ap (λ (k : ℕ). x ∷ (xs ++ take k ys)) (sym f)

pub within_limit : (bytes more : List ℕ) (h : RequestHead) (rest : List ℕ) → 8192 ≤ length bytes → IsHead (bytes ++ more) h rest
    → ReadsRequest (take 8192 bytes) h (take (8192 - length (print_request h)) rest)
within_limit bytes more h rest long x =
    let cut : take 8192 bytes ≡ take 8192 (print_request h ++ rest) = sym (take-append-le 8192 bytes more long) ∙ ap (take 8192) x.reads.1 in
    (x.reads.0, cut ∙ take_over (print_request h) rest 8192 x.size)

by_fields_not_found : (bytes more : List ℕ) (fault : HeadFault) (of_head : Bool) (q : Request) (rest : List ℕ)
    → FaultByFields bytes fault of_head → IsRequest (bytes ++ more) q rest → ⊥
by_fields_not_found bytes more fault of_head q rest f x =
    let heads = heads_agree (bytes ++ more) f.head x.head _ _ (head_more more f.reads) x.reads in
    let both = sym f.why ∙ ap (λ (h : RequestHead). body_length h.method (pairs_of h)) heads.0 ∙ x.whole in cc both

refused_not_found : (bytes more : List ℕ) (fault : HeadFault) (of_head : Bool) (q : Request) (rest : List ℕ)
    → IsHeadFault bytes fault of_head → IsRequest (bytes ++ more) q rest → ⊥
refused_not_found bytes more BadHead of_head q rest (inl f) x = f.0 more x.head _ x.reads
refused_not_found bytes more BadHead of_head q rest (inr f) x = by_fields_not_found bytes more BadHead of_head q rest f x
refused_not_found bytes more NoLength of_head q rest f x = by_fields_not_found bytes more NoLength of_head q rest f x
refused_not_found bytes more TooLarge of_head q rest f x = by_fields_not_found bytes more TooLarge of_head q rest f x
refused_not_found bytes more HeadTooLong of_head q rest f x =
    f.2.0 x.head _ (within_limit bytes more x.head _ f.1 x.reads)

cut_not_found : (bytes : List ℕ) (q : Request) (rest : List ℕ) → EndsInside bytes → IsRequest bytes q rest → ⊥
cut_not_found bytes q rest (inl f) x = f.2.0 x.head _ x.reads.reads
cut_not_found bytes q rest (inr f) x =
    let heads = heads_agree bytes f.head x.head f.rest (x.body ++ rest) f.reads x.reads in
    let sizes : f.size ≡ length x.body = same_length _ _ _ f.wants (ap (λ (h : RequestHead). body_length h.method (pairs_of h)) heads.0 ∙ x.whole) in
    omega (arith, f.short, sizes, ap length heads.1, length-append x.body rest)

pub found_however_cut : FoundHoweverCut
found_however_cut bytes more (next.Request p) held q rest g x = (one_request (bytes ++ more) p q _ rest (request_more more g) x).0
found_however_cut bytes more next.Ended held q rest g x =
    no_head_in_none x.head _ (subst (λ (xs : List ℕ). IsHead xs x.head (x.body ++ rest)) (ap (λ (xs : List ℕ). xs ++ more) g.0 ∙ g.1) x.reads)
found_however_cut bytes more next.CutShort held q rest g x =
    cut_not_found bytes q rest g.0 (subst (λ (xs : List ℕ). IsRequest xs q rest) (ap (λ (xs : List ℕ). bytes ++ xs) g.1 ∙ append-nil bytes) x)
found_however_cut bytes more (next.Refused fault of_head) held q rest g x = refused_not_found bytes more fault of_head q rest g x
found_however_cut bytes more next.ReadFault held q rest g x = tt
found_however_cut bytes more next.OutOfMemory held q rest g x = tt
