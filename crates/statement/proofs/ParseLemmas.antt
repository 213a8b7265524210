-- From what the steps of parsing answer to the first rule that fails, and to the logged form that reads as the same.
use Rattle.std.proofs.Common.{◌≡◌, ℕ, List, [], Option, Some, None, Result, Ok, Err, refl, subst}
use Rattle.cbor_core.specs.declared.tree.Item.{Item}
use Rattle.cbor_core.specs.declared.tree.Node.{out-Node}
use Rattle.cose_sign1.specs.declared.sign1.Sign1.{Sign1}
use Rattle.cose_sign1.specs.Labels.{value_at}
use Rattle.cose_sign1.specs.Sign1Of.{Sign1Of}
use Rattle.cose_sign1.specs.Message.{bare_of, BareIsMessage}
use Rattle.statement.specs.declared.names.Names.{Names}
use Rattle.statement.specs.declared.stops.ParseStop.{ParseStop}
use Rattle.statement.specs.declared.stops.ParseStop.TheVariants.{Sign1 as Refused, Detached, NoClaims, NoIssuer, NoSubject, NoKid, BadClaim, TooLarge, OutOfMemory}
use Rattle.statement.specs.Claims.{and_then, or_stop, claims_by, kid_by, name_in, name_of, moment_in, held, moment_by, moment_of, moments_of, names_with, values_of, names_of, IsStop}
use Rattle.statement.specs.Statements.{Reads, Logs, ParseFault}
use Rattle.statement.specs.Parsed.{Parsed}

-- the parameters fail by rules of their own alone
abbrev OfNames : {A : Type 0} → Result A ParseStop → Type 0
OfNames (Ok x) = Unit {0}
OfNames (Err NoClaims) = Unit {0}
OfNames (Err NoIssuer) = Unit {0}
OfNames (Err NoSubject) = Unit {0}
OfNames (Err NoKid) = Unit {0}
OfNames (Err (BadClaim n)) = Unit {0}
OfNames (Err _) = ⊥

of_then : {A B : Type 0} (r : Result A ParseStop) (f : A → Result B ParseStop) → OfNames r → ((x : A) → OfNames (f x)) → OfNames (and_then r f)
of_then (Ok x) f h k = k x
of_then (Err NoClaims) f h k = tt
of_then (Err NoIssuer) f h k = tt
of_then (Err NoSubject) f h k = tt
of_then (Err NoKid) f h k = tt
of_then (Err (BadClaim n)) f h k = tt
of_then (Err (Refused stop)) f h k = absurd h
of_then (Err Detached) f h k = absurd h
of_then (Err TooLarge) f h k = absurd h
of_then (Err OutOfMemory) f h k = absurd h

of_or : {A : Type 0} (stop : ParseStop) (o : Option A) → OfNames {A = A} (Err stop) → OfNames (or_stop stop o)
of_or stop None h = h
of_or stop (Some x) h = tt

of_held : (n : ℕ) (o : Option ℕ) → OfNames (held n o)
of_held n None = tt
of_held n (Some m) = tt

of_moment : (n : ℕ) (o : Option Item) → OfNames (moment_by n o)
of_moment n None = tt
of_moment n (Some item) = of_held n (moment_in (out-Node item.node))

abbrev Moments : Type 0
Moments = Option ℕ × Option ℕ × Option ℕ

abbrev with_nbf : List (Item × Item) → Option ℕ → Option ℕ → Result Moments ParseStop
with_nbf claims exp nbf = and_then (moment_of 6 claims) (λ iat. Ok (exp, nbf, iat))

abbrev with_exp : List (Item × Item) → Option ℕ → Result Moments ParseStop
with_exp claims exp = and_then (moment_of 5 claims) (λ nbf. with_nbf claims exp nbf)

of_moments : (claims : List (Item × Item)) → OfNames (moments_of claims)
unfolding moments_of
of_moments claims =
    of_then (moment_of 4 claims) (with_exp claims) (of_moment 4 (value_at 4 claims)) (λ exp.
    of_then (moment_of 5 claims) (with_nbf claims exp) (of_moment 5 (value_at 5 claims)) (λ nbf.
    of_then (moment_of 6 claims) (λ (iat : Option ℕ). Ok (exp, nbf, iat)) (of_moment 6 (value_at 6 claims)) (λ iat. tt)))

module _ (protected claims : List (Item × Item)) (issuer subject : Item) (kid : List ℕ) where
  abbrev with_moments : List ℕ → List ℕ → Moments → Result Names ParseStop
  with_moments iss sub moments = Ok (names_with protected iss sub kid moments)

  abbrev with_names : List ℕ → List ℕ → Result Names ParseStop
  with_names iss sub = and_then (moments_of claims) (with_moments iss sub)

  abbrev with_issuer : List ℕ → Result Names ParseStop
  with_issuer iss = and_then (name_of 2 subject) (with_names iss)

  of_values : OfNames (values_of protected claims issuer subject kid)
  unfolding values_of
  of_values =
      of_then (name_of 1 issuer) with_issuer (of_or (BadClaim 1) (name_in (out-Node issuer.node)) tt) (λ iss.
      of_then (name_of 2 subject) (with_names iss) (of_or (BadClaim 2) (name_in (out-Node subject.node)) tt) (λ sub.
      of_then (moments_of claims) (with_moments iss sub) (of_moments claims) (λ moments. tt)))

module _ (protected : List (Item × Item)) where
  abbrev from_subject : List (Item × Item) → Item → Item → Result Names ParseStop
  from_subject claims issuer subject = and_then (or_stop NoKid (kid_by (value_at 4 protected))) (λ kid. values_of protected claims issuer subject kid)

  abbrev from_issuer : List (Item × Item) → Item → Result Names ParseStop
  from_issuer claims issuer = and_then (or_stop NoSubject (value_at 2 claims)) (λ subject. from_subject claims issuer subject)

  abbrev from_claims : List (Item × Item) → Result Names ParseStop
  from_claims claims = and_then (or_stop NoIssuer (value_at 1 claims)) (λ issuer. from_issuer claims issuer)

  of_names : OfNames (names_of protected)
  unfolding names_of
  of_names =
      of_then (or_stop NoClaims (claims_by (value_at 15 protected))) from_claims (of_or NoClaims (claims_by (value_at 15 protected)) tt) (λ claims.
      of_then (or_stop NoIssuer (value_at 1 claims)) (from_issuer claims) (of_or NoIssuer (value_at 1 claims) tt) (λ issuer.
      of_then (or_stop NoSubject (value_at 2 claims)) (from_subject claims issuer) (of_or NoSubject (value_at 2 claims) tt) (λ subject.
      of_then (or_stop NoKid (kid_by (value_at 4 protected))) (λ (kid : List ℕ). values_of protected claims issuer subject kid) (of_or NoKid (kid_by (value_at 4 protected)) tt) (λ kid. of_values protected claims issuer subject kid))))

module _ (bytes : List ℕ) (v : Sign1) (payload : List ℕ) (is : Sign1Of bytes v) (there : v.payload ≡ Some payload) where
  other : (stop : ParseStop) → names_of v.headers.protected ≡ Err stop → OfNames {A = Names} (Err stop)
  other stop h = subst (λ (r : Result Names ParseStop). OfNames r) h (of_names v.headers.protected)

  -- a fault of the parameters is the first rule that fails
  pub names_fault : (stop : ParseStop) → names_of v.headers.protected ≡ Err stop → ParseFault bytes stop
  names_fault (Refused stop) h = absurd (other (Refused stop) h)
  names_fault Detached h = absurd (other Detached h)
  names_fault NoClaims h = (v, payload, is, there, h)
  names_fault NoIssuer h = (v, payload, is, there, h)
  names_fault NoSubject h = (v, payload, is, there, h)
  names_fault NoKid h = (v, payload, is, there, h)
  names_fault (BadClaim n) h = (v, payload, is, there, h)
  names_fault TooLarge h = absurd (other TooLarge h)
  names_fault OutOfMemory h = absurd (other OutOfMemory h)

  pub names_fail : (stop : ParseStop) → IsStop stop (names_of v.headers.protected) → Parsed bytes (Err stop)
  names_fail (Refused stop) h = names_fault (Refused stop) h
  names_fail Detached h = names_fault Detached h
  names_fail NoClaims h = names_fault NoClaims h
  names_fail NoIssuer h = names_fault NoIssuer h
  names_fail NoSubject h = names_fault NoSubject h
  names_fail NoKid h = names_fault NoKid h
  names_fail (BadClaim n) h = names_fault (BadClaim n) h
  names_fail TooLarge h = names_fault TooLarge h
  names_fail OutOfMemory h = tt

  pub reads_again : BareIsMessage → (names : Names) → names_of v.headers.protected ≡ Ok names → (logged p c s : List ℕ) → p ≡ v.protected → c ≡ payload → s ≡ v.signature
      → Logs p c s (Ok logged) → Reads logged names v.protected payload v.signature []
  reads_again law names named logged p c s ep ec es logs =
      let a = subst (λ (x : List ℕ). Logs x c s (Ok logged)) ep logs in
      let b = subst (λ (x : List ℕ). Logs v.protected x s (Ok logged)) ec a in
      let d = subst (λ (x : List ℕ). Logs v.protected payload x (Ok logged)) es b in
      (bare_of v, law bytes logged payload v is there d.2, named, refl, there, refl, refl, d.0)
