-- The statement that bytes are, or the first rule that fails; its logged form and its id.
use Rattle.std.specs.Prelude.{◌≡◌, ℕ, ◌<◌, ◌≤◌, List, Some, None, Result, Ok, Err}
use Rattle.cbor_core.specs.declared.words.Grammar.TheVariants.{Strict, Wide}
use Rattle.cbor_core.specs.Spells.{Spells}
use Rattle.cose_sign1.specs.declared.sign1.Sign1.{Sign1}
use Rattle.cose_sign1.specs.Sign1Of.{Sign1Of, Sign1Fault}
use Rattle.cose_sign1.specs.Message.{bare_item, bare_len}
use Rattle.statement.specs.declared.names.Names.{Names}
use Rattle.statement.specs.declared.stops.ParseStop.{ParseStop}
use Rattle.statement.specs.declared.stops.ParseStop.TheVariants.{Sign1 as Refused, Detached, NoClaims, NoIssuer, NoSubject, NoKid, BadClaim, TooLarge, OutOfMemory}
use Rattle.statement.specs.Claims.{names_of, receipts_of}

-- the most bytes that a logged form may have
abbrev pub most_logged : ℕ
most_logged = 4194304

-- the bytes are a message with a payload that says these things, with such parts and receipts, and whose logged form is small enough
abbrev pub Reads : List ℕ → Names → List ℕ → List ℕ → List ℕ → List (List ℕ) → Type 0
Reads bytes names protected payload signature receipts =
    (v : Sign1) × Sign1Of bytes v × (names_of v.headers.protected ≡ Ok names) × (v.protected ≡ protected) × (v.payload ≡ Some payload) × (v.signature ≡ signature)
    × (receipts_of v.headers.unprotected ≡ receipts) × (bare_len protected payload signature ≤ most_logged)

-- the logged form: tag 18 on the protected string as it was given, an empty map, the payload and the signature, in strict
abbrev pub Logged : List ℕ → List ℕ → List ℕ → List ℕ → Type 0
Logged protected payload signature logged = Spells Strict (bare_item protected payload signature) logged

-- the bytes are a message with a payload, and its parameters have this first fault
abbrev pub NamesFault : List ℕ → ParseStop → Type 0
NamesFault bytes stop =
    (v : Sign1) × (payload : List ℕ) × Sign1Of bytes v × (v.payload ≡ Some payload) × (names_of v.headers.protected ≡ Err stop)

-- the first rule that fails
abbrev pub ParseFault : List ℕ → ParseStop → Type 0
ParseFault bytes (Refused stop) = Sign1Fault bytes stop
ParseFault bytes Detached = (v : Sign1) × Sign1Of bytes v × (v.payload ≡ None)
ParseFault bytes NoClaims = NamesFault bytes NoClaims
ParseFault bytes NoIssuer = NamesFault bytes NoIssuer
ParseFault bytes NoSubject = NamesFault bytes NoSubject
ParseFault bytes NoKid = NamesFault bytes NoKid
ParseFault bytes (BadClaim n) = NamesFault bytes (BadClaim n)
ParseFault bytes TooLarge =
    (v : Sign1) × (payload : List ℕ) × (names : Names) × Sign1Of bytes v × (v.payload ≡ Some payload) × (names_of v.headers.protected ≡ Ok names) × (most_logged < bare_len v.protected payload v.signature)
ParseFault bytes OutOfMemory = ⊥

-- what making the logged form answers
abbrev pub Logs : List ℕ → List ℕ → List ℕ → Result (List ℕ) ParseStop → Type 0
Logs protected payload signature (Ok logged) =
    (bare_len protected payload signature ≤ most_logged) × Logged protected payload signature logged × Spells Wide (bare_item protected payload signature) logged
Logs protected payload signature (Err TooLarge) = most_logged < bare_len protected payload signature
Logs protected payload signature (Err OutOfMemory) = Unit {0}
Logs protected payload signature (Err _) = ⊥

-- what reading the message answers
abbrev pub Opened : List ℕ → Result Sign1 ParseStop → Type 0
Opened bytes (Ok v) = Sign1Of bytes v
Opened bytes (Err (Refused stop)) = Sign1Fault bytes stop
Opened bytes (Err OutOfMemory) = Unit {0}
Opened bytes (Err _) = ⊥
