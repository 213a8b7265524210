-- A statement's strings are short.
use Rattle.std.proofs.Common.{◌≡◌, ℕ, ◌≤◌, List, length, ap, ◌∙◌, arith}
use Rattle.cbor_core.specs.declared.words.Grammar.TheVariants.{Strict}
use Rattle.cbor_core.specs.Decoding.{OneStrictSpelling}
use Rattle.cose_sign1.specs.Message.{bare_item, bare_len, bare_text, BareIsSpelled}
use Rattle.statement.specs.declared.statement_type.Statement.{Statement}
use Rattle.statement.specs.Parsed.{StatementOf}
use Rattle.relying_party.specs.Short.{IsShort}

pub is_short : OneStrictSpelling → BareIsSpelled → (bytes : List ℕ) (s : Statement) → StatementOf bytes s → IsShort s
is_short unique spelled bytes s of =
    let few = of.0.7 in
    let long : (length s.protected ≤ 4198400) × (length s.payload ≤ 4198400) × (length s.signature ≤ 4198400) = (omega arith, omega arith, omega arith) in
    let bare = spelled Strict s.protected s.payload s.signature long.0 long.1 long.2 in
    let same : s.logged ≡ bare_text s.protected s.payload s.signature = unique (bare_item s.protected s.payload s.signature) s.logged (bare_text s.protected s.payload s.signature) of.1 bare.0 in
    let len : length s.logged ≡ bare_len s.protected s.payload s.signature = ap length same ∙ bare.1 in
    record { protected = long.0; payload = long.1; logged = omega arith }
