-- A logged form, as the parser answers it.
use Rattle.std.proofs.Common.{◌≡◌, ◌≢◌, false, ℕ, List, Option, Some, None, Result, Ok, Err, sym, refl, ap, ◌∙◌}
use Rattle.std.specs.Prelude.{option_map, IfSome, IfNone}
use Rattle.cbor_core.specs.Bytes.{IsBytes}
use Rattle.statement.specs.declared.statement_type.Statement.{Statement}
use Rattle.statement.specs.declared.stops.ParseStop.{ParseStop}
use Rattle.statement.specs.declared.stops.ParseStop.TheVariants.{Sign1 as Refused, Detached, NoClaims, NoIssuer, NoSubject, NoKid, BadClaim, TooLarge, OutOfMemory}
use Rattle.statement.specs.Statements.{ParseFault}
use Rattle.statement.specs.Parsed.{StatementOf, Parsed}
use Rattle.statement.specs.OneAnswer.{OneAnswer}
use Rattle.log_replay.specs.Seen.{wants_memory}
use Rattle.statement.specs.Said.{Said, said_of, logged_statement, LoggedIsStatement, StatementIsLogged}

abbrev Answer : Type 0
Answer = Result Statement ParseStop

apart : (s : Statement) (stop : ParseStop) → ◌≡◌ {A = Answer} (Ok s) (Err stop) → ⊥
apart s stop e = cc

ok_is : (s t : Statement) → ◌≡◌ {A = Answer} (Ok s) (Ok t) → s ≡ t
ok_is s t e = cc

by_stop : OneAnswer → StatementIsLogged → (bytes : List ℕ) (stop : ParseStop) → IsBytes bytes → ParseFault bytes stop → (o : Option Said) → logged_statement bytes ≡ o → None ≡ o
by_stop one exact bytes stop fits is None e = refl
by_stop one exact bytes stop fits is (Some d) e =
    let found = exact bytes d fits e in
    absurd (apart found.0 stop (one bytes (Ok found.0) (Err stop) found.1 is))

by_other : OneAnswer → StatementIsLogged → (bytes : List ℕ) (s : Statement) → IsBytes bytes → StatementOf bytes s → s.logged ≢ bytes → (o : Option Said) → logged_statement bytes ≡ o → None ≡ o
by_other one exact bytes s fits is other None e = refl
by_other one exact bytes s fits is other (Some d) e =
    let found = exact bytes d fits e in
    absurd (other (ap (λ (t : Statement). t.logged) (ok_is s found.0 (one bytes (Ok s) (Ok found.0) is found.1)) ∙ found.2))

pub is_logged : LoggedIsStatement → OneAnswer → StatementIsLogged → (bytes : List ℕ) (s : Statement) (o : Option Statement) → IsBytes bytes → StatementOf bytes s
    → IfSome o (λ t. (t ≡ s) × (t.logged ≡ bytes)) → IfNone o (s.logged ≢ bytes) → option_map said_of o ≡ logged_statement bytes
is_logged given one exact bytes s None fits is some none = by_other one exact bytes s fits is none (logged_statement bytes) refl
is_logged given one exact bytes s (Some t) fits is some none =
    ap (λ (x : Statement). Some (said_of x)) some.0 ∙ sym (given bytes s is) ∙ ap logged_statement (ap (λ (x : Statement). x.logged) (sym some.0) ∙ some.1)

pub not_logged : OneAnswer → StatementIsLogged → (bytes : List ℕ) (stop : ParseStop) → wants_memory stop ≡ false → IsBytes bytes → Parsed bytes (Err stop) → None ≡ logged_statement bytes
not_logged one exact bytes (Refused s) other fits is = by_stop one exact bytes (Refused s) fits is (logged_statement bytes) refl
not_logged one exact bytes Detached other fits is = by_stop one exact bytes Detached fits is (logged_statement bytes) refl
not_logged one exact bytes NoClaims other fits is = by_stop one exact bytes NoClaims fits is (logged_statement bytes) refl
not_logged one exact bytes NoIssuer other fits is = by_stop one exact bytes NoIssuer fits is (logged_statement bytes) refl
not_logged one exact bytes NoSubject other fits is = by_stop one exact bytes NoSubject fits is (logged_statement bytes) refl
not_logged one exact bytes NoKid other fits is = by_stop one exact bytes NoKid fits is (logged_statement bytes) refl
not_logged one exact bytes (BadClaim n) other fits is = by_stop one exact bytes (BadClaim n) fits is (logged_statement bytes) refl
not_logged one exact bytes TooLarge other fits is = by_stop one exact bytes TooLarge fits is (logged_statement bytes) refl
not_logged one exact bytes OutOfMemory other fits is = cc
