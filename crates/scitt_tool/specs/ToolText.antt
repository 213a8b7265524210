-- The status and the text that words, files, the key file and random bytes call for, and what the key file is afterwards.
use Rattle.std.specs.Prelude.{◌≡◌, ℕ, List, [], ◌∷◌, Option, Some, None}
use Rattle.cbor_core.specs.Bytes.{IsBytes}
use Rattle.scitt_tool.specs.Answer.{Answer, words_refused}
use Rattle.scitt_tool.specs.Command.{Command, Root, Show, Policy, Audit, Replay, Generate, Keygen, Sign, Attach, Verify, Consistent, command_of, limit_of}
use Rattle.scitt_tool.specs.Outcome.{Outcome, Kept, plain}
use Rattle.scitt_tool.specs.Reads.{ByFiles}
use Rattle.scitt_tool.specs.Root.{RootOf}
use Rattle.scitt_tool.specs.Show.{ShowOf}
use Rattle.scitt_tool.specs.Policy.{PolicyTextOf}
use Rattle.scitt_tool.specs.Audit.{AuditOf}
use Rattle.scitt_tool.specs.Replay.{ReplayTextOf}
use Rattle.scitt_tool.specs.Generate.{GenerateOf}
use Rattle.scitt_tool.specs.Attach.{AttachOf}
use Rattle.scitt_tool.specs.Verify.{VerifyOf}
use Rattle.scitt_tool.specs.Consistent.{ConsistentOf}
use Rattle.scitt_tool.specs.Keygen.{KeygenOf}
use Rattle.scitt_tool.specs.Sign.{SignOf}

-- the bytes of the first and of the second file
abbrev pub first : List (List ℕ) → List ℕ
first [] = []
first (bytes ∷ more) = bytes

abbrev pub second : List (List ℕ) → List ℕ
second [] = []
second (bytes ∷ more) = first more

-- an answer that leaves the key file as it was
abbrev pub Plain : (Answer → Type 0) → Outcome → Type 0
Plain Answers outcome = Answers outcome.answer × (outcome.key ≡ Kept)

-- what a command comes to by the bytes of its files, of the key file, where its disk tells them, and of the random source
abbrev pub Judged : Type 0 → List ℕ → List ℕ → Command → List (List ℕ) → Outcome → Type 0
Judged Tells key random (Root file) read = Plain (RootOf (first read))
Judged Tells key random (Show file) read = Plain (ShowOf (first read))
Judged Tells key random (Policy file) read = Plain (PolicyTextOf (first read))
Judged Tells key random (Audit file) read = Plain (AuditOf (first read))
Judged Tells key random (Replay file) read = Plain (ReplayTextOf (first read))
Judged Tells key random (Generate count) read = Plain (GenerateOf count)
Judged Tells key random (Attach statement receipt) read = Plain (AttachOf (first read) (second read))
Judged Tells key random (Verify trust statement) read = Plain (VerifyOf (first read) (second read))
Judged Tells key random (Consistent trust receipt size root) read = Plain (ConsistentOf (first read) (second read) size root)
Judged Tells key random (Keygen levels) read = KeygenOf Tells levels key random
Judged Tells key random (Sign claims file) read = SignOf Tells claims key (first read)

abbrev pub CommandText : Type 0 → List ℕ → List ℕ → Option Command → List (Option (List ℕ)) → Outcome → Type 0
CommandText Tells key random None contents outcome = outcome ≡ plain words_refused
CommandText Tells key random (Some command) contents outcome = ByFiles (limit_of command) (Judged Tells key random command) contents outcome

-- the same of words; the contents are those of the files that the words name, in their order
abbrev pub ToolText : Type 0 → List ℕ → List ℕ → List (List ℕ) → List (Option (List ℕ)) → Outcome → Type 0
ToolText Tells key random words contents outcome = CommandText Tells key random (command_of words) contents outcome

-- each of these files, where it is there, has bytes
abbrev pub AllBytes : List (Option (List ℕ)) → Type 0
AllBytes [] = Unit {0}
AllBytes (None ∷ contents) = AllBytes contents
AllBytes (Some bytes ∷ contents) = IsBytes bytes × AllBytes contents

-- a command is another than `replay`, in whose session a request may be answered that memory is wanting, as the other commands answer it of
-- the whole run
abbrev pub PlaysNothing : Option Command → Type 0
PlaysNothing (Some (Replay file)) = ⊥
PlaysNothing _ = Unit {0}

-- words, contents of files, a key file and random bytes call for an outcome, where the command is another than `replay`
abbrev pub SomeText : Type 0
SomeText = (key random : List ℕ) (words : List (List ℕ)) (contents : List (Option (List ℕ))) → PlaysNothing (command_of words) → IsBytes key → AllBytes contents
    → (outcome : Outcome) × ToolText (Unit {0}) key random words contents outcome

-- and for no two
abbrev pub OneText : Type 0
OneText = (key random : List ℕ) (words : List (List ℕ)) (contents : List (Option (List ℕ))) (a b : Outcome) → PlaysNothing (command_of words)
    → ToolText (Unit {0}) key random words contents a → ToolText (Unit {0}) key random words contents b → a ≡ b
