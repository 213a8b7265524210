-- Words and files call for an answer: each command judges all bytes.
use Rattle.std.proofs.Common.{◌≡◌, ◌≢◌, ℕ, suc, ◌++◌, ◌≤◌, ◌⊎◌, List, [], ◌∷◌, length, map, Option, Some, None, Result, Ok, Err, inl, inr, refl, sym, ap, subst, ◌∙◌, arith}
use Rattle.std.proofs.lemmas.Bool.{cases_lt, cases_eq}
use Rattle.std.specs.Prelude.{codes, slice_index}
use Rattle.merkle_tree.specs.Mth.{mth}
use Rattle.cbor_core.specs.declared.words.Grammar.TheVariants.{Strict}
use Rattle.cbor_core.specs.declared.tree.Item.{Item}
use Rattle.cbor_core.specs.declared.tree.Node.{Node-F, out-Node}
use Rattle.cbor_core.specs.declared.tree.Node.TheVariants.{outs-Array, outs-Bytes}
use Rattle.cbor_core.specs.Bytes.{IsBytes}
use Rattle.cbor_core.specs.Head.{IsHead}
use Rattle.cbor_core.specs.Tree.{Layer}
use Rattle.cbor_core.specs.Spells.{SpellEach, SpellsLayer, SpellsIn, Spells}
use Rattle.cbor_core.specs.Decoding.{ItemOrFault}
use Rattle.statement.specs.declared.statement_type.Statement.{Statement}
use Rattle.statement.specs.declared.stops.ParseStop.{ParseStop}
use Rattle.statement.specs.OneAnswer.{AnswerOf, SomeAnswer}
use Rattle.scitt_tool.specs.Answer.{Answer, done, refused, words_refused, unread, too_long}
use Rattle.scitt_tool.specs.Command.{Command, Root, Show, Policy, Audit, Replay, Generate, Keygen, Sign, Attach, Verify, Consistent, command_of, limit_of}
use Rattle.scitt_tool.specs.Reads.{ByFiles}
use Rattle.scitt_tool.specs.FaultText.{fault_text}
use Rattle.cose_sign1.specs.Tbs.{byte_item}
use Rattle.scitt_tool.specs.Root.{root_lines, strings_item, RootOf}
use Rattle.scitt_tool.specs.StopText.{stop_text}
use Rattle.scitt_tool.specs.Show.{show_lines, ShowOf}
use Rattle.std.specs.Fmt.{decimal}
use Rattle.policy_rules.specs.declared.documents.Policy.{Policy as Document}
use Rattle.policy_rules.specs.declared.documents.PolicyStop.{PolicyStop}
use Rattle.policy_rules.specs.declared.documents.PolicyStop.TheVariants.{Cbor, BadPolicy, OutOfMemory}
use Rattle.policy_rules.specs.OneAnswer.{AnswerOf as DocumentAnswer, SomeAnswer as SomeDocument}
use Rattle.scitt_tool.specs.Policy.{policy_lines, PolicyTextOf}
use Rattle.scitt_tool.specs.Audit.{report_answer, AuditOf}
use Rattle.auditor.specs.Laws.{SomeReport}
use Rattle.scitt_tool.specs.Verify.{verdict_answer, VerifyOf}
use Rattle.scitt_tool.specs.Consistent.{result_answer, ConsistentOf}
use Rattle.relying_party.specs.Growth.{consistency_result}
use Rattle.relying_party.specs.declared.trust.Trust.{Trust}
use Rattle.relying_party.specs.declared.trust.TrustStop.{TrustStop}
use Rattle.relying_party.specs.OneAnswer.{AnswerOf as TrustAnswer, SomeAnswer as SomeTrust, SomeVerdict}
use Rattle.scitt_tool.specs.Outcome.{Outcome, Kept, Keyed, plain}
use Rattle.scitt_tool.specs.Keygen.{KeygenOf, key_bytes, key_lines, public_of, head_from}
use Rattle.lms_tree.specs.declared.types.Level.{Level}
use Rattle.scitt_tool.specs.ToolText.{first, second, Plain, Judged, CommandText, AllBytes, PlaysNothing, SomeText}
use Rattle.scitt_draft.specs.Drafts.{Claims}
use Rattle.scitt_tool.specs.Attach.{AttachOf}
use Rattle.scitt_tool.specs.Sign.{SignOf}
use Rattle.generator.specs.declared.generating.Summary.{Summary}
use Rattle.generator.specs.Tallies.{tally}
use Rattle.scitt_tool.specs.Generate.{GenerateOf, summary_lines}

abbrev Has : (Answer → Type 0) → Type 0
Has P = (answer : Answer) × P answer

-- ---- an item is an array of byte strings, or not

abbrev OneString : Item → Type 0
OneString item = ((bytes : List ℕ) × (out-Node item.node ≡ Node-F.Bytes bytes)) ⊎ ((bytes : List ℕ) → item ≢ byte_item bytes)

-- another layer than that of a byte string
no_string : (item : Item) (l : Layer) → out-Node item.node ≡ l → ((bytes : List ℕ) → l ≢ Node-F.Bytes bytes) → (bytes : List ℕ) → item ≢ byte_item bytes
no_string item l e other bytes is = other bytes (sym e ∙ ap (λ (x : Item). out-Node x.node) is ∙ outs-Bytes bytes)

one_string : (item : Item) (l : Layer) → out-Node item.node ≡ l → OneString item
one_string item (Node-F.Bytes bytes) e = inl (bytes, e)
one_string item (Node-F.Uint n) e = inr (no_string item (Node-F.Uint n) e (λ bytes is. cc))
one_string item (Node-F.Nint n) e = inr (no_string item (Node-F.Nint n) e (λ bytes is. cc))
one_string item (Node-F.Text text) e = inr (no_string item (Node-F.Text text) e (λ bytes is. cc))
one_string item (Node-F.Array items) e = inr (no_string item (Node-F.Array items) e (λ bytes is. cc))
one_string item (Node-F.Map pairs) e = inr (no_string item (Node-F.Map pairs) e (λ bytes is. cc))
one_string item (Node-F.Tag n inner) e = inr (no_string item (Node-F.Tag n inner) e (λ bytes is. cc))
one_string item (Node-F.Simple n) e = inr (no_string item (Node-F.Simple n) e (λ bytes is. cc))
one_string item (Node-F.Float width bits) e = inr (no_string item (Node-F.Float width bits) e (λ bytes is. cc))

abbrev SpellsEach : List Item → List ℕ → Type 0
SpellsEach items text = SpellEach (SpellsIn Strict 15) items text

abbrev EachString : List Item → List ℕ → Type 0
EachString items text = ((strings : List (List ℕ)) × (length items ≡ length (map byte_item strings)) × SpellsEach (map byte_item strings) text) ⊎ ((strings : List (List ℕ)) → items ≢ map byte_item strings)

-- the same bytes spell the byte string itself
as_string : (item : Item) (bytes text : List ℕ) → out-Node item.node ≡ Node-F.Bytes bytes → SpellsIn Strict 15 item text → SpellsIn Strict 15 (byte_item bytes) text
unfolding SpellsIn
as_string item bytes text e s =
    subst (λ (l : Layer). SpellsLayer Strict 15 (SpellsIn Strict 14) l text) (e ∙ sym (outs-Bytes bytes)) s

with_string : (item : Item) (items : List Item) (front rest text : List ℕ) → SpellsIn Strict 15 item front → text ≡ front ++ rest → OneString item → EachString items rest → EachString (item ∷ items) text
unfolding SpellEach
with_string item items front rest text first is (inl (bytes, e)) (inl (strings, len, others)) =
    inl (bytes ∷ strings, ap suc len, (front, rest, as_string item bytes front e first, others, is))
with_string item items front rest text first is (inl (bytes, e)) (inr none) =
    inr (λ strings. elim strings as (λ (s : List (List ℕ)). item ∷ items ≢ map byte_item s) [ [] ↦ λ all. cc | x ∷ xs ↦ λ all. none xs cc ])
with_string item items front rest text first is (inr other) each =
    inr (λ strings. elim strings as (λ (s : List (List ℕ)). item ∷ items ≢ map byte_item s) [ [] ↦ λ all. cc | x ∷ xs ↦ λ all. other x cc ])

each_string : (items : List Item) (text : List ℕ) → SpellsEach items text → EachString items text
unfolding SpellEach
each_string [] text s = inl ([], refl, s)
each_string (item ∷ items) text (front, rest, first, others, is) =
    with_string item items front rest text first is (one_string item (out-Node item.node) refl) (each_string items rest others)

abbrev AllStrings : Item → List ℕ → Type 0
AllStrings item bytes = ((strings : List (List ℕ)) × Spells Strict (strings_item strings) bytes) ⊎ ((strings : List (List ℕ)) → item ≢ strings_item strings)

no_array : (item : Item) (l : Layer) → out-Node item.node ≡ l → ((items : List Item) → l ≢ Node-F.Array items) → (strings : List (List ℕ)) → item ≢ strings_item strings
no_array item l e other strings is = other (map byte_item strings) (sym e ∙ ap (λ (x : Item). out-Node x.node) is ∙ outs-Array (map byte_item strings))

abbrev SpellsTop : Layer → List ℕ → Type 0
SpellsTop l bytes = SpellsLayer Strict 16 (SpellsIn Strict 15) l bytes

-- an array whose items are byte strings
from_each : (item : Item) (items : List Item) (bytes : List ℕ) → out-Node item.node ≡ Node-F.Array items → SpellsTop (Node-F.Array items) bytes
    → ((rest : List ℕ) → SpellsEach items rest → EachString items rest) → AllStrings item bytes
unfolding Spells SpellsIn
from_each item items bytes e (some, few, (front, rest, head, each, is)) judge =
    elim (judge rest each) [
      | inl (strings, len, others) ↦
          let few' = subst (λ (n : ℕ). n ≤ 4096) len few in
          let head' = subst (λ (n : ℕ). IsHead Strict 4 n front) len head in
          inl (strings, subst (λ (l : Layer). SpellsTop l bytes) (sym (outs-Array (map byte_item strings))) (some, few', (front, rest, head', others, is)))
      | inr none ↦ inr (λ strings all. none strings (let same : out-Node item.node ≡ Node-F.Array (map byte_item strings) = ap (λ (x : Item). out-Node x.node) all ∙ outs-Array (map byte_item strings) in let both = sym e ∙ same in cc))
    ]

all_strings : (item : Item) (bytes : List ℕ) (l : Layer) → out-Node item.node ≡ l → SpellsTop l bytes → AllStrings item bytes
all_strings item bytes (Node-F.Array items) e s = from_each item items bytes e s (λ rest each. each_string items rest each)
all_strings item bytes (Node-F.Uint n) e s = inr (no_array item (Node-F.Uint n) e (λ items is. cc))
all_strings item bytes (Node-F.Nint n) e s = inr (no_array item (Node-F.Nint n) e (λ items is. cc))
all_strings item bytes (Node-F.Bytes string) e s = inr (no_array item (Node-F.Bytes string) e (λ items is. cc))
all_strings item bytes (Node-F.Text text) e s = inr (no_array item (Node-F.Text text) e (λ items is. cc))
all_strings item bytes (Node-F.Map pairs) e s = inr (no_array item (Node-F.Map pairs) e (λ items is. cc))
all_strings item bytes (Node-F.Tag n inner) e s = inr (no_array item (Node-F.Tag n inner) e (λ items is. cc))
all_strings item bytes (Node-F.Simple n) e s = inr (no_array item (Node-F.Simple n) e (λ items is. cc))
all_strings item bytes (Node-F.Float width bits) e s = inr (no_array item (Node-F.Float width bits) e (λ items is. cc))

are_strings : (item : Item) (bytes : List ℕ) → Spells Strict item bytes → AllStrings item bytes
unfolding Spells SpellsIn
are_strings item bytes s = all_strings item bytes (out-Node item.node) refl s

-- ---- the commands

some_root : ItemOrFault → (bytes : List ℕ) → IsBytes bytes → Has (RootOf bytes)
some_root either bytes fits =
    elim (either Strict bytes fits) [
      | inl (item, s) ↦
          elim (are_strings item bytes s) [
            | inl (strings, t) ↦ (done (root_lines (length strings) (mth strings)), inl (record { strings = strings; spelled = t; is = refl }))
            | inr other ↦ (refused (codes "refused shape"), inr (inl (record { item = item; spelled = s; other = other; is = refl })))
          ]
      | inr (fault, f) ↦ (refused (codes "refused cbor " ++ fault_text fault), inr (inr (record { fault = fault; first = f; is = refl })))
    ]

shown : (bytes : List ℕ) (answer : Result Statement ParseStop) → AnswerOf bytes answer → Has (ShowOf bytes)
shown bytes (Ok s) p =
    let read = p.0 in
    (done (show_lines read.0.tagged s), inl (record { message = read.0; decoded = read.1; statement = s; parsed = p; is = refl }))
shown bytes (Err stop) p = (refused (codes "refused " ++ stop_text stop), inr (record { stop = stop; first = p; is = refl }))

document_text : (bytes : List ℕ) (answer : Result Document PolicyStop) → DocumentAnswer bytes answer → Has (PolicyTextOf bytes)
document_text bytes (Ok policy) p = (done (policy_lines policy), inl (record { policy = policy; document = p; is = refl }))
document_text bytes (Err (BadPolicy place)) p = (refused (codes "refused policy " ++ decimal place), inr (inl (record { place = place; first = p; is = refl })))
document_text bytes (Err (Cbor fault)) p = (refused (codes "refused cbor " ++ fault_text fault), inr (inr (record { fault = fault; first = p; is = refl })))
document_text bytes (Err OutOfMemory) p = absurd p

some_audit : SomeReport → (bytes : List ℕ) → IsBytes bytes → Has (AuditOf bytes)
some_audit some bytes fits = let found = some bytes fits in (report_answer found.0, record { report = found.0; says = found.1; is = refl })

some_verdict : SomeVerdict → (bytes statement : List ℕ) → IsBytes statement → (answer : Result Trust TrustStop) → TrustAnswer bytes answer → Has (VerifyOf bytes statement)
some_verdict some bytes statement fits (Ok trust) p =
    let found = some trust statement fits in
    (verdict_answer found.0, inr (record { trust = trust; trusted = p; verdict = found.0; accepts = found.1; is = refl }))
some_verdict some bytes statement fits (Err stop) p = (refused (codes "refused trust"), inl (record { stop = stop; first = p; is = refl }))

some_growth : (bytes receipt : List ℕ) (size : ℕ) (root : List ℕ) (answer : Result Trust TrustStop) → TrustAnswer bytes answer → Has (ConsistentOf bytes receipt size root)
some_growth bytes receipt size root (Ok trust) p =
    (result_answer (consistency_result trust receipt size root), inr (record { trust = trust; trusted = p; result = consistency_result trust receipt size root; accepts = refl; is = refl }))
some_growth bytes receipt size root (Err stop) p = (refused (codes "refused trust"), inl (record { stop = stop; first = p; is = refl }))

some_generate : (count : ℕ) → Has (GenerateOf count)
some_generate count =
    let summary : Summary = record { admitted = (tally count).admitted; denied = (tally count).denied; entries = length (tally count).entries; root = mth (tally count).leaves } in
    (done (summary_lines count summary), record { summary = summary; told = record { admitted = refl; denied = refl; entries = refl; root = refl }; is = refl })

-- ---- outcomes

abbrev HasOutcome : (Outcome → Type 0) → Type 0
HasOutcome P = (outcome : Outcome) × P outcome

some_plain : (P : Answer → Type 0) → Has P → HasOutcome (Plain P)
some_plain P found = (record { answer = found.0; key = Kept }, (found.1, refl))

some_key : (levels : List Level) (key random : List ℕ) → key_bytes ≤ length random → HasOutcome (KeygenOf (Unit {0}) levels key random)
some_key levels key random enough =
    elim (cases_lt (length key) 6) [
      | inl few ↦ (record { answer = done (key_lines (public_of (head_from levels random))); key = Keyed (head_from levels random) 0 }, inr (inr (record { enough = enough; none = λ _. inl few; is = refl })))
      | inr six ↦
          elim (cases_eq (slice_index key 0) 1) [
            | inl open_gate ↦ (plain (refused (codes "refused key exists")), inr (inl (record { enough = enough; six = λ _. six; open_gate = λ _. open_gate; is = refl })))
            | inr shut ↦ (record { answer = done (key_lines (public_of (head_from levels random))); key = Keyed (head_from levels random) 0 }, inr (inr (record { enough = enough; none = λ _. inr shut; is = refl })))
          ]
    ]

some_keygen : (levels : List Level) (key random : List ℕ) → HasOutcome (KeygenOf (Unit {0}) levels key random)
some_keygen levels key random =
    elim (cases_lt (length random) key_bytes) [
      | inl few ↦ (plain (refused (codes "refused random ended")), inl (record { few = few; is = refl }))
      | inr enough ↦ some_key levels key random enough
    ]

abbrev EachBytes : List (List ℕ) → Type 0
EachBytes [] = Unit {0}
EachBytes (bytes ∷ more) = IsBytes bytes × EachBytes more

first_bytes : (read : List (List ℕ)) → EachBytes read → IsBytes (first read)
first_bytes [] each = λ i. omega arith
first_bytes (bytes ∷ more) each = each.0

second_bytes : (read : List (List ℕ)) → EachBytes read → IsBytes (second read)
second_bytes [] each = λ i. omega arith
second_bytes (bytes ∷ more) each = first_bytes more each.1

some_files : (limit : ℕ) (J : List (List ℕ) → Outcome → Type 0) → ((read : List (List ℕ)) → EachBytes read → HasOutcome (J read)) → (contents : List (Option (List ℕ))) → AllBytes contents → HasOutcome (ByFiles limit J contents)
some_files limit J each [] fits = each [] tt
some_files limit J each (None ∷ contents) fits = (plain unread, refl)
some_files limit J each (Some bytes ∷ contents) fits =
    elim (cases_lt limit (length bytes)) [
      | inl long ↦ (plain (too_long limit), inr (long, refl))
      | inr within ↦ (let rest = some_files limit (λ more. J (bytes ∷ more)) (λ more all. each (bytes ∷ more) (fits.0, all)) contents fits.1 in (rest.0, inl (within, rest.1)))
    ]

abbrev SomeAttach : Type 0
SomeAttach = (bytes receipt : List ℕ) → IsBytes bytes → Has (AttachOf bytes receipt)

abbrev SomeSign : Type 0
SomeSign = (claims : Claims) (key payload : List ℕ) → IsBytes key → HasOutcome (SignOf (Unit {0}) claims key payload)

module _ (either : ItemOrFault) (some : SomeAnswer) (document : SomeDocument) (report : SomeReport) (trust : SomeTrust) (verdict : SomeVerdict) (attach : SomeAttach) (sign : SomeSign) where
  some_judged : (key random : List ℕ) (command : Command) → PlaysNothing (Some command) → IsBytes key → (read : List (List ℕ)) → EachBytes read → HasOutcome (Judged (Unit {0}) key random command read)
  some_judged key random (Root file) plays kept read each = some_plain (RootOf (first read)) (some_root either (first read) (first_bytes read each))
  some_judged key random (Show file) plays kept read each = let found = some (first read) (first_bytes read each) in some_plain (ShowOf (first read)) (shown (first read) found.0 found.1)
  some_judged key random (Policy file) plays kept read each = let found = document (first read) (first_bytes read each) in some_plain (PolicyTextOf (first read)) (document_text (first read) found.0 found.1)
  some_judged key random (Audit file) plays kept read each = some_plain (AuditOf (first read)) (some_audit report (first read) (first_bytes read each))
  some_judged key random (Verify _ _) plays kept read each = let found = trust (first read) (first_bytes read each) in some_plain (VerifyOf (first read) (second read)) (some_verdict verdict (first read) (second read) (second_bytes read each) found.0 found.1)
  some_judged key random (Consistent _ _ size root) plays kept read each = let found = trust (first read) (first_bytes read each) in some_plain (ConsistentOf (first read) (second read) size root) (some_growth (first read) (second read) size root found.0 found.1)
  some_judged key random (Replay file) plays kept read each = absurd plays
  some_judged key random (Generate count) plays kept read each = some_plain (GenerateOf count) (some_generate count)
  some_judged key random (Keygen levels) plays kept read each = some_keygen levels key random
  some_judged key random (Attach _ _) plays kept read each = some_plain (AttachOf (first read) (second read)) (attach (first read) (second read) (first_bytes read each))
  some_judged key random (Sign claims file) plays kept read each = sign claims key (first read) kept

  some_command : (key random : List ℕ) (o : Option Command) → PlaysNothing o → IsBytes key → (contents : List (Option (List ℕ))) → AllBytes contents → HasOutcome (CommandText (Unit {0}) key random o contents)
  some_command key random None plays kept contents fits = (plain words_refused, refl)
  some_command key random (Some command) plays kept contents fits = some_files (limit_of command) (Judged (Unit {0}) key random command) (λ read each. some_judged key random command plays kept read each) contents fits

  pub some_text : SomeText
  some_text key random words contents plays kept fits = some_command key random (command_of words) plays kept contents fits
