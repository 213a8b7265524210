-- Words and files call for one answer: each command's judgement is determined by its file's bytes.
use Rattle.std.proofs.Common.{◌≡◌, ℕ, ◌+◌, min, ◌++◌, List, [], ◌∷◌, length, map, Bool, true, false, Option, Some, None, Result, Ok, Err, inl, inr, refl, sym, ap, subst, ◌∙◌, arith}
use Rattle.std.proofs.lemmas.Bool.{cases_lt}
use Rattle.std.specs.Prelude.{codes}
use Rattle.merkle_tree.specs.Mth.{mth}
use Rattle.cbor_core.specs.declared.words.Grammar.TheVariants.{Strict}
use Rattle.cbor_core.specs.declared.words.Fault.{Fault}
use Rattle.cbor_core.specs.declared.tree.Item.{Item}
use Rattle.cbor_core.specs.declared.tree.Node.{Node-F, out-Node}
use Rattle.cbor_core.specs.declared.tree.Node.TheVariants.{outs-Array, outs-Bytes}
use Rattle.cbor_core.specs.Tree.{Layer}
use Rattle.cbor_core.specs.Decoding.{NeverBoth, OneItem, OneWholeFault}
use Rattle.cose_sign1.specs.Sign1Of.{TagStandsFirst}
use Rattle.statement.specs.declared.statement_type.Statement.{Statement}
use Rattle.statement.specs.declared.stops.ParseStop.{ParseStop}
use Rattle.statement.specs.OneAnswer.{OneAnswer}
use Rattle.scitt_tool.specs.Answer.{Answer, done, refused}
use Rattle.scitt_tool.specs.Command.{Command, Root, Show, Policy, Audit, Replay, Generate, Keygen, Sign, Attach, Verify, Consistent, command_of, limit_of}
use Rattle.generator.specs.declared.generating.Summary.{Summary}
use Rattle.scitt_tool.specs.Generate.{GenerateOf, summary_lines}
use Rattle.scitt_tool.specs.Reads.{ByFiles}
use Rattle.scitt_tool.specs.Outcome.{Outcome, Keyed, plain, IsKey}
use Rattle.scitt_tool.specs.Attach.{AttachOf}
use Rattle.scitt_tool.specs.Audit.{report_answer, AuditOf}
use Rattle.scitt_script.specs.declared.script.Script.{Script}
use Rattle.scitt_script.specs.Scripts.{ScriptOf, OneScript}
use Rattle.scitt_script.specs.Replays.{header_in}
use Rattle.log_replay.specs.WellMade.{is_within_limits}
use Rattle.scitt_tool.specs.Replay.{PlayedOf, OneHeard, OnePlay}
use Rattle.auditor.specs.Laws.{OneReport}
use Rattle.scitt_tool.specs.Verify.{verdict_answer, VerifyOf}
use Rattle.scitt_tool.specs.Consistent.{result_answer, ConsistentOf}
use Rattle.relying_party.specs.Growth.{AcceptsConsistency}
use Rattle.relying_party.specs.declared.trust.Trust.{Trust}
use Rattle.relying_party.specs.declared.trust.TrustStop.{TrustStop}
use Rattle.relying_party.specs.Accepts.{Accepts}
use Rattle.relying_party.specs.OneAnswer.{OneAnswer as OneTrust, OneVerdict}
use Rattle.scitt_tool.specs.Keygen.{KeygenOf}
use Rattle.scitt_journal.specs.Layout.{NoLog, Short}
use Rattle.scitt_journal.specs.Laws.{NoLogHasNoRecords, ShortHasNoRecords, ShortIsUnique, RecordsAreUnique}
use Rattle.hss_keys.specs.Levels.{capacity}
use Rattle.key_store.specs.declared.records.KeyHead.{KeyHead}
use Rattle.key_store.specs.Keys.{IsKeyFile, IsFirstBad, key_of, reserved_of}
use Rattle.key_store.specs.Stops.{HasBad}
use Rattle.scitt_draft.specs.Drafts.{Claims}
use Rattle.scitt_tool.specs.Sign.{SignedBy, SignOf}
use Rattle.lms_tree.specs.declared.types.Level.{Level}
use Rattle.cose_sign1.specs.declared.sign1.Sign1.{Sign1}
use Rattle.cose_sign1.specs.declared.stops.Sign1Stop.{Sign1Stop}
use Rattle.cose_sign1.specs.OneAnswer.{OneAnswer as OneMessage}
use Rattle.cose_sign1.specs.Sign1Of.{Sign1Of}
use Rattle.cose_sign1.specs.Attached.{HasRoom, attached_item}
use Rattle.cbor_core.specs.Spells.{Spells}
use Rattle.cbor_core.specs.Decoding.{OneStrictSpelling}
use Rattle.scitt_tool.specs.FaultText.{fault_text}
use Rattle.cose_sign1.specs.Tbs.{byte_item}
use Rattle.scitt_tool.specs.Root.{root_lines, strings_item, RootOf}
use Rattle.scitt_tool.specs.StopText.{stop_text}
use Rattle.scitt_tool.specs.Show.{show_lines, ShowOf}
use Rattle.std.specs.Fmt.{decimal}
use Rattle.policy_rules.specs.declared.documents.Policy.{Policy as Document}
use Rattle.policy_rules.specs.declared.documents.PolicyStop.{PolicyStop}
use Rattle.policy_rules.specs.declared.documents.PolicyStop.TheVariants.{Cbor, BadPolicy}
use Rattle.policy_rules.specs.OneAnswer.{OneAnswer as OneDocument}
use Rattle.scitt_tool.specs.Policy.{policy_lines, PolicyTextOf}
use Rattle.scitt_tool.specs.ToolText.{first, second, Plain, Judged, CommandText, PlaysNothing, OneText}

abbrev One : (Answer → Type 0) → Type 0
One P = (a b : Answer) → P a → P b → a ≡ b

-- ---- the strings of an array

abbrev string_of : Layer → List ℕ
string_of (Node-F.Bytes bytes) = bytes
string_of _ = []

abbrev parts_of : Layer → List Item
parts_of (Node-F.Array items) = items
parts_of _ = []

abbrev back : List Item → List (List ℕ)
back [] = []
back (item ∷ items) = string_of (out-Node item.node) ∷ back items

back_again : (strings : List (List ℕ)) → back (map byte_item strings) ≡ strings
back_again [] = refl
back_again (string ∷ strings) = rw (outs-Bytes string, back_again strings) refl

parts_again : (strings : List (List ℕ)) → back (parts_of (out-Node (strings_item strings).node)) ≡ strings
parts_again strings = rw (outs-Array (map byte_item strings)) (back_again strings)

same_strings : (s t : List (List ℕ)) → strings_item s ≡ strings_item t → s ≡ t
same_strings s t e =
    sym (parts_again s) ∙ ap (λ (item : Item). back (parts_of (out-Node item.node))) e ∙ parts_again t

-- ---- root

one_root : NeverBoth → OneItem → OneWholeFault → (bytes : List ℕ) → One (RootOf bytes)
one_root never one_item one_fault bytes a b (inl p) (inl q) =
    p.is ∙ ap (λ (s : List (List ℕ)). done (root_lines (length s) (mth s))) (same_strings p.strings q.strings (one_item Strict bytes _ _ p.spelled q.spelled)) ∙ sym q.is
one_root never one_item one_fault bytes a b (inl p) (inr (inl q)) = absurd (q.other p.strings (one_item Strict bytes _ _ q.spelled p.spelled))
one_root never one_item one_fault bytes a b (inl p) (inr (inr q)) = absurd (never Strict bytes _ q.fault p.spelled q.first)
one_root never one_item one_fault bytes a b (inr (inl p)) (inl q) = absurd (p.other q.strings (one_item Strict bytes _ _ p.spelled q.spelled))
one_root never one_item one_fault bytes a b (inr (inl p)) (inr (inl q)) = p.is ∙ sym q.is
one_root never one_item one_fault bytes a b (inr (inl p)) (inr (inr q)) = absurd (never Strict bytes _ q.fault p.spelled q.first)
one_root never one_item one_fault bytes a b (inr (inr p)) (inl q) = absurd (never Strict bytes _ p.fault q.spelled p.first)
one_root never one_item one_fault bytes a b (inr (inr p)) (inr (inl q)) = absurd (never Strict bytes _ p.fault q.spelled p.first)
one_root never one_item one_fault bytes a b (inr (inr p)) (inr (inr q)) =
    p.is ∙ ap (λ (f : Fault). refused (codes "refused cbor " ++ fault_text f)) (one_fault Strict bytes p.fault q.fault p.first q.first) ∙ sym q.is

-- ---- show

abbrev Parse : Type 0
Parse = Result Statement ParseStop

ok_is : (s t : Statement) → ◌≡◌ {A = Parse} (Ok s) (Ok t) → s ≡ t
ok_is s t e = cc

err_is : (p q : ParseStop) → ◌≡◌ {A = Parse} (Err p) (Err q) → p ≡ q
err_is p q e = cc

ok_err : (s : Statement) (p : ParseStop) → ◌≡◌ {A = Parse} (Ok s) (Err p) → ⊥
ok_err s p e = cc

one_show : TagStandsFirst → OneAnswer → (bytes : List ℕ) → One (ShowOf bytes)
one_show tags one bytes a b (inl p) (inl q) =
    let same = ok_is p.statement q.statement (one bytes (Ok p.statement) (Ok q.statement) p.parsed q.parsed) in
    let tagged = tags bytes p.message p.decoded ∙ sym (tags bytes q.message q.decoded) in
    p.is ∙ ap (λ (t : Bool). done (show_lines t p.statement)) tagged ∙ ap (λ (s : Statement). done (show_lines q.message.tagged s)) same ∙ sym q.is
one_show tags one bytes a b (inl p) (inr q) = absurd (ok_err p.statement q.stop (one bytes (Ok p.statement) (Err q.stop) p.parsed q.first))
one_show tags one bytes a b (inr p) (inl q) = absurd (ok_err q.statement p.stop (one bytes (Ok q.statement) (Err p.stop) q.parsed p.first))
one_show tags one bytes a b (inr p) (inr q) =
    let same = err_is p.stop q.stop (one bytes (Err p.stop) (Err q.stop) p.first q.first) in
    p.is ∙ ap (λ (s : ParseStop). refused (codes "refused " ++ stop_text s)) same ∙ sym q.is

-- ---- policy

abbrev Decode : Type 0
Decode = Result Document PolicyStop

same_document : (p q : Document) → ◌≡◌ {A = Decode} (Ok p) (Ok q) → p ≡ q
same_document p q e = cc

same_place : (m n : ℕ) → ◌≡◌ {A = Decode} (Err (BadPolicy m)) (Err (BadPolicy n)) → m ≡ n
same_place m n e = cc

same_fault : (p q : Fault) → ◌≡◌ {A = Decode} (Err (Cbor p)) (Err (Cbor q)) → p ≡ q
same_fault p q e = cc

document_place : (p : Document) (n : ℕ) → ◌≡◌ {A = Decode} (Ok p) (Err (BadPolicy n)) → ⊥
document_place p n e = cc

document_fault : (p : Document) (f : Fault) → ◌≡◌ {A = Decode} (Ok p) (Err (Cbor f)) → ⊥
document_fault p f e = cc

place_fault : (n : ℕ) (f : Fault) → ◌≡◌ {A = Decode} (Err (BadPolicy n)) (Err (Cbor f)) → ⊥
place_fault n f e = cc

one_policy : OneDocument → (bytes : List ℕ) → One (PolicyTextOf bytes)
one_policy one bytes a b (inl p) (inl q) =
    p.is ∙ ap (λ (d : Document). done (policy_lines d)) (same_document p.policy q.policy (one bytes (Ok p.policy) (Ok q.policy) p.document q.document)) ∙ sym q.is
one_policy one bytes a b (inl p) (inr (inl q)) = absurd (document_place p.policy q.place (one bytes (Ok p.policy) (Err (BadPolicy q.place)) p.document q.first))
one_policy one bytes a b (inl p) (inr (inr q)) = absurd (document_fault p.policy q.fault (one bytes (Ok p.policy) (Err (Cbor q.fault)) p.document q.first))
one_policy one bytes a b (inr (inl p)) (inl q) = absurd (document_place q.policy p.place (one bytes (Ok q.policy) (Err (BadPolicy p.place)) q.document p.first))
one_policy one bytes a b (inr (inl p)) (inr (inl q)) =
    p.is ∙ ap (λ n. refused (codes "refused policy " ++ decimal n)) (same_place p.place q.place (one bytes (Err (BadPolicy p.place)) (Err (BadPolicy q.place)) p.first q.first)) ∙ sym q.is
one_policy one bytes a b (inr (inl p)) (inr (inr q)) = absurd (place_fault p.place q.fault (one bytes (Err (BadPolicy p.place)) (Err (Cbor q.fault)) p.first q.first))
one_policy one bytes a b (inr (inr p)) (inl q) = absurd (document_fault q.policy p.fault (one bytes (Ok q.policy) (Err (Cbor p.fault)) q.document p.first))
one_policy one bytes a b (inr (inr p)) (inr (inl q)) = absurd (place_fault q.place p.fault (one bytes (Err (BadPolicy q.place)) (Err (Cbor p.fault)) q.first p.first))
one_policy one bytes a b (inr (inr p)) (inr (inr q)) =
    p.is ∙ ap (λ (f : Fault). refused (codes "refused cbor " ++ fault_text f)) (same_fault p.fault q.fault (one bytes (Err (Cbor p.fault)) (Err (Cbor q.fault)) p.first q.first)) ∙ sym q.is

-- ---- audit

one_audit : OneReport → (bytes : List ℕ) → One (AuditOf bytes)
one_audit one bytes a b p q = p.is ∙ ap report_answer (one bytes p.report q.report p.says q.says) ∙ sym q.is

-- ---- verify

abbrev Trusts : Type 0
Trusts = Result Trust TrustStop

same_trust : (s t : Trust) → ◌≡◌ {A = Trusts} (Ok s) (Ok t) → s ≡ t
same_trust s t e = cc

trust_none : (s : Trust) (p : TrustStop) → ◌≡◌ {A = Trusts} (Ok s) (Err p) → ⊥
trust_none s p e = cc

one_verify : OneTrust → OneVerdict → (bytes statement : List ℕ) → One (VerifyOf bytes statement)
one_verify trust verdict bytes statement a b (inl p) (inl q) = p.is ∙ sym q.is
one_verify trust verdict bytes statement a b (inl p) (inr q) = absurd (trust_none q.trust p.stop (trust bytes (Ok q.trust) (Err p.stop) q.trusted p.first))
one_verify trust verdict bytes statement a b (inr p) (inl q) = absurd (trust_none p.trust q.stop (trust bytes (Ok p.trust) (Err q.stop) p.trusted q.first))
one_verify trust verdict bytes statement a b (inr p) (inr q) =
    let same = same_trust p.trust q.trust (trust bytes (Ok p.trust) (Ok q.trust) p.trusted q.trusted) in
    let accepts = subst (λ (t : Trust). Accepts t statement p.verdict) same p.accepts in
    p.is ∙ ap verdict_answer (verdict q.trust statement p.verdict q.verdict accepts q.accepts) ∙ sym q.is

-- ---- consistent

one_consistent : OneTrust → (bytes receipt : List ℕ) (size : ℕ) (root : List ℕ) → One (ConsistentOf bytes receipt size root)
one_consistent trust bytes receipt size root a b (inl p) (inl q) = p.is ∙ sym q.is
one_consistent trust bytes receipt size root a b (inl p) (inr q) = absurd (trust_none q.trust p.stop (trust bytes (Ok q.trust) (Err p.stop) q.trusted p.first))
one_consistent trust bytes receipt size root a b (inr p) (inl q) = absurd (trust_none p.trust q.stop (trust bytes (Ok p.trust) (Err q.stop) p.trusted q.first))
one_consistent trust bytes receipt size root a b (inr p) (inr q) =
    let same = same_trust p.trust q.trust (trust bytes (Ok p.trust) (Ok q.trust) p.trusted q.trusted) in
    let accepts = subst (λ (t : Trust). AcceptsConsistency t receipt size root p.result) same p.accepts in
    p.is ∙ ap result_answer (accepts ∙ sym q.accepts) ∙ sym q.is

-- ---- replay

not_both : (b : Bool) → b ≡ true → b ≡ false → ⊥
not_both b e f = cc

one_played : (bytes : List ℕ) (script : Script) (a b : Answer) → ScriptOf bytes script → PlayedOf script a → PlayedOf script b → OneHeard bytes a b
one_played bytes script a b spelled (inl p) (inl q) = inl (p.1 ∙ sym q.1)
one_played bytes script a b spelled (inl p) (inr q) = absurd (not_both (is_within_limits (header_in script)) q.replayed.limits p.0)
one_played bytes script a b spelled (inr p) (inl q) = absurd (not_both (is_within_limits (header_in script)) p.replayed.limits q.0)
one_played bytes script a b spelled (inr p) (inr q) = inr (record { script = script; spelled = spelled; one = p; other = q })

pub one_play : OneScript → OnePlay
one_play one bytes a b (inl p) (inl q) = inl (p.is ∙ sym q.is)
one_play one bytes a b (inl p) (inr q) = absurd (p.none q.script q.spelled)
one_play one bytes a b (inr p) (inl q) = absurd (q.none p.script p.spelled)
one_play one bytes a b (inr p) (inr q) =
    one_played bytes p.script a b p.spelled p.played (subst (λ (s : Script). PlayedOf s b) (one bytes q.script p.script q.spelled p.spelled) q.played)

-- ---- attach

same_message : OneMessage → (bytes : List ℕ) (v w : Sign1) → Sign1Of bytes v → Sign1Of bytes w → v ≡ w
same_message one bytes v w p q =
    let both : ◌≡◌ {A = Result Sign1 Sign1Stop} (Ok v) (Ok w) = one bytes (Ok v) (Ok w) p q in cc

module _ (one : OneAnswer) (message : OneMessage) (spelling : OneStrictSpelling) (bytes receipt : List ℕ) where
  one_attach : One (AttachOf bytes receipt)
  one_attach a b (inl p) (inl q) =
      let same = err_is p.stop q.stop (one bytes (Err p.stop) (Err q.stop) p.first q.first) in
      p.is ∙ ap (λ (s : ParseStop). refused (codes "refused " ++ stop_text s)) same ∙ sym q.is
  one_attach a b (inl p) (inr (inl q)) = absurd (ok_err q.statement p.stop (one bytes (Ok q.statement) (Err p.stop) q.parsed p.first))
  one_attach a b (inl p) (inr (inr (inl q))) = absurd (ok_err q.statement p.stop (one bytes (Ok q.statement) (Err p.stop) q.parsed p.first))
  one_attach a b (inl p) (inr (inr (inr q))) = absurd (ok_err q.statement p.stop (one bytes (Ok q.statement) (Err p.stop) q.parsed p.first))
  one_attach a b (inr (inl p)) (inl q) = absurd (ok_err p.statement q.stop (one bytes (Ok p.statement) (Err q.stop) p.parsed q.first))
  one_attach a b (inr (inl p)) (inr (inl q)) = p.is ∙ sym q.is
  one_attach a b (inr (inl p)) (inr (inr (inl q))) = let none = p.none in let may = q.may in absurd cc
  one_attach a b (inr (inl p)) (inr (inr (inr q))) = let none = p.none in let may = q.may in absurd cc
  one_attach a b (inr (inr (inl p))) (inl q) = absurd (ok_err p.statement q.stop (one bytes (Ok p.statement) (Err q.stop) p.parsed q.first))
  one_attach a b (inr (inr (inl p))) (inr (inl q)) = let none = q.none in let may = p.may in absurd cc
  one_attach a b (inr (inr (inl p))) (inr (inr (inl q))) = p.is ∙ sym q.is
  one_attach a b (inr (inr (inl p))) (inr (inr (inr q))) =
      let room = subst HasRoom (same_message message bytes q.spelled.0 p.full.0 q.spelled.1 p.full.1) q.spelled.2 in
      absurd (omega (arith, room, p.full.2))
  one_attach a b (inr (inr (inr p))) (inl q) = absurd (ok_err p.statement q.stop (one bytes (Ok p.statement) (Err q.stop) p.parsed q.first))
  one_attach a b (inr (inr (inr p))) (inr (inl q)) = let none = q.none in let may = p.may in absurd cc
  one_attach a b (inr (inr (inr p))) (inr (inr (inl q))) =
      let room = subst HasRoom (same_message message bytes p.spelled.0 q.full.0 p.spelled.1 q.full.1) p.spelled.2 in
      absurd (omega (arith, room, q.full.2))
  one_attach a b (inr (inr (inr p))) (inr (inr (inr q))) =
      let same = same_message message bytes p.spelled.0 q.spelled.0 p.spelled.1 q.spelled.1 in
      let left = subst (λ (v : Sign1). Spells Strict (attached_item v receipt) p.attached) same p.spelled.3.0 in
      p.is ∙ ap done (spelling _ _ _ left q.spelled.3.0) ∙ sym q.is

-- ---- outcomes

abbrev OneOutcome : (Outcome → Type 0) → Type 0
OneOutcome P = (a b : Outcome) → P a → P b → a ≡ b

one_plain : (P : Answer → Type 0) → One P → OneOutcome (Plain P)
one_plain P each a b p q = λ i. record { answer = each a.answer b.answer p.0 q.0 i; key = (p.1 ∙ sym q.1) i }

one_keygen : (levels : List Level) (key random : List ℕ) → OneOutcome (KeygenOf (Unit {0}) levels key random)
one_keygen levels key random a b (inl p) (inl q) = p.is ∙ sym q.is
one_keygen levels key random a b (inl p) (inr (inl q)) = absurd (omega (arith, p.few, q.enough))
one_keygen levels key random a b (inl p) (inr (inr q)) = absurd (omega (arith, p.few, q.enough))
one_keygen levels key random a b (inr (inl p)) (inl q) = absurd (omega (arith, q.few, p.enough))
one_keygen levels key random a b (inr (inr p)) (inl q) = absurd (omega (arith, q.few, p.enough))
one_keygen levels key random a b (inr (inl p)) (inr (inl q)) = p.is ∙ sym q.is
one_keygen levels key random a b (inr (inl p)) (inr (inr q)) = elim (q.none tt) [ inl few ↦ absurd (omega (arith, few, p.six tt)) | inr shut ↦ absurd (shut (p.open_gate tt)) ]
one_keygen levels key random a b (inr (inr p)) (inr (inl q)) = elim (p.none tt) [ inl few ↦ absurd (omega (arith, few, q.six tt)) | inr shut ↦ absurd (shut (q.open_gate tt)) ]
one_keygen levels key random a b (inr (inr p)) (inr (inr q)) = p.is ∙ sym q.is

-- ---- sign

first_bad : (records : List (List ℕ)) (m n : ℕ) → IsFirstBad records m → IsFirstBad records n → m ≡ n
first_bad records m n p q =
    elim (cases_lt m n) [
      | inl less ↦ (let good = q.before m less in let bad = p.bad in absurd cc)
      | inr more ↦
          elim (cases_lt n m) [
            | inl above ↦ (let good = p.before n above in let bad = q.bad in absurd cc)
            | inr below ↦ omega (arith, more, below)
          ]
    ]

bad_file : (records : List (List ℕ)) (n : ℕ) → IsFirstBad records n → IsKeyFile records → ⊥
bad_file records n p file = let good = file.each n p.within in let bad = p.bad in absurd cc

module _ (no_log : NoLogHasNoRecords) (short : ShortHasNoRecords) (short_at : ShortIsUnique) (records : RecordsAreUnique) (spelling : OneStrictSpelling) (claims : Claims) (key payload : List ℕ) where
  one_signed : (head : KeyHead) (next : ℕ) → OneOutcome (SignedBy claims head next payload)
  one_signed head next a b (inl p) (inl q) = p.is ∙ sym q.is
  one_signed head next a b (inl p) (inr (inl q)) = let unfit = p.unfit in let fit = q.fit in absurd cc
  one_signed head next a b (inl p) (inr (inr q)) = let unfit = p.unfit in let fit = q.fit in absurd cc
  one_signed head next a b (inr (inl p)) (inl q) = let unfit = q.unfit in let fit = p.fit in absurd cc
  one_signed head next a b (inr (inr p)) (inl q) = let unfit = q.unfit in let fit = p.fit in absurd cc
  one_signed head next a b (inr (inl p)) (inr (inl q)) = p.is ∙ sym q.is
  one_signed head next a b (inr (inl p)) (inr (inr q)) = absurd (omega (arith, p.none, q.left))
  one_signed head next a b (inr (inr p)) (inr (inl q)) = absurd (omega (arith, q.none, p.left))
  one_signed head next a b (inr (inr p)) (inr (inr q)) =
      p.is ∙ ap (λ (s : List ℕ). record { answer = done s; key = Keyed head (min (next + head.block) (capacity head.levels)) }) (spelling _ _ _ p.spelled q.spelled) ∙ sym q.is

  one_key : (head other : KeyHead) (next after : ℕ) → IsKey key head next → IsKey key other after → (head ≡ other) × (next ≡ after)
  one_key head other next after p q =
      let same = (records key p.records q.records p.rest q.rest p.are q.are).0 in
      let told : ◌≡◌ {A = Option KeyHead} (Some head) (Some other) = sym p.tell.key ∙ ap key_of same ∙ q.tell.key in
      (cc, sym p.tell.last ∙ ap reserved_of same ∙ q.tell.last)

  no_key_and_file : NoLog key → (head : KeyHead) (next : ℕ) → IsKey key head next → ⊥
  no_key_and_file none head next p = (no_log key none).0 p.records p.rest p.are

  short_and_file : (at : ℕ) → Short key at → (head : KeyHead) (next : ℕ) → IsKey key head next → ⊥
  short_and_file at cut head next p = short key at cut p.records (inr (p.rest, p.are))

  bad_and_key : (n : ℕ) → HasBad key n → (head : KeyHead) (next : ℕ) → IsKey key head next → ⊥
  bad_and_key n (bodies, (rest, are), bad) head next p =
      bad_file bodies n bad (subst IsKeyFile (sym (records key bodies p.records rest p.rest are p.are).0) p.tell.file)

  one_bad : (m n : ℕ) → HasBad key m → HasBad key n → m ≡ n
  one_bad m n (bodies, (rest, are), bad) (others, (left, have), worse) =
      first_bad bodies m n bad (subst (λ (r : List (List ℕ)). IsFirstBad r n) (sym (records key bodies others rest left are have).0) worse)

  one_sign : OneOutcome (SignOf (Unit {0}) claims key payload)
  one_sign a b (inl p) (inl q) = p.is ∙ sym q.is
  one_sign a b (inl p) (inr (inl q)) = absurd ((no_log key (p.none tt)).1 q.at (q.cut tt))
  one_sign a b (inl p) (inr (inr (inl q))) = (let bad = q.bad tt in absurd ((no_log key (p.none tt)).0 bad.0 bad.1.0 bad.1.1))
  one_sign a b (inl p) (inr (inr (inr q))) = absurd (no_key_and_file (p.none tt) q.head q.next (q.file tt))
  one_sign a b (inr (inl p)) (inl q) = absurd ((no_log key (q.none tt)).1 p.at (p.cut tt))
  one_sign a b (inr (inl p)) (inr (inl q)) =
      p.is ∙ ap (λ n. plain (refused (codes "refused key short " ++ decimal n))) (short_at key p.at q.at (p.cut tt) (q.cut tt)) ∙ sym q.is
  one_sign a b (inr (inl p)) (inr (inr (inl q))) = (let bad = q.bad tt in absurd (short key p.at (p.cut tt) bad.0 (inr (bad.1.0, bad.1.1))))
  one_sign a b (inr (inl p)) (inr (inr (inr q))) = absurd (short_and_file p.at (p.cut tt) q.head q.next (q.file tt))
  one_sign a b (inr (inr (inl p))) (inl q) = (let bad = p.bad tt in absurd ((no_log key (q.none tt)).0 bad.0 bad.1.0 bad.1.1))
  one_sign a b (inr (inr (inl p))) (inr (inl q)) = (let bad = p.bad tt in absurd (short key q.at (q.cut tt) bad.0 (inr (bad.1.0, bad.1.1))))
  one_sign a b (inr (inr (inl p))) (inr (inr (inl q))) =
      p.is ∙ ap (λ n. plain (refused (codes "refused key bad " ++ decimal n))) (one_bad p.number q.number (p.bad tt) (q.bad tt)) ∙ sym q.is
  one_sign a b (inr (inr (inl p))) (inr (inr (inr q))) = absurd (bad_and_key p.number (p.bad tt) q.head q.next (q.file tt))
  one_sign a b (inr (inr (inr p))) (inl q) = absurd (no_key_and_file (q.none tt) p.head p.next (p.file tt))
  one_sign a b (inr (inr (inr p))) (inr (inl q)) = absurd (short_and_file q.at (q.cut tt) p.head p.next (p.file tt))
  one_sign a b (inr (inr (inr p))) (inr (inr (inl q))) = absurd (bad_and_key q.number (q.bad tt) p.head p.next (p.file tt))
  one_sign a b (inr (inr (inr p))) (inr (inr (inr q))) =
      let same = one_key p.head q.head p.next q.next (p.file tt) (q.file tt) in
      one_signed q.head q.next a b (subst (λ (n : ℕ). SignedBy claims q.head n payload a) same.1 (subst (λ (h : KeyHead). SignedBy claims h p.next payload a) same.0 p.signed)) q.signed

one_generate : (count : ℕ) (a b : Answer) → GenerateOf count a → GenerateOf count b → a ≡ b
one_generate count a b p q =
    let admitted = p.told.admitted ∙ sym q.told.admitted in
    let denied = p.told.denied ∙ sym q.told.denied in
    let entries = p.told.entries ∙ sym q.told.entries in
    let root = p.told.root ∙ sym q.told.root in
    let same : p.summary ≡ q.summary = (λ i. record { admitted = admitted i; denied = denied i; entries = entries i; root = root i }) in
    p.is ∙ ap (λ (s : Summary). done (summary_lines count s)) same ∙ sym q.is

one_files : (limit : ℕ) (J : List (List ℕ) → Outcome → Type 0) → ((read : List (List ℕ)) → OneOutcome (J read)) → (contents : List (Option (List ℕ))) → OneOutcome (ByFiles limit J contents)
one_files limit J each [] a b p q = each [] a b p q
one_files limit J each (None ∷ contents) a b p q = p ∙ sym q
one_files limit J each (Some bytes ∷ contents) a b (inl (small, p)) (inl (little, q)) = one_files limit (λ more. J (bytes ∷ more)) (λ more. each (bytes ∷ more)) contents a b p q
one_files limit J each (Some bytes ∷ contents) a b (inl (small, p)) (inr (long, q)) = absurd (omega (arith, small, long))
one_files limit J each (Some bytes ∷ contents) a b (inr (long, p)) (inl (small, q)) = absurd (omega (arith, small, long))
one_files limit J each (Some bytes ∷ contents) a b (inr (long, p)) (inr (large, q)) = p ∙ sym q

module _ (never : NeverBoth) (one_item : OneItem) (one_fault : OneWholeFault) (tags : TagStandsFirst) (one : OneAnswer) (document : OneDocument) (message : OneMessage) (spelling : OneStrictSpelling) (report : OneReport) (trust : OneTrust) (verdict : OneVerdict) (no_log : NoLogHasNoRecords) (short : ShortHasNoRecords) (short_at : ShortIsUnique) (records : RecordsAreUnique) where
  one_judged : (key random : List ℕ) (command : Command) → PlaysNothing (Some command) → (read : List (List ℕ)) → OneOutcome (Judged (Unit {0}) key random command read)
  one_judged key random (Root file) other read = one_plain (RootOf (first read)) (one_root never one_item one_fault (first read))
  one_judged key random (Show file) other read = one_plain (ShowOf (first read)) (one_show tags one (first read))
  one_judged key random (Policy file) other read = one_plain (PolicyTextOf (first read)) (one_policy document (first read))
  one_judged key random (Audit file) other read = one_plain (AuditOf (first read)) (one_audit report (first read))
  one_judged key random (Verify _ _) other read = one_plain (VerifyOf (first read) (second read)) (one_verify trust verdict (first read) (second read))
  one_judged key random (Consistent _ _ size root) other read = one_plain (ConsistentOf (first read) (second read) size root) (one_consistent trust (first read) (second read) size root)
  one_judged key random (Replay file) other read = absurd other
  one_judged key random (Generate count) other read = one_plain (GenerateOf count) (one_generate count)
  one_judged key random (Keygen levels) other read = one_keygen levels key random
  one_judged key random (Sign claims _) other read = one_sign no_log short short_at records spelling claims key (first read)
  one_judged key random (Attach statement receipt) other read = one_plain (AttachOf (first read) (second read)) (one_attach one message spelling (first read) (second read))

  one_command : (key random : List ℕ) (o : Option Command) → PlaysNothing o → (contents : List (Option (List ℕ))) → OneOutcome (CommandText (Unit {0}) key random o contents)
  one_command key random None other contents a b p q = p ∙ sym q
  one_command key random (Some command) other contents a b p q = one_files (limit_of command) (Judged (Unit {0}) key random command) (one_judged key random command other) contents a b p q

  pub one_text : OneText
  one_text key random words contents a b other p q = one_command key random (command_of words) other contents a b p q
