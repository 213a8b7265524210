-- An accepted receipt is of every well made log that has its root.
use Rattle.std.proofs.Common.{◌≡◌, ℕ, ◌≤◌, List, take, Some, sym, ap, ◌∙◌, subst, arith}
use Rattle.std.specs.Prelude.{slice_get}
use Rattle.std.proofs.lemmas.Option.{slice_get_within}
use Rattle.cbor_core.specs.Exact.{TextIsSpelled}
use Rattle.cbor_core.specs.Decoding.{ItemIsSpelled, SpelledIsItem, NoneIsEmpty}
use Rattle.statement.specs.declared.statement_type.Statement.{Statement}
use Rattle.statement.specs.Parsed.{StatementOf}
use Rattle.statement.specs.Said.{said_of, LoggedIsStatement}
use Rattle.statement.specs.OneAnswer.{OneAnswer as OneStatement}
use Rattle.log_replay.specs.declared.parts.EntryParts.{EntryParts}
use Rattle.log_replay.specs.declared.words.Judgement.TheVariants.{Admit}
use Rattle.log_replay.specs.Records.{Log, Entry, leaves_of, parts_of}
use Rattle.log_replay.specs.Judging.{judgement_of}
use Rattle.log_replay.specs.WellMade.{WellMade}
use Rattle.log_replay.specs.Growth.{EntriesAreLeaves}
use Rattle.relying_party.specs.Entries.{entry_bytes}
use Rattle.relying_party.specs.Meaning.{ReceiptsMeanEntries}
use Rattle.relying_party.specs.declared.answers.ReceiptResult.TheVariants.{Accepted}
use Rattle.relying_party.proofs.VerdictMeaning.{means_by}
use Rattle.receipt_laws.specs.Standing.{EntriesWereAdmitted}
use Rattle.receipt_laws.specs.Meaning.{IsAdmitted, AcceptedIsOfTheLog}
use Rattle.receipt_laws.proofs.Lists.{some_is}
use Rattle.receipt_laws.proofs.EntryParts.{parts_are, entry_is}

module _ (spelled : ItemIsSpelled) (given : SpelledIsItem) (empty : NoneIsEmpty) (text_spelled : TextIsSpelled) (law : LoggedIsStatement) (admitted : EntriesWereAdmitted) (both : EntriesAreLeaves) where
  -- an entry whose bytes are those of a statement
  pub is_admitted : (R : Log) (i at rule : ℕ) (bytes : List ℕ) (s : Statement) → WellMade R → StatementOf bytes s → slice_get (leaves_of R) i ≡ Some (entry_bytes at rule s.logged) → IsAdmitted R i at rule s
  is_admitted R i at rule bytes s w of there =
      let below = slice_get_within (leaves_of R) i (entry_bytes at rule s.logged) there in
      let found = admitted R i w (omega (arith, below, both R w)) in
      let was = found.6 in
      let st = was.stands in
      let e : Entry = found.5 in
      let leaf_is : found.2 ≡ entry_bytes at rule s.logged = some_is found.2 (entry_bytes at rule s.logged) (sym st.bytes ∙ there) in
      let own : EntryParts = record { at = at; rule = rule; logged = s.logged } in
      let parts : own ≡ record { at = e.at; rule = e.rule; logged = e.statement.logged } = parts_are spelled given empty text_spelled at rule s.logged _ (ap parts_of (sym leaf_is) ∙ st.parts) in
      let entry : record { at = at; rule = rule; statement = said_of s } ≡ e =
      entry_is found.2 own (said_of s) e (st.parts ∙ ap Some (sym parts)) (law bytes s of) st.entry_reads in
      record {
        bytes = there;
        entry = st.entry ∙ ap Some (sym entry);
        number = found.0;
        home = st.home;
        before = was.entries;
        judged = subst (λ (x : Entry). judgement_of (take found.0 R) x.statement x.at ≡ Some (Admit x.rule)) (sym entry) was.judged;
      }

  pub of_the_log : OneStatement → ReceiptsMeanEntries → AcceptedIsOfTheLog
  of_the_log one means trust bytes v s k receipt root size index at rule accepts of has gets =
      let told = means_by one means trust bytes v accepts s k receipt (Accepted size root index at rule) of has gets in
      (told.0, told.1, λ R w most same none. is_admitted R index at rule bytes s w of (told.2 (leaves_of R) (subst (λ (n : ℕ). size ≤ n) (both R w) most) same none))
