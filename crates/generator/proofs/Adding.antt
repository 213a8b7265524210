-- A log with the Batch of a statement that it admits.
use Rattle.std.proofs.Common.{◌≡◌, ℕ, ◌+◌, List, [], ◌∷◌, ◌++◌, ◌==◌, Option, None, Some, refl, sym, ap, ◌∙◌, subst}
use Rattle.cbor_core.specs.Decoding.{SpelledIsItem}
use Rattle.cbor_core.specs.Exact.{TextIsSpelled}
use Rattle.statement.specs.Said.{Said, logged_statement}
use Rattle.log_replay.specs.declared.parts.Header.{Header}
use Rattle.log_replay.specs.declared.parts.BatchParts.{BatchParts}
use Rattle.log_replay.specs.Records.{Log, Entry, header_of, entries_of, leaves_of, reserved_of, entry_of, reserve_record}
use Rattle.log_replay.specs.Judging.{moment_after}
use Rattle.log_replay.specs.Spelling.{body_of}
use Rattle.log_replay.specs.WellMade.{WellMade}
use Rattle.log_replay.specs.Growth.{ReserveRises, IndexRises, EntriesAreLeaves, ReserveAdds, BatchAdds, HeaderStays, EntryIsNew}
use Rattle.log_replay.specs.Laws.{OneLess}
use Rattle.registrar.specs.Turns.{Standing, Adds, needed_of, log_with, ready_log, new_entry}
use Rattle.registrar.proofs.Rising.{Laws}
use Rattle.registrar.proofs.Reserving.{is_reserve, made_less, reads_reserve}
use Rattle.generator.proofs.Entries.{entry_reads_back}

pub record GrowthLaws : Type 0 where
  pub turns : Laws
  pub reserves : ReserveAdds
  pub batches : BatchAdds
  pub stays : HeaderStays
  pub entry : EntryIsNew

pub laws_of : ReserveRises → IndexRises → EntriesAreLeaves → OneLess → SpelledIsItem → TextIsSpelled → ReserveAdds → BatchAdds → HeaderStays → EntryIsNew → GrowthLaws
laws_of reserve index leaves less item text reserves batches stays entry = record {
  turns = record { reserve = reserve; index = index; leaves = leaves; less = less; item = item; text = text };
  reserves = reserves;
  batches = batches;
  stays = stays;
  entry = entry;
}

-- a log that says the same of its entries
record Same (R L : Log) (h : Header) : Type 0 where
  headed : header_of L ≡ Some h
  entries : entries_of L ≡ entries_of R
  leaves : leaves_of L ≡ leaves_of R

readied : GrowthLaws → (h : Header) (needed : Option (List ℕ)) (R : Log) → header_of R ≡ Some h
    → ((n : List ℕ) → needed ≡ Some n → (upto : ℕ) × (n ≡ body_of (reserve_record upto))) → WellMade (log_with needed R) → Same R (log_with needed R) h
readied laws h None R headed reserve well = record { headed = headed; entries = refl; leaves = refl }
readied laws h (Some n) R headed reserve well =
    let r = reserve n refl in
    let added = laws.reserves R n r.0 (reads_reserve laws.turns R n r.0 (laws.turns.less R n well) r.1) in
    record { headed = laws.stays R (n ∷ []) h headed; entries = added.entries; leaves = added.leaves }

same_head : (x y : List ℕ) → ◌≡◌ {A = List (List ℕ)} (x ∷ []) (y ∷ []) → x ≡ y
same_head x y e = cc

-- what a log says with one entry more
pub record Added (R L : Log) (h : Header) (e : Entry) (leaf : List ℕ) : Type 0 where
  pub headed : header_of L ≡ Some h
  pub entries : entries_of L ≡ entries_of R ++ e ∷ []
  pub leaves : leaves_of L ≡ leaves_of R ++ leaf ∷ []

pub added : GrowthLaws → (h : Header) (old new : Standing) (s : Said) (m rule : ℕ) → header_of old.log ≡ Some h → logged_statement s.logged ≡ Some s
    → Adds old (new_entry old s m rule ∷ []) new → WellMade new.log
    → Added old.log new.log h (record { at = moment_after (entries_of old.log) m; rule = rule; statement = s }) (new_entry old s m rule)
added laws h old new s m rule headed reads adds well =
    let leaf = new_entry old s m rule in
    let at = moment_after (entries_of old.log) m in
    let R = ready_log old in
    let b : BatchParts = record { entries = leaf ∷ []; index = old.next; signature = adds.batch.0 } in
    let whole : WellMade (R ++ adds.body ∷ []) = subst WellMade adds.log well in
    let same = readied laws h (needed_of old) old.log headed (λ n e. is_reserve (old.next == reserved_of old.log) (header_of old.log) old.log n e) (made_less R adds.body whole) in
    let found = laws.entry R h adds.body b same.headed adds.batch.1 (laws.turns.less R adds.body whole) in
    let first : leaf ≡ found.0 = same_head leaf found.0 found.2 in
    let entry : entry_of leaf ≡ Some found.1 = ap entry_of first ∙ found.3 in
    let e : Entry = record { at = at; rule = rule; statement = s } in
    let is : entry_of leaf ≡ Some e = entry_reads_back laws.turns.item laws.turns.text at rule s leaf found.1 refl reads entry in
    let more = laws.batches R adds.body leaf b e adds.batch.1 refl is in
    record {
      headed = ap header_of adds.log ∙ laws.stays R (adds.body ∷ []) h same.headed;
      entries = ap entries_of adds.log ∙ more.entries ∙ ap (λ (E : List Entry). E ++ e ∷ []) same.entries;
      leaves = ap leaves_of adds.log ∙ more.leaves ∙ ap (λ (L : List (List ℕ)). L ++ leaf ∷ []) same.leaves;
    }
