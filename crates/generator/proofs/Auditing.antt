-- The report on the bytes of a log that holds a tally.
use Rattle.std.proofs.Common.{◌≡◌, ℕ, ◌<◌, ◌⊎◌, inl, inr, List, [], ◌∷◌, Option, None, Some, length, refl, sym, ap, ◌∙◌, subst}
use Rattle.merkle_tree.specs.Mth.{mth}
use Rattle.scitt_disk.specs.declared.memory.MemDisk.{MemDisk}
use Rattle.scitt_disk.specs.Images.{ImageNow}
use Rattle.scitt_disk.specs.Memory.{held_of}
use Rattle.scitt_disk.specs.SeenIsImage.{IsImage-held_of}
use Rattle.scitt_journal.specs.Layout.{RecordsOf, Recovers}
use Rattle.log_replay.specs.Records.{Log, header_of, entries_of, leaves_of}
use Rattle.registrar.specs.Turns.{Standing, log_with}
use Rattle.registrar.specs.Histories.{BetweenCalls}
use Rattle.registrar.specs.Fits.{Between}
use Rattle.auditor.specs.declared.words.Report.{Report}
use Rattle.auditor.specs.declared.words.Report.TheVariants as report
use Rattle.auditor.specs.Reports.{Reports}
use Rattle.auditor.specs.Laws.{OneReport}
use Rattle.generator.specs.Tallies.{Tally, Holds, IsOn, header}

-- what is recovered is the log
one_log : (S : Standing) (L : Log) → S.pending ≡ None → BetweenCalls S L → L ≡ S.log
one_log S L none (inl e) = e
one_log S L none (inr e) = e ∙ ap (λ (o : Option (List ℕ)). log_with o S.log) none

-- a log with a header isn't empty
recovered : (t : Tally) (S : Standing) (image : List ℕ) → Holds t S → Recovers image S.log → (rest : ℕ) × RecordsOf image S.log rest
recovered t S image h (inl none) =
    let empty : header_of S.log ≡ None = ap header_of none.1 in
    absurd (cc)
recovered t S image h (inr is) = is

between : (t : Tally) (S : Standing) (image : List ℕ) → Holds t S → Between S image → (rest : ℕ) × RecordsOf image S.log rest
between t S image h (L, of, is) =
    recovered t S image h (subst (λ (R : Log). Recovers image R) (one_log S L h.pending of) is)

-- the report: clean, with the entries and the root of the tally
pub record Clean (t : Tally) (r : Report) : Type 0 where
  pub records : ℕ
  pub rest : ℕ
  pub is : r ≡ report.Clean records (length t.entries) rest (mth t.leaves)

pub is_clean : OneReport → (t : Tally) (disk : MemDisk) (bytes : List ℕ) (r : Report) → IsOn t disk → bytes ≡ (held_of disk).seen → Reports bytes r → Clean t r
is_clean one t disk bytes r on seen says =
    let S = on.0 in
    let h = on.1 in
    let found = between t S (held_of disk).seen h (on.2 (held_of disk).seen (IsImage-held_of disk)) in
    let rest = found.0 in
    let there : Reports (held_of disk).seen (report.Clean (length S.log) (length (entries_of S.log)) rest (mth (leaves_of S.log))) =
    (S.log, (record { holds = found.1; sound = h.sound.log }), (record { count = refl; entry_count = refl; mth_is = refl })) in
    let mine : Reports (held_of disk).seen r = subst (λ (b : List ℕ). Reports b r) seen says in
    record {
      records = length S.log;
      rest = rest;
      is = one (held_of disk).seen r (report.Clean (length S.log) (length (entries_of S.log)) rest (mth (leaves_of S.log))) mine there
          ∙ ap (λ (n : ℕ). report.Clean (length S.log) n rest (mth (leaves_of S.log))) (ap length h.entries)
          ∙ ap (λ (L : List (List ℕ)). report.Clean (length S.log) (length t.entries) rest (mth L)) h.leaves;
    }

clean_parts : (a b c d : ℕ) (e f : List ℕ) (p q : ℕ) → report.Clean a b c e ≡ report.Clean p d q f → (b ≡ d) × (e ≡ f)
clean_parts a b c d e f p q same = (cc, cc)

-- what a clean report tells
pub entries_are : (t : Tally) (r : Report) (records entries rest : ℕ) (root : List ℕ) → r ≡ report.Clean records entries rest root → Clean t r → (entries ≡ length t.entries) × (root ≡ mth t.leaves)
entries_are t r records entries rest root same c = clean_parts records entries rest (length t.entries) root (mth t.leaves) c.records c.rest (sym same ∙ c.is)

pub not_clean : (t : Tally) (r : Report) → ((records entries rest : ℕ) (root : List ℕ) → r ≡ report.Clean records entries rest root → ⊥) → Clean t r → ⊥
not_clean t r never c = never c.records (length t.entries) c.rest (mth t.leaves) c.is

-- the disk of a log that was closed
pub on_disk : (t : Tally) (mine disk : MemDisk) (S : Standing) → disk ≡ mine → Holds t S → ((image : List ℕ) → ImageNow (held_of mine) image → Between S image) → IsOn t disk
on_disk t mine disk S same h images = (S, h, λ image now. images image (subst (λ (d : MemDisk). ImageNow (held_of d) image) same now))
