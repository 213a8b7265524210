-- What a walk says.
use Rattle.std.proofs.Common.{◌≡◌, ℕ, ◌≤◌, List, Some, None, length, take, map, refl, ap, sym, ◌∙◌, arith}
use Rattle.std.specs.Prelude.{Bool, true, false, not}
use Rattle.std.specs.Str.{bytes_eq}
use Rattle.std.proofs.lemmas.Slice.Eq.{bytes_eq-Decides}
use Rattle.std.proofs.lemmas.List.{length-map, take-map}
use Rattle.merkle_tree.specs.Mth.{mth, leaf_hash}
use Rattle.scitt_journal.specs.Layout.{CutAfter}
use Rattle.log_replay.specs.Records.{Log, entries_of, leaves_of}
use Rattle.log_replay.specs.WellMade.{WellMade}
use Rattle.log_replay.specs.Growth.{EntriesAreLeaves}
use Rattle.auditor.specs.declared.walk.BadRecord.{BadRecord}
use Rattle.auditor.specs.declared.walk.Walk.{Walk}
use Rattle.auditor.specs.declared.words.Report.TheVariants as report
use Rattle.auditor.specs.Reports.{Reports, Holds, BeginsWith}
use Rattle.auditor.specs.Walks.{Knows, bad_report}
use Rattle.auditor.proofs.Bad.{stands_of, first_of}

pub says_bad : (bytes : List ℕ) (R : Log) (w : Walk) (first : BadRecord) → w.bad ≡ Some first → Knows w R → Holds bytes R → Reports bytes (bad_report first)
says_bad bytes R w first is knows holds =
    (R, holds, first_of w.state w.bad first R is knows.judged)

pub says_cut : (bytes : List ℕ) (R : Log) (w : Walk) (at : ℕ) → w.bad ≡ None → Knows w R → CutAfter bytes R at → Reports bytes (report.Short at)
says_cut bytes R w at is knows cut =
    (R, cut, (stands_of w.state w.bad R is knows.judged).sound)

-- the front of a log whose leaf hashes a table has
pub front_has : (R : Log) (size : ℕ) (root : List ℕ) (leaves : List (List ℕ)) → EntriesAreLeaves → WellMade R → leaves ≡ map leaf_hash (leaves_of R) → size ≤ length leaves
    → ((entries : List (List ℕ)) → map leaf_hash entries ≡ take size leaves → root ≡ mth entries) → BeginsWith R size root
front_has R size root leaves as_many sound are within of_entries = record {
  within = omega (arith, within, ap length are, length-map (leaves_of R) leaf_hash, as_many R sound);
  front = sym (of_entries (take size (leaves_of R)) (sym (take-map leaf_hash size (leaves_of R)) ∙ ap (λ (l : List (List ℕ)). take size l) (sym are)));
}

pub count_is : (R : Log) (n : ℕ) (leaves : List (List ℕ)) → EntriesAreLeaves → WellMade R → leaves ≡ map leaf_hash (leaves_of R) → n ≡ length leaves → n ≡ length (entries_of R)
count_is R n leaves as_many sound are is =
    omega (arith, is, ap length are, length-map (leaves_of R) leaf_hash, as_many R sound)

-- two hashes by their test
is_true : (x : Bool) → false ≡ not x → x ≡ true
is_true true h = refl
is_true false h = h

is_false : (x : Bool) → true ≡ not x → x ≡ false
is_false true h = h
is_false false h = refl

pub same_hash : (a b : List ℕ) → false ≡ not (bytes_eq a b) → a ≡ b
same_hash a b h = (bytes_eq-Decides a b).0 (is_true (bytes_eq a b) h)

pub other_hash : (a b : List ℕ) → true ≡ not (bytes_eq a b) → a ≡ b → ⊥
other_hash a b h e =
    let t : bytes_eq a b ≡ true = (bytes_eq-Decides a b).1 e in
    let bad : true ≡ false = sym t ∙ is_false (bytes_eq a b) h in
    cc
