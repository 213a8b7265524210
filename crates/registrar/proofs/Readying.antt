-- The log with the Reserve that is needed.
use Rattle.std.proofs.Common.{◌≡◌, ◌≢◌, ℕ, ◌+◌, ◌<◌, ◌≤◌, min, Bool, if◌then◌else◌, List, [], ◌∷◌, ◌++◌, Option, None, Some, sym, ap, ◌∙◌, subst, arith, ne_eqb, eq-eqb}
use Rattle.std.specs.Prelude.{option_map}
use Rattle.hss_keys.specs.Levels.{capacity}
use Rattle.log_replay.specs.declared.parts.Header.{Header}
use Rattle.log_replay.specs.Records.{record_of, reserve_record, header_of, entries_of, leaves_of, used_of, reserved_of}
use Rattle.log_replay.specs.WellMade.{WellMade}
use Rattle.log_replay.specs.Growth.{ReserveFits, HeaderStays, ReserveAdds, HeaderIsWithin}
use Rattle.log_replay.specs.Laws.{OneMore}
use Rattle.registrar.specs.Turns.{Standing, needed_of, reserve_needed, log_with, ready_log}
use Rattle.log_replay.specs.Spelling.{body_of}
use Rattle.registrar.specs.declared.writing.Needed.{Needed}
use Rattle.registrar.specs.Ready.{IsReadied, IsShort, IsNeeded}

pub needed_none : (S : Standing) → S.next ≢ reserved_of S.log → needed_of S ≡ None
needed_none S differ =
    ap (λ (b : Bool). if b then option_map (λ h. reserve_needed h S.log) (header_of S.log) else None) (ne_eqb S.next (reserved_of S.log) differ)

pub needed_some : (S : Standing) (h : Header) → header_of S.log ≡ Some h → S.next ≡ reserved_of S.log → needed_of S ≡ Some (reserve_needed h S.log)
needed_some S h headed same =
    ap (λ (b : Bool). if b then option_map (λ h. reserve_needed h S.log) (header_of S.log) else None) (eq-eqb S.next (reserved_of S.log) same)
    ∙ ap (λ (o : Option Header). option_map (λ h. reserve_needed h S.log) o) headed

pub readied_plain : (S : Standing) (h : Header) → WellMade S.log → header_of S.log ≡ Some h → S.next ≢ reserved_of S.log → S.next ≤ reserved_of S.log → IsReadied S h
readied_plain S h well headed differ ahead =
    let ready : ready_log S ≡ S.log = ap (λ o. log_with o S.log) (needed_none S differ) in
    let same = ap reserved_of ready in
    record {
      well = subst WellMade (sym ready) well;
      header = ap header_of ready ∙ headed;
      entries = ap entries_of ready;
      leaves = ap leaves_of ready;
      used = ap used_of ready;
      ahead = omega (arith, same, differ, ahead);
    }

pub readied_with : ReserveFits → OneMore → HeaderStays → ReserveAdds → (S : Standing) (h : Header) (body : List ℕ) → WellMade S.log → header_of S.log ≡ Some h → 1 ≤ h.block
    → S.next ≡ reserved_of S.log → S.next < capacity h.levels → body ≡ reserve_needed h S.log
    → record_of body ≡ Some (reserve_record (min (reserved_of S.log + h.block) (capacity h.levels))) → IsReadied S h
readied_with fits more stays adds S h body well headed block spent left is reads =
    let ready : ready_log S ≡ S.log ++ body ∷ [] = ap (λ o. log_with o S.log) (needed_some S h headed spent ∙ ap Some (sym is)) in
    let left' : reserved_of S.log < capacity h.levels = subst (λ (n : ℕ). n < capacity h.levels) spent left in
    let added = adds S.log body (min (reserved_of S.log + h.block) (capacity h.levels)) reads in
    let upto = ap reserved_of ready ∙ added.reserved in
    record {
      well = subst WellMade (sym ready) (more S.log body well (fits S.log h body headed block left' reads));
      header = ap header_of ready ∙ stays S.log (body ∷ []) h headed;
      entries = ap entries_of ready ∙ added.entries;
      leaves = ap leaves_of ready ∙ added.leaves;
      used = ap used_of ready ∙ added.used;
      ahead = omega (arith, upto, spent, left, block);
    }

pub is_needed_none : (S : Standing) (h : Header) → WellMade S.log → header_of S.log ≡ Some h → S.next ≢ reserved_of S.log → S.next ≤ reserved_of S.log → IsNeeded S h None
is_needed_none S h well headed differ ahead =
    record { is = sym (needed_none S differ); reads = tt; short = tt; readied = readied_plain S h well headed differ ahead }

pub is_needed_some : ReserveFits → OneMore → HeaderStays → ReserveAdds → HeaderIsWithin → (S : Standing) (h : Header) (upto : ℕ) (n : Needed) → WellMade S.log → header_of S.log ≡ Some h
    → S.next < capacity h.levels → upto ≡ min (reserved_of S.log + h.block) (capacity h.levels) → S.next ≡ reserved_of S.log
    → n.upto ≡ upto → n.body.items ≡ body_of (reserve_record upto) → record_of n.body.items ≡ Some (reserve_record upto) → IsShort n.body.items → IsNeeded S h (Some n)
is_needed_some fits more stays adds within S h upto n well headed left is spent same body reads short =
    let is_body : n.body.items ≡ reserve_needed h S.log = body ∙ ap (λ (u : ℕ). body_of (reserve_record u)) is in
    let read_as : record_of n.body.items ≡ Some (reserve_record (min (reserved_of S.log + h.block) (capacity h.levels))) = reads ∙ ap (λ (u : ℕ). Some (reserve_record u)) is in
    record {
      is = ap Some is_body ∙ sym (needed_some S h headed spent);
      reads = reads ∙ ap (λ (u : ℕ). Some (reserve_record u)) (sym same);
      short = short;
      readied = readied_with fits more stays adds S h n.body.items well headed (within S.log h well headed).block_some spent left is_body read_as;
    }
