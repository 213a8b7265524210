-- What it says that a statement goes into the log.
use Rattle.std.proofs.Common.{◌≡◌, ℕ, ◌<◌, ◌==◌, nat_lt, Bool, true, false, List, [], ◌∷◌, length, Option, Some, None, refl, sym, ap, ◌∙◌}
use Rattle.std.specs.Prelude.{option_map, unwrap_or}
use Rattle.std.specs.Str.{bytes_eq}
use Rattle.std.proofs.lemmas.List.Quantifiers.{position-Some}
use Rattle.cbor_core.specs.Rows.{first_row}
use Rattle.hss_keys.specs.Levels.{capacity}
use Rattle.statement.specs.Said.{Said, id_of}
use Rattle.policy_rules.specs.declared.documents.Policy.{Policy}
use Rattle.policy_rules.specs.declared.facts.Facts.{Facts}
use Rattle.log_replay.specs.declared.parts.Header.{Header}
use Rattle.log_replay.specs.declared.words.Judgement.{Judgement}
use Rattle.log_replay.specs.declared.words.Judgement.TheVariants.{Known, Admit, Deny}
use Rattle.log_replay.specs.Records.{Entry, header_of, entries_of}
use Rattle.log_replay.specs.Judging.{judge, judge_new, judged_by, rows, place_of, in_force, facts_before, moment_after}
use Rattle.log_replay.specs.WellMade.{most_logged_bytes}
use Rattle.registrar.specs.Turns.{Standing, Ruling, knows, full, spent, goes, ruling_on, ruling_of, bytes_with}

pub record GoesSays (S : Standing) (h : Header) (s : Said) (j : Judgement) (rule : ℕ) : Type 0 where
  pub judged : j ≡ Admit rule
  pub room : (length (entries_of S.log) == h.max_entries) ≡ false
  pub bytes : nat_lt most_logged_bytes (bytes_with S s) ≡ false
  pub left : (S.next == capacity h.levels) ≡ false

rows_pass : (b1 b2 b3 : Bool) (entries bytes next cap r rule : ℕ)
    → unwrap_or (first_row ((b1, full entries bytes) ∷ (b2, full entries bytes) ∷ (b3, spent next cap) ∷ [])) (goes r) ≡ goes rule
    → (b1 ≡ false) × (b2 ≡ false) × (b3 ≡ false) × (r ≡ rule)
rows_pass true b2 b3 entries bytes next cap r rule e = cc
rows_pass false true b3 entries bytes next cap r rule e = cc
rows_pass false false true entries bytes next cap r rule e = cc
rows_pass false false false entries bytes next cap r rule e = (refl, refl, refl, cc)

on_says : (S : Standing) (h : Header) (s : Said) (j : Judgement) (rule : ℕ) → ruling_on h S s j ≡ goes rule → GoesSays S h s j rule
on_says S h s (Known i) rule e = cc
on_says S h s (Deny r) rule e = cc
on_says S h s (Admit r) rule e =
    let pass = rows_pass _ _ _ _ _ _ _ r rule e in
    record { judged = ap Admit pass.3; room = pass.0; bytes = pass.1; left = pass.2 }

same_ruling : (p q : Ruling) → ◌≡◌ {A = Option Ruling} (Some p) (Some q) → p ≡ q
same_ruling p q e = cc

pub goes_says : (S : Standing) (h : Header) (s : Said) (m rule : ℕ) → header_of S.log ≡ Some h → ruling_of S s m ≡ Some (goes rule) → GoesSays S h s (judge h (entries_of S.log) s m) rule
goes_says S h s m rule headed ruling =
    on_says S h s _ rule (same_ruling _ _ (sym (ap (λ (o : Option Header). option_map (λ h. ruling_on h S s (judge h (entries_of S.log) s m)) o) headed) ∙ ruling))

-- ---- a statement that is known stands in the log

abbrev NotKnown : Judgement → Type 0
NotKnown (Known i) = ⊥
NotKnown _ = Unit {0}

abbrev AllNew : List (Bool × Judgement) → Type 0
AllNew [] = Unit {0}
AllNew (row ∷ rows) = NotKnown row.1 × AllNew rows

first_new : (table : List (Bool × Judgement)) (last : Judgement) → AllNew table → NotKnown last → NotKnown (unwrap_or (first_row table) last)
first_new [] last all new = new
first_new ((true, j) ∷ table) last all new = all.0
first_new ((false, j) ∷ table) last all new = first_new table last all.1 new

judged_new : (v : Bool × ℕ) → NotKnown (judged_by v)
judged_new (true, rule) = tt
judged_new (false, rule) = tt

new_is_new : (p : Policy) (earlier : List Facts) (s : Said) (m : ℕ) → NotKnown (judge_new p earlier s m)
unfolding judge_new
new_is_new p earlier s m = first_new (rows p earlier s m) _ (tt, (tt, (tt, (tt, (tt, (tt, (tt, (tt, (tt, tt))))))))) (judged_new _)

no_known : (j : Judgement) (i : ℕ) → NotKnown j → j ≡ Known i → ⊥
no_known (Known k) i new e = new
no_known (Admit r) i new e = cc
no_known (Deny r) i new e = cc

placed : (E : List Entry) (o : Option ℕ) (new : Judgement) (i : ℕ) → NotKnown new → unwrap_or (option_map Known o) new ≡ Known i → o ≡ Some i
placed E None new i fresh e = absurd (no_known new i fresh e)
placed E (Some k) new i fresh e = cc

known_within : (h : Header) (E : List Entry) (s : Said) (m i : ℕ) → judge h E s m ≡ Known i → i < length E
known_within h E s m i e =
    (position-Some (λ e. bytes_eq (id_of e.statement) (id_of s)) E i (record { at = 0; rule = 0; statement = s })
    (placed E (place_of E s) (judge_new (in_force h E) (facts_before E) s (moment_after E m)) i (new_is_new (in_force h E) (facts_before E) s (moment_after E m)) e)).0

rows_know : (b1 b2 b3 : Bool) (entries bytes next cap r i : ℕ)
    → unwrap_or (first_row ((b1, full entries bytes) ∷ (b2, full entries bytes) ∷ (b3, spent next cap) ∷ [])) (goes r) ≡ knows i → ⊥
rows_know true b2 b3 entries bytes next cap r i e = cc
rows_know false true b3 entries bytes next cap r i e = cc
rows_know false false true entries bytes next cap r i e = cc
rows_know false false false entries bytes next cap r i e = cc

on_knows : (S : Standing) (h : Header) (s : Said) (j : Judgement) (i : ℕ) → ruling_on h S s j ≡ knows i → j ≡ Known i
on_knows S h s (Known k) i e = cc
on_knows S h s (Deny r) i e = cc
on_knows S h s (Admit r) i e =
    absurd (rows_know (length (entries_of S.log) == h.max_entries) (nat_lt most_logged_bytes (bytes_with S s)) (S.next == capacity h.levels) (length (entries_of S.log)) (bytes_with S s) S.next (capacity h.levels) r i e)

knows_by : (S : Standing) (s : Said) (m i : ℕ) (o : Option Header) → option_map (λ h. ruling_on h S s (judge h (entries_of S.log) s m)) o ≡ Some (knows i) → i < length (entries_of S.log)
knows_by S s m i None e = cc
knows_by S s m i (Some h) e = known_within h (entries_of S.log) s m i (on_knows S h s _ i (same_ruling _ _ e))

pub knows_within : (S : Standing) (s : Said) (m i : ℕ) → ruling_of S s m ≡ Some (knows i) → i < length (entries_of S.log)
knows_within S s m i e = knows_by S s m i (header_of S.log) e
