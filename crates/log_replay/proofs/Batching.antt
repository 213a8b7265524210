-- A Batch of one entry, as it is taken.
use Rattle.std.proofs.Common.{◌≡◌, ℕ, ◌+◌, List, [], ◌∷◌, ◌++◌, Bool, true, not, Option, None, Some, refl, sym, ap, ◌∙◌, length, subst}
use Rattle.std.specs.Prelude.{option_map, unwrap_or}
use Rattle.std.specs.Option.{is_some, option_or}
use Rattle.std.proofs.lemmas.Bool.{ne_eqb}
use Rattle.cbor_core.specs.Rows.{first_row}
use Rattle.merkle_tree.specs.Mth.{leaf_hash}
use Rattle.policy_rules.specs.declared.documents.Policy.{Policy}
use Rattle.policy_rules.specs.declared.facts.Facts.{Facts}
use Rattle.statement.specs.Said.{Said, id_of}
use Rattle.log_replay.specs.declared.parts.Header.{Header}
use Rattle.log_replay.specs.declared.parts.BatchParts.{BatchParts}
use Rattle.log_replay.specs.declared.words.Failing.{Failing}
use Rattle.log_replay.specs.declared.words.Why.TheVariants as why
use Rattle.log_replay.specs.Judging.{document_in, policy_with, facts_of}
use Rattle.log_replay.specs.Records.{Log, batch_record, Entry, entry_of, record_of}
use Rattle.log_replay.specs.Steps.{Takes, TakesOf}
use Rattle.log_replay.specs.WellMade.{fails_by, failing_of, is_number_of_entries}
use Rattle.log_replay.specs.Kept.{Kept, StateOf, kept_from, with_batch}
use Rattle.log_replay.specs.KeptRows.{kept_batch_failing, failing_behind, failing_first, failing_with, with_record, with_entry, with_entries}
use Rattle.log_replay.specs.Laws.{FailingIsFailing, RecordIsAdded}
use Rattle.log_replay.proofs.Making.{Made, same_made}

pub policy_put : (o : Option Policy) (p : Policy) (s : Said) → is_some o ≡ true → document_in s ≡ Some p → Some p ≡ option_map (λ q. policy_with q s) o
policy_put None p s some e = cc
policy_put (Some q) p s some e = ap (λ (x : Option Policy). Some (unwrap_or x q)) (sym e)

pub policy_left : (o : Option Policy) (s : Said) → document_in s ≡ None → o ≡ option_map (λ q. policy_with q s) o
policy_left None s e = refl
policy_left (Some q) s e = ap (λ (x : Option Policy). Some (unwrap_or x q)) (sym e)

pub batch_made : (K : Kept) (index at : ℕ) (hash : List ℕ) (s : Said) (policy : Option Policy) (ids : List (List ℕ)) (homes : List ℕ) (facts : List Facts) (leaves : List (List ℕ)) (logged : ℕ)
    → policy ≡ option_map (λ q. policy_with q s) K.policy → ids ≡ K.ids ++ id_of s ∷ [] → homes ≡ K.homes ++ K.records ∷ [] → facts ≡ K.facts ++ facts_of s ∷ []
    → leaves ≡ K.leaves ++ hash ∷ [] → logged ≡ K.logged + length s.logged
    → Made (with_batch K index hash at s) → Made (kept_from K.header policy (K.records + 1) K.reserved (index + 1) ids homes facts leaves at logged)
batch_made K index at hash s policy ids homes facts leaves logged a b c d e f made =
    let same : with_batch K index hash at s ≡ kept_from K.header policy (K.records + 1) K.reserved (index + 1) ids homes facts leaves at logged = cc in
    same_made (with_batch K index hash at s) (kept_from K.header policy (K.records + 1) K.reserved (index + 1) ids homes facts leaves at logged) same made

-- ---- what fails

pub or_first : {A : Type 0} (x : A) (a b : Option A) → Some x ≡ a → Some x ≡ option_or a b
or_first x None b e = cc
or_first x (Some y) b e = e

pub or_second : {A : Type 0} (o a b : Option A) → a ≡ None → o ≡ b → o ≡ option_or a b
or_second o None b e f = f
or_second o (Some y) b e f = cc

-- a Batch of one entry behind a header
pub behind_batch : (a : Option Header) (b : Option Policy) (K : Kept) (h : Header) (p : Policy) (batch : BatchParts) (leaf : List ℕ) → a ≡ Some h → b ≡ Some p → batch.entries ≡ leaf ∷ []
    → kept_batch_failing h p K batch (leaf ∷ []) ≡ failing_with a b K (Some (batch_record batch))
unfolding failing_behind
behind_batch a b K h p batch leaf e f one =
    ap (kept_batch_failing h p K batch) (sym one)
    ∙ ap (λ (x : Option Policy). failing_with (Some h) x K (Some (batch_record batch))) (sym f)
    ∙ ap (λ (x : Option Header). failing_with x b K (Some (batch_record batch))) (sym e)

-- a Batch of another number of entries
other_number : (h : Header) (p : Policy) (K : Kept) (batch : BatchParts) (entries : List (List ℕ)) → (length entries ≡ 1 → ⊥) → kept_batch_failing h p K batch entries ≡ Some (fails_by why.Form)
other_number h p K batch [] other = refl
other_number h p K batch (leaf ∷ []) other = absurd (other refl)
other_number h p K batch (leaf ∷ next ∷ more) other = refl

first_other : (batch : BatchParts) → (length batch.entries ≡ 1 → ⊥) → failing_first (Some (batch_record batch)) ≡ Some (fails_by why.Form)
unfolding failing_first
first_other batch other =
    ap (λ (t : Bool). option_or (first_row ((not t, fails_by why.Form) ∷ [])) (Some (fails_by why.Order))) (ne_eqb (length batch.entries) 1 other)

pub not_one : (a : Option Header) (b : Option Policy) (K : Kept) (batch : BatchParts) → (length batch.entries ≡ 1 → ⊥) → failing_with a b K (Some (batch_record batch)) ≡ Some (fails_by why.Form)
unfolding failing_behind
not_one None b K batch other = first_other batch other
not_one (Some h) None K batch other = first_other batch other
not_one (Some h) (Some p) K batch other = other_number h p K batch batch.entries other

-- a Batch of one entry before any header
pub before_header : (a : Option Header) (b : Option Policy) (K : Kept) (batch : BatchParts) (leaf : List ℕ) → a ≡ None → batch.entries ≡ leaf ∷ [] → failing_with a b K (Some (batch_record batch)) ≡ Some (fails_by why.Order)
unfolding failing_first
before_header (Some h) b K batch leaf e one = cc
before_header None b K batch leaf e one =
    ap (λ (xs : List (List ℕ)). option_or (first_row ((not (is_number_of_entries (length xs)), fails_by why.Form) ∷ [])) (Some (fails_by why.Order))) one

-- ---- what is kept then

pub record_is_batch : (K : Kept) (batch : BatchParts) (leaf : List ℕ) (e : Entry) → batch.entries ≡ leaf ∷ [] → entry_of leaf ≡ Some e
    → with_record K (Some (batch_record batch)) ≡ with_batch K batch.index (leaf_hash leaf) e.at e.statement
unfolding with_record
record_is_batch K batch leaf e one is = ap (with_entries K batch.index) one ∙ ap (with_entry K batch.index (leaf_hash leaf)) is

pub takes_of : FailingIsFailing → RecordIsAdded → (K new : Kept) (R : Log) (body : List ℕ) (o : Option Failing) → Takes K (record_of body) o new → StateOf K R → TakesOf R body o new
takes_of same added K new R body None (fails, is) was =
    let none : failing_of R body ≡ None = sym (same K R body was) ∙ fails in
    (none, subst (λ (X : Kept). StateOf X (R ++ body ∷ [])) (sym is) (added K R body was none))
takes_of same added K new R body (Some f) (fails, is) was = (sym (same K R body was) ∙ fails, subst (λ (X : Kept). StateOf X R) (sym is) was)

-- a body that reads as no record
pub unread : (a : Option Header) (b : Option Policy) (K : Kept) → failing_with a b K None ≡ Some (fails_by why.Form)
unfolding failing_first failing_behind
unread None b K = refl
unread (Some h) None K = refl
unread (Some h) (Some p) K = refl
