-- What is kept with a record more stands for a log with it.
use Rattle.std.proofs.Common.{◌≡◌, ℕ, List, [], ◌∷◌, ◌++◌, Bool, true, false, not, Option, None, Some, refl, sym, ap, ◌∙◌, subst}
use Rattle.std.specs.Option.{is_some}
use mathlib.Core.Logic.{∥∥₁_map}
use Rattle.cbor_core.specs.Rows.{first_row}
use Rattle.policy_rules.specs.declared.documents.Policy.{Policy}
use Rattle.policy_rules.specs.declared.facts.Facts.{Facts}
use Rattle.policy_rules.specs.Documents.{bootstrap_of}
use Rattle.log_replay.specs.declared.parts.Header.{Header}
use Rattle.log_replay.specs.declared.state.State.{State}
use Rattle.log_replay.specs.declared.words.Failing.{Failing}
use Rattle.log_replay.specs.declared.words.Why.TheVariants as why
use Rattle.log_replay.specs.Lists.{Lists}
use Rattle.log_replay.specs.Records.{Record, header_record, record_of}
use Rattle.log_replay.specs.Steps.{Takes}
use Rattle.log_replay.specs.WellMade.{fails_by, failing_of, header_holds}
use Rattle.log_replay.specs.Kept.{Kept, StateOf, Stands, kept_from, first_kept}
use Rattle.log_replay.specs.KeptRows.{failing_behind, failing_first, failing_with, failing_kept, with_record}
use Rattle.log_replay.specs.StateSeen.{kept_of}
use Rattle.log_replay.specs.Laws.{FailingIsFailing, RecordIsAdded}

more_stands : FailingIsFailing → RecordIsAdded → (K : Kept) (body : List ℕ) (r : Option Record) → record_of body ≡ r → failing_kept K r ≡ None → Stands K → Stands (with_record K r)
more_stands same added K body r reads none (R, was) =
    let fails : failing_of R body ≡ None = sym (same K R body was) ∙ ap (failing_kept K) reads ∙ none in
    (R ++ body ∷ [], subst (λ (o : Option Record). StateOf (with_record K o) (R ++ body ∷ [])) reads (added K R body was fails))

pub still_stands : FailingIsFailing → RecordIsAdded → (K : Kept) (body : List ℕ) (r : Option Record) → record_of body ≡ r → failing_kept K r ≡ None → ∥ Stands K ∥₁ → ∥ Stands (with_record K r) ∥₁
still_stands same added K body r reads none made = ∥∥₁_map made (more_stands same added K body r reads none)

pub takes : (K new : Kept) (r : Option Record) (o : Option Failing) → o ≡ failing_kept K r → o ≡ None → new ≡ with_record K r → Takes K r o new
takes K new r None is none same = (sym is, same)
takes K new r (Some f) is none same = cc

pub leaves_it : (K new : Kept) (r : Option Record) (f : Failing) → Some f ≡ failing_kept K r → new ≡ K → Takes K r (Some f) new
leaves_it K new r f is same = (sym is, same)

-- ---- a header

pub order : (a : Option Header) (b : Option Policy) (K : Kept) (h new : Header) → a ≡ Some h → is_some a ≡ is_some b → failing_with a b K (Some (header_record new)) ≡ Some (fails_by why.Order)
unfolding failing_behind
order None b K h new e same = cc
order (Some k) None K h new e same = cc
order (Some k) (Some p) K h new e same = refl

pub bad_header : (a : Option Header) (b : Option Policy) (K : Kept) (h : Header) → a ≡ None → header_holds h ≡ false → failing_with a b K (Some (header_record h)) ≡ Some (fails_by why.Header)
unfolding failing_first
bad_header (Some k) b K h e holds = cc
bad_header None b K h e holds = ap (λ (t : Bool). first_row ((not t, fails_by why.Header) ∷ [])) holds

pub good_header : (a : Option Header) (b : Option Policy) (K : Kept) (h : Header) → a ≡ None → header_holds h ≡ true → failing_with a b K (Some (header_record h)) ≡ None
unfolding failing_first
good_header (Some k) b K h e holds = cc
good_header None b K h e holds = ap (λ (t : Bool). first_row ((not t, fails_by why.Header) ∷ [])) holds

abbrev pub Made : Kept → Type 0
Made K = ∥ Stands K ∥₁

pub same_made : (K L : Kept) → K ≡ L → Made K → Made L
same_made K L e made = subst (λ (X : Kept). ∥ Stands X ∥₁) e made

pub first_made : (h : Header) (p : Policy) (ids : List (List ℕ)) (homes : List ℕ) (facts : List Facts) (leaves : List (List ℕ)) → p ≡ bootstrap_of h.governor → ids ≡ [] → homes ≡ [] → facts ≡ [] → leaves ≡ []
    → Made (first_kept h) → Made (kept_from (Some h) (Some p) 1 0 0 ids homes facts leaves 0 0)
first_made h p ids homes facts leaves a b c d e made =
    let same : first_kept h ≡ kept_from (Some h) (Some p) 1 0 0 ids homes facts leaves 0 0 = cc in
    same_made (first_kept h) (kept_from (Some h) (Some p) 1 0 0 ids homes facts leaves 0 0) same made

pub lists_made : (s : State) (t : Lists) → t.ids ≡ s.tables.ids → t.homes ≡ s.tables.homes → t.facts ≡ s.tables.facts → t.leaves ≡ s.tables.leaves → Made (kept_of s)
    → Made (kept_from s.header s.policy s.records s.reserved s.used t.ids t.homes t.facts t.leaves s.last s.logged)
lists_made s t a b c d made =
    let same : kept_of s ≡ kept_from s.header s.policy s.records s.reserved s.used t.ids t.homes t.facts t.leaves s.last s.logged = cc in
    same_made (kept_of s) (kept_from s.header s.policy s.records s.reserved s.used t.ids t.homes t.facts t.leaves s.last s.logged) same made
