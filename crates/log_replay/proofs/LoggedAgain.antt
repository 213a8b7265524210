-- A statement's logged form reads as that statement.
use Rattle.std.proofs.Common.{◌≡◌, ℕ, ◌≤◌, List, [], Bool, true, false, cond, ◌&&◌, Option, Some, None, length, refl, sym, ap}
use Rattle.std.specs.Prelude.{nat_le, is_none, option_and_then}
use Rattle.std.specs.Option.{option_map}
use Rattle.std.specs.Result.{result_ok}
use Rattle.std.proofs.lemmas.Bool.{and_parts, leb-true}
use Rattle.std.proofs.Math.Logic.{∥∥₁_elim}
use Rattle.std.proofs.Props.{props}
use Rattle.cbor_core.specs.declared.tree.Item.{Item}
use Rattle.cbor_core.specs.Decoding.{strict_item}
use Rattle.cose_sign1.specs.declared.parts.Parts.{Parts}
use Rattle.cose_sign1.specs.Parts.{parts_in}
use Rattle.cose_sign1.specs.Headers.{header_fault}
use Rattle.statement.specs.declared.statement_type.Statement.{Statement}
use Rattle.statement.specs.Claims.{names_of}
use Rattle.statement.specs.Statements.{most_logged}
use Rattle.statement.specs.Said.{Said, said_of, said_from, said_with, said_by, said_parts, said_in, protected_entries, is_bare, logged_statement, LoggedIsStatement}

-- ---- what is read step by step

from_if : {A : Type 0} (b : Bool) (o : Option A) (x : A) → cond b o None ≡ Some x → (b ≡ true) × (o ≡ Some x)
from_if true o x e = (refl, e)
from_if false o x e = cc

pub from_then : {A B : Type 0} (f : A → Option B) (o : Option A) (y : B) → option_and_then f o ≡ Some y → (x : A) × (o ≡ Some x) × (f x ≡ Some y)
from_then f None y e = cc
from_then f (Some x) y e = (x, refl, e)

pub from_map : {A B : Type 0} (f : A → B) (o : Option A) (y : B) → option_map f o ≡ Some y → (x : A) × (o ≡ Some x) × (f x ≡ y)
from_map f None y e = cc
from_map f (Some x) y e = (x, refl, cc)

-- ---- what a logged form says

module _ (logged : List ℕ) (d : Said) where
  abbrev Says : Type 0
  Says = (d.logged ≡ logged) × (length logged ≤ 4194304)

  with_says : (parts : Parts) (payload : List ℕ) (entries : List (Item × Item)) → said_with logged parts payload entries ≡ Some d → Says
  with_says parts payload entries e =
      let a = from_if (is_none (header_fault entries []) && nat_le (length logged) most_logged) (option_map (said_from logged parts payload) (result_ok (names_of entries))) d e in
      let b = from_map (said_from logged parts payload) (result_ok (names_of entries)) d a.1 in
      (ap (λ (x : Said). x.logged) (sym b.2), leb-true (length logged) most_logged (and_parts _ _ a.0).1)

  by_says : (parts : Parts) (o : Option (List ℕ)) → said_by logged parts o ≡ Some d → Says
  by_says parts None e = cc
  by_says parts (Some payload) e =
      let a = from_if (is_bare parts.tagged parts.unprotected) (option_and_then (said_with logged parts payload) (protected_entries parts.protected)) d e in
      let b = from_then (said_with logged parts payload) (protected_entries parts.protected) d a.1 in
      with_says parts payload b.0 b.2

  pub logged_says : logged_statement logged ≡ Some d → Says
  unfolding logged_statement
  logged_says e =
      let a = from_then (said_in logged) (strict_item logged) d e in
      let b = from_then (said_parts logged) (parts_in a.0) d a.2 in
      by_says b.0 b.0.payload b.2

-- ---- the logged form of a statement

pub read_again : LoggedIsStatement → (s : Statement) → logged_statement s.logged ≡ Some (said_of s)
read_again given s =
    let bare : Statement = record s { receipts = [] } in
    ∥∥₁_elim s.parses_again (hlevel props) (λ reads. ∥∥₁_elim s.logged_form (hlevel props) (λ logged. given s.logged bare (reads, logged, s.statement_id)))
