-- A new id goes last in the map of ids, with the number of its entry's record.
use Rattle.std.proofs.Common.{◌≡◌, ℕ, List, [], ◌∷◌, ◌++◌, Bool, false, Option, None, Some, refl, sym, ap, ◌∙◌, is_some}
use Rattle.std.specs.Prelude.{position}
use Rattle.std.specs.Map.{keys_of, values_of, lookup}
use Rattle.std.specs.Str.{bytes_eq}
use Rattle.std.specs.Cmp.Lexicographic.{nat_list_eq_equiv}
use Rattle.std.proofs.lemmas.List.{map-append}
use Rattle.indexmap.specs.IndexMap.{IndexMap, get, insert_entry}
use Rattle.indexmap.proofs.CallerLemmas.{insert_entry-new}
use Rattle.indexmap.proofs.MapLemmas.{some_index}
use Rattle.log_replay.specs.KeptRows.{place_in}

no_some : {A : Type 0} (o : Option A) → is_some o ≡ false → o ≡ None
no_some None e = refl
no_some (Some x) e = cc

module _ {V S : Type 0} (m n : IndexMap (List ℕ) V S) (id : List ℕ) (home : V) (new : place_in (keys_of m.entries) id ≡ None) where
  absent : get bytes_eq m id ≡ None
  absent =
      let test : List ℕ → Bool = bytes_eq id in
      let none : position test (keys_of m.entries) ≡ None = (λ j. position (λ i. nat_list_eq_equiv.symm id i j) (keys_of m.entries)) ∙ new in
      no_some (lookup test m.entries) (sym (some_index test m.entries) ∙ ap is_some none)

  module _ (put : n.entries ≡ insert_entry bytes_eq m.entries id home) where
    last : n.entries ≡ m.entries ++ (id, home) ∷ []
    last = put ∙ insert_entry-new bytes_eq m id home absent

    pub ids_more : keys_of n.entries ≡ keys_of m.entries ++ id ∷ []
    ids_more = ap keys_of last ∙ map-append (λ e. e.0) m.entries ((id, home) ∷ [])

    pub homes_more : values_of n.entries ≡ values_of m.entries ++ home ∷ []
    homes_more = ap values_of last ∙ map-append (λ e. e.1) m.entries ((id, home) ∷ [])
