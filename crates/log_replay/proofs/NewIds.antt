-- The entry of a Batch more has a new id, where a well made log stands for the state with the Batch.
use Rattle.std.proofs.Common.{◌≡◌, ℕ, ◌+◌, ◌<◌, List, [], ◌∷◌, ◌++◌, true, Option, None, Some, refl, sym, ap, ◌∙◌, arith, length, length-append, get_or}
use Rattle.std.specs.Prelude.{map, slice_get}
use Rattle.std.specs.Str.{bytes_eq}
use Rattle.std.proofs.Math.Seq.{get_or-append_seam}
use Rattle.std.proofs.lemmas.Grind.{not_there}
use Rattle.std.proofs.lemmas.List.{get_or_append_left, get_or-map, length-map}
use Rattle.std.proofs.lemmas.List.Quantifiers.{position-Some}
use Rattle.std.proofs.lemmas.Option.{slice_get-get_or}
use Rattle.std.proofs.lemmas.Slice.Eq.{bytes_eq-Decides}
use Rattle.statement.specs.Said.{Said, id_of}
use Rattle.log_replay.specs.Records.{Entry, entries_of}
use Rattle.log_replay.specs.Kept.{Kept, Stands, with_batch}
use Rattle.log_replay.specs.KeptRows.{place_in}
use Rattle.log_replay.proofs.Growing.{no_id_twice}

-- the last of distinct ids is new
module _ {A : Type 0} (f : A → List ℕ) where
  value_at : (xs : List A) (i : ℕ) → i < length xs → (a : A) × (slice_get xs i ≡ Some a) × (get_or (map f xs) i [] ≡ f a)
  value_at [] i below = absurd (omega (arith, below))
  value_at (x ∷ xs) i below = (get_or (x ∷ xs) i x, slice_get-get_or (x ∷ xs) i x below, get_or-map f (x ∷ xs) i x [] below)

  module _ (xs : List A) (ids : List (List ℕ)) (id : List ℕ) (all : ids ++ id ∷ [] ≡ map f xs)
      (distinct : (i j : ℕ) (a b : A) → slice_get xs i ≡ Some a → slice_get xs j ≡ Some b → f a ≡ f b → i ≡ j) where
    never : (i : ℕ) → i < length ids → bytes_eq (get_or ids i []) id ≡ true → ⊥
    never i below hit =
        let count : length ids + 1 ≡ length xs = sym (length-append ids (id ∷ [])) ∙ ap length all ∙ length-map xs f in
        let a = value_at xs i (omega (arith, below, count)) in
        let b = value_at xs (length ids) (omega (arith, count)) in
        let first : get_or ids i [] ≡ f a.0 = sym (get_or_append_left ids (id ∷ []) [] i below) ∙ ap (λ ys. get_or ys i []) all ∙ a.2 in
        let last : id ≡ f b.0 = sym (get_or-append_seam ids id [] []) ∙ ap (λ ys. get_or ys (length ids) []) all ∙ b.2 in
        let same : f a.0 ≡ f b.0 = sym first ∙ (bytes_eq-Decides (get_or ids i []) id).0 hit ∙ last in
        let equal : i ≡ length ids = distinct i (length ids) a.0 b.0 a.1 b.1 same in
        omega (arith, below, equal)

    by_place : (o : Option ℕ) → place_in ids id ≡ o → o ≡ None
    by_place None is = refl
    by_place (Some i) is = let found = position-Some (λ x. bytes_eq x id) ids i [] is in absurd (never i found.0 found.1)

    pub new_last : place_in ids id ≡ None
    new_last = by_place (place_in ids id) refl

module _ (K : Kept) (index : ℕ) (hash : List ℕ) (at : ℕ) (s : Said) where
  new_stands : Stands (with_batch K index hash at s) → place_in K.ids (id_of s) ≡ None
  new_stands (R, was) =
      new_last (λ (e : Entry). id_of e.statement) (entries_of R) K.ids (id_of s) was.ids (λ i j a b x y same. no_id_twice R i j a b was.sound x y same)

  none_or : (o : Option ℕ) → place_in K.ids (id_of s) ≡ o → ((place_in K.ids (id_of s) ≡ None → ⊥) → ⊥) → o ≡ None
  none_or None is never = refl
  none_or (Some i) is never = absurd (never (λ none. let bad = sym is ∙ none in cc))

  pub new_id : ∥ Stands (with_batch K index hash at s) ∥₁ → place_in K.ids (id_of s) ≡ None
  new_id made = none_or (place_in K.ids (id_of s)) refl (λ never. not_there made (λ stands. never (new_stands stands)))
