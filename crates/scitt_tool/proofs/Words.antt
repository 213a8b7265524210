-- Two words, and seven.
use Rattle.std.proofs.Common.{◌≡◌, ℕ, List, [], ◌∷◌, length, slice_get, Option, Some, arith}
use Rattle.scitt_tool.specs.Command.{command_of, with_one, with_six}

same : (s t : List ℕ) → ◌≡◌ {A = Option (List ℕ)} (Some s) (Some t) → s ≡ t
same s t e = cc

-- two words are a name and an argument
pub two : (words : List (List ℕ)) (name argument : List ℕ) → length words ≡ 2 → slice_get words 0 ≡ Some name → slice_get words 1 ≡ Some argument → command_of words ≡ with_one name argument
two [] name argument two_are p0 p1 = absurd (omega (arith, two_are))
two (a ∷ []) name argument two_are p0 p1 = absurd (omega (arith, two_are))
two (a ∷ b ∷ []) name argument two_are p0 p1 = λ i. with_one (same a name p0 i) (same b argument p1 i)
two (a ∷ b ∷ c ∷ more) name argument two_are p0 p1 = absurd (omega (arith, two_are))

-- seven words are a name and six arguments
pub seven : (words : List (List ℕ)) (name iss sub type nbf exp file : List ℕ) → length words ≡ 7 → slice_get words 0 ≡ Some name → slice_get words 1 ≡ Some iss → slice_get words 2 ≡ Some sub
    → slice_get words 3 ≡ Some type → slice_get words 4 ≡ Some nbf → slice_get words 5 ≡ Some exp → slice_get words 6 ≡ Some file → command_of words ≡ with_six name iss sub type nbf exp file
seven [] name iss sub type nbf exp file seven_are p0 p1 p2 p3 p4 p5 p6 = absurd (omega (arith, seven_are))
seven (a ∷ []) name iss sub type nbf exp file seven_are p0 p1 p2 p3 p4 p5 p6 = absurd (omega (arith, seven_are))
seven (a ∷ b ∷ []) name iss sub type nbf exp file seven_are p0 p1 p2 p3 p4 p5 p6 = absurd (omega (arith, seven_are))
seven (a ∷ b ∷ c ∷ []) name iss sub type nbf exp file seven_are p0 p1 p2 p3 p4 p5 p6 = absurd (omega (arith, seven_are))
seven (a ∷ b ∷ c ∷ d ∷ []) name iss sub type nbf exp file seven_are p0 p1 p2 p3 p4 p5 p6 = absurd (omega (arith, seven_are))
seven (a ∷ b ∷ c ∷ d ∷ e ∷ []) name iss sub type nbf exp file seven_are p0 p1 p2 p3 p4 p5 p6 = absurd (omega (arith, seven_are))
seven (a ∷ b ∷ c ∷ d ∷ e ∷ f ∷ []) name iss sub type nbf exp file seven_are p0 p1 p2 p3 p4 p5 p6 = absurd (omega (arith, seven_are))
seven (a ∷ b ∷ c ∷ d ∷ e ∷ f ∷ g ∷ []) name iss sub type nbf exp file seven_are p0 p1 p2 p3 p4 p5 p6 =
    λ i. with_six (same a name p0 i) (same b iss p1 i) (same c sub p2 i) (same d type p3 i) (same e nbf p4 i) (same f exp p5 i) (same g file p6 i)
seven (a ∷ b ∷ c ∷ d ∷ e ∷ f ∷ g ∷ h ∷ more) name iss sub type nbf exp file seven_are p0 p1 p2 p3 p4 p5 p6 = absurd (omega (arith, seven_are))
