-- What is said of a value that is there, and of one that isn't.
use Rattle.std.proofs.Common.{◌≡◌, ℕ, Bool, true, false, List, length, Vec, Global, Some, None, Ok, option_map, refl, ap, subst, ◌∙◌, ◌*◌}
use Rattle.std.specs.Prelude.{Option, nat_le, pos, if◌then◌else◌}
use Rattle.std.specs.List.{list_all}
use Rattle.hex.specs.Hex.{IsBytes, decode_sized, encode_lower, lower_digits}
use Rattle.hex.proofs.HexLemmas.{length-encode_with, decode_of-encode_lower, decode_sized-twice}
use Rattle.policy_rules.specs.declared.conditions.Cond.{Cond}
use Rattle.toml.specs.Data.{Data, integer}
use Rattle.toml.specs.View.{view, array_view}
use Rattle.toml.specs.declared.value.Value.{Value}
use Rattle.shown_forms.specs.Tables.{most_number}
use Rattle.shown_forms.specs.Conditions.{cond_fits, CondValue, SaysCond, PartValues, SaysParts}

pub some_parts : (deep : ℕ) (parts slice : List Cond) (o : Option (Vec Value Global)) (values : Vec Value Global) → slice ≡ parts → o ≡ Some values
    → SaysParts deep slice (option_map array_view o) → PartValues deep parts (array_view values)
some_parts deep parts slice o values same is says =
    let found : SaysParts deep slice (Some (array_view values)) = subst (λ (x : Option (Vec Value Global)). SaysParts deep slice (option_map array_view x)) is says in
    subst (λ (p : List Cond). PartValues deep p (array_view values)) same found

pub none_parts : (deep : ℕ) (parts slice : List Cond) (o : Option (Vec Value Global)) → slice ≡ parts → o ≡ None → SaysParts deep slice (option_map array_view o)
    → list_all (λ c. cond_fits c deep) parts ≡ false
none_parts deep parts slice o same is says =
    let found : SaysParts deep slice None = subst (λ (x : Option (Vec Value Global)). SaysParts deep slice (option_map array_view x)) is says in
    subst (λ (p : List Cond). list_all (λ c. cond_fits c deep) p ≡ false) same found

pub some_cond : (deep : ℕ) (c d : Cond) (o : Option Value) (v : Value) → d ≡ c → o ≡ Some v → SaysCond deep d (option_map view o) → CondValue deep c (view v)
some_cond deep c d o v same is says =
    let found : SaysCond deep d (Some (view v)) = subst (λ (x : Option Value). SaysCond deep d (option_map view x)) is says in
    subst (λ (e : Cond). CondValue deep e (view v)) same found

within : (b : Bool) (d e : Data) → Some d ≡ (if b then Some e else None) → (b ≡ true) × (d ≡ e)
within true d e h = (refl, cc)
within false d e h = absurd (cc)

-- a number that TOML has
pub some_number : (n : ℕ) (v : Value) → option_map view (Some v) ≡ (if nat_le n most_number then Some (integer (pos n)) else None)
    → (nat_le n most_number ≡ true) × (view v ≡ integer (pos n))
some_number n v h = within (nat_le n most_number) (view v) (integer (pos n)) h

-- the digits of a key
pub key_again : (key : List ℕ) → IsBytes key → length key ≡ 60 → decode_sized (encode_lower key) 60 ≡ Ok key
key_again key bytes sixty =
    decode_sized-twice (encode_lower key) 60 (length-encode_with lower_digits key ∙ ap (λ n. 2 * n) sixty) ∙ decode_of-encode_lower key bytes
