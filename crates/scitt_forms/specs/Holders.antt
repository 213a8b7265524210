-- Holders of keys: a name, a key of 60 bytes, and the key's name, which is its SHA-256 digest where none is given.
use Rattle.std.specs.Prelude.{ℕ, List, [], ◌∷◌, Option, Some, None, Ok}
use Rattle.sha2.specs.Sha256.{sha256}
use Rattle.cbor_core.specs.declared.tree.Item.{Item}
use Rattle.policy_rules.specs.Spelling.{text_item, bytes_item, array_item}
use Rattle.toml.specs.Data.{Data, Members}
use Rattle.scitt_forms.specs.declared.refusal.Place.{Place}
use Rattle.scitt_forms.specs.declared.refusal.Word.{Word}
use Rattle.scitt_forms.specs.declared.refusal.Word.TheVariants as w
use Rattle.scitt_forms.specs.Refusals.{Said, and_then}
use Rattle.scitt_forms.specs.Fields.{under, as_text, as_members, text_said, key_said, bytes_of, placed, when_known}

abbrev pub kid_from : Place → List ℕ → Option Data → Said (List ℕ)
kid_from place key None = Ok (sha256 key)
kid_from place key (Some d) = and_then (as_text place w.Kid d) (bytes_of place w.Kid)

abbrev pub holder_words : List Word
holder_words = w.Iss ∷ w.Kid ∷ w.Key ∷ []

-- [iss, kid, key]
abbrev pub three : List ℕ → List ℕ → List ℕ → Item
three iss key kid = array_item (text_item iss ∷ bytes_item kid ∷ bytes_item key ∷ [])

abbrev pub with_kid : List ℕ → List ℕ → Said (List ℕ) → Said Item
with_kid iss key kid = and_then kid (λ k. Ok (three iss key k))

abbrev pub with_key : Place → Members → List ℕ → Said Item
with_key place table iss = and_then (key_said place table) (λ key. with_kid iss key (kid_from place key (under w.Kid table)))

-- the holder that a table says
abbrev pub holder_said : Place → Members → Said Item
holder_said place table = when_known place holder_words table (and_then (text_said place w.Iss table) (with_key place table))

-- the holder that an item of this list says
abbrev pub holder_at : Word → ℕ → Data → Said Item
holder_at list index d = and_then (as_members (placed list index) list d) (holder_said (placed list index))
