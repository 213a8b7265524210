-- How long a message's strings may be.
use Rattle.std.specs.Prelude.{◌≡◌, ℕ, ◌≤◌, List, length, Some}
use Rattle.cbor_core.specs.Limits.{longest_string}
use Rattle.cose_sign1.specs.declared.sign1.Sign1.{Sign1}
use Rattle.cose_sign1.specs.Sign1Of.{Sign1Of}

-- no string of a message is above the limit of a string
abbrev pub StringsAreShort : Type 0
StringsAreShort = (bytes : List ℕ) (v : Sign1) → Sign1Of bytes v
    → (length v.protected ≤ longest_string) × ((payload : List ℕ) → v.payload ≡ Some payload → length payload ≤ longest_string) × (length v.signature ≤ longest_string)
