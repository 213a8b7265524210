use Rattle.std.proofs.Common.{ℕ, List, sym, subst}
use Rattle.std.specs.Str.{IsUtf8}
use Rattle.std.proofs.lemmas.Str.{IsUtf8-from_is_utf8}
use Rattle.cbor_core.proofs.strings.Text.from_checked.Goals as goal

pub from_utf8_unchecked-requires : goal.from_utf8_unchecked-requires
from_utf8_unchecked-requires c =
    subst (λ (b : List ℕ). IsUtf8 b) (sym c.in_ok-text.ensures.items) (IsUtf8-from_is_utf8 c.args.bytes.now c.requires)
