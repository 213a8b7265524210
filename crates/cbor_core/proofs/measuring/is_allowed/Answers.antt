use Rattle.std.proofs.Common.{◌≡◌, ℕ, Bool, true, false, refl, ◌&&◌, List, length, sym, ap, ◌∙◌}
use Rattle.std.specs.Prelude.{nat_le}
use Rattle.std.specs.Str.{is_utf8}
use Rattle.std.proofs.lemmas.Str.{is_utf8-from_IsUtf8}
use Rattle.cbor_core.specs.declared.tree.Node.TheVariants.{outs-Text}
use Rattle.cbor_core.specs.Limits.{longest_string}
use Rattle.cbor_core.proofs.measuring.is_allowed.Goals as goal

with_true : (x u : Bool) → u ≡ true → x ≡ (x && u)
with_true true u e = sym e
with_true false u e = refl

pub returns-in-Text : goal.returns-in-Text
returns-in-Text c =
    let text = c.in-Text.text in
    rw (c.in-Text.is, outs-Text text) (ap (λ (b : List ℕ). nat_le (length b) longest_string) c.as_slice-text.ensures.value ∙ with_true (nat_le (length text) longest_string) (is_utf8 text) (is_utf8-from_IsUtf8 text c.as_slice-text.ensures.utf8))
