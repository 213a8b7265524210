use Rattle.std.proofs.Common.{List, ℕ, sym, ap, subst, ◌∙◌}
use Rattle.std.specs.Prelude.{◌≡◌, true, nat_le, length}
use Rattle.std.proofs.lemmas.Str.{is_utf8-from_IsUtf8}
use Rattle.cbor_core.specs.Limits.{longest_string}
use Rattle.cbor_core.specs.declared.tree.Node.{out-Node}
use Rattle.cbor_core.specs.declared.tree.Node.TheVariants.{outs-Uint, outs-Nint, outs-Text}
use Rattle.cbor_core.proofs.PlaceLemmas.{uint-short, nint-short, text-short}
use Rattle.cbor_core.proofs.places.is_short.Goals as goal

pub returns-in-Uint : goal.returns-in-Uint
returns-in-Uint c = λ e. uint-short c.args.key.now c.in-Uint.n (ap out-Node c.in-Uint.is ∙ outs-Uint c.in-Uint.n) (c.is_number.ensures e)

pub returns-in-Nint : goal.returns-in-Nint
returns-in-Nint c = λ e. nint-short c.args.key.now c.in-Nint.n (ap out-Node c.in-Nint.is ∙ outs-Nint c.in-Nint.n) (c.is_number-in-Nint.ensures e)

pub returns-in-Text : goal.returns-in-Text
returns-in-Text c = λ e. text-short c.args.key.now c.in-Text.text (ap out-Node c.in-Text.is ∙ outs-Text c.in-Text.text) (is_utf8-from_IsUtf8 c.in-Text.text c.as_slice-bytes.ensures.utf8) (subst (λ (s : List ℕ). nat_le (length s) longest_string ≡ true) c.as_slice-bytes.ensures.value e)
