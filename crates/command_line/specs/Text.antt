-- The bytes of an answer's text.
use Rattle.std.specs.Prelude.{ℕ, List}
use Rattle.std.specs.String.{string_bytes}
use Rattle.command_line.specs.declared.answer.Text.{Text}
use Rattle.command_line.specs.declared.answer.Text.TheVariants.{Fixed, Made, Bytes}

abbrev pub bytes_of : Text → List ℕ
bytes_of (Fixed text) = text.now
bytes_of (Made text) = string_bytes text
bytes_of (Bytes bytes) = bytes
