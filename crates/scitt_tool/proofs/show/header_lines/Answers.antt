use Rattle.std.proofs.Common.{refl}
use Rattle.scitt_tool.proofs.show.header_lines.Goals as goal

pub returns : goal.returns
returns c =
    rw (c.in_ok-push_line-4.ensures, c.in_ok-push_line-3.ensures, c.in_ok-push_line-2.ensures, c.in_ok-push_line.ensures, c.new-text.ensures.bytes, c.as_str.ensures.value, c.as_str-2.ensures.value, c.as_str-3.ensures.value, c.in_ok-alg.ensures, c.in_ok-kid.ensures, c.in_ok-content_type.ensures, c.as_slice.ensures) refl
