use Rattle.std.proofs.Common.{refl}
use Rattle.http_wire.specs.Answering.{head_bytes, type_line, size_line}
use Rattle.http_wire.proofs.response.head_of.Goals as goal

pub returns : goal.returns
unfolding head_bytes type_line size_line
returns c =
    rw (c.push_str.ensures.bytes, c.push_close.ensures.bytes, c.push_allow.ensures.bytes, c.push_location.ensures.bytes, c.push_line-2.ensures.bytes, c.push_length.ensures.bytes, c.push_line.ensures.bytes, c.push_status.ensures.bytes, c.new-head.ensures, c.name_of.ensures.value, c.format.ensures.text, c.len.ensures)
    refl
