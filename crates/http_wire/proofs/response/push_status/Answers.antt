use Rattle.std.proofs.Common.{codes}
use Rattle.http.specs.StatusCode.{code_digits}
use Rattle.http_wire.specs.Answering.{status_line, phrase_of, line_end}
use Rattle.http_wire.proofs.Writing.{five_pieces}
use Rattle.http_wire.proofs.response.push_status.Goals as goal

pub returns-clause-bytes : goal.returns-clause-bytes
unfolding status_line
returns-clause-bytes c =
    rw (c.push_str-5.ensures.bytes, c.push_str-4.ensures.bytes, c.push_str-3.ensures.bytes, c.push_str-2.ensures.bytes, c.push_str.ensures.bytes, c.code_of.ensures.value, c.phrase.ensures)
    (five_pieces c.args.head.now.bytes (codes "HTTP/1.1 ") (code_digits c.args.status) (codes " ") (phrase_of c.args.status) line_end)
