use Rattle.scitt_script.proofs.Answered.{decoded_by, no_script_by}
use Rattle.scitt_script.proofs.decoding.decode.Goals as goal

pub returns-in-Ok : goal.returns-in-Ok
returns-in-Ok c =
    decoded_by c.whole_bytes_have_one_answer.ensures.one_item c.args.bytes.now c.in-Ok.item c.script_or_stop.result c.in-Ok.ensures c.script_or_stop.ensures

pub returns-in-Err-Fault : goal.returns-in-Err-Fault
returns-in-Err-Fault c =
    no_script_by c.whole_bytes_have_one_answer.ensures.not_both c.args.bytes.now c.in-Err-Fault.field-0-0 (rw c.in-Err-Fault.field-0-is at c.in-Err-Fault.ensures)
