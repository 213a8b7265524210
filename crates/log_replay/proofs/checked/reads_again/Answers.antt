use Rattle.statement.specs.Said.{said_of}
use Rattle.log_replay.proofs.LoggedAgain.{logged_says, read_again}
use Rattle.log_replay.proofs.checked.reads_again.Goals as goal

pub returns : goal.returns
returns c =
    let s = c.args.statement.now in
    let reads = read_again c.logged_form_is_the_statement.ensures.logged s in
    record { reads = reads; short = (logged_says s.logged (said_of s) reads).1 }
