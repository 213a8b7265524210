use Rattle.scitt_answers.proofs.Sizes.{sizes_alone, sizes_among_others, size_at_exit, logs_begin_exit, logs_begin_seen, faults_never_fall}
use Rattle.scitt_answers.proofs.Judging.{answers_are_judged, good_is_taken}
use Rattle.scitt_answers.proofs.laws.session_laws.Goals as goal

pub returns : goal.returns
returns c = record {
  alone = sizes_alone;
  among_others = sizes_among_others;
  at_exit = size_at_exit;
  begin = logs_begin_exit;
  begin_seen = logs_begin_seen;
  judged = answers_are_judged;
  taken = good_is_taken c.statements_have_one_answer.ensures.one;
  faults = faults_never_fall;
}
