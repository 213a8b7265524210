use Rattle.log_replay.proofs.Growing.{header_stays, header_is_first, entries_are_leaves, few_records, is_bounded, no_id_twice}
use Rattle.log_replay.proofs.growth.growth_laws.Goals as goal

pub returns : goal.returns
returns c = record {
  header = header_stays;
  first = header_is_first;
  leaves = entries_are_leaves;
  few = few_records;
  bounds = is_bounded;
  ids = no_id_twice;
}
