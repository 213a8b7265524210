use Rattle.scitt_journal.proofs.Unique.{records_unique, no_log_no_records, no_log_not_short, short_no_records, short_unique, cut_unique}
use Rattle.scitt_journal.proofs.OneOfThree.{one_of_three}
use Rattle.scitt_journal.proofs.laws.journal_laws.Goals as goal

pub returns : goal.returns
returns c =
    record {
      one_of_three = one_of_three;
      unique = records_unique;
      no_log = λ bytes none. (no_log_no_records bytes none, no_log_not_short bytes none);
      short = short_no_records;
      short_at = short_unique;
      short_after = cut_unique;
    }
