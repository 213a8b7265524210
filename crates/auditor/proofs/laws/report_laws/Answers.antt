use Rattle.auditor.proofs.One.{Journal, one_report, some_report}
use Rattle.auditor.proofs.Beside.{one_since, some_since}
use Rattle.auditor.proofs.laws.report_laws.Goals as goal

pub returns : goal.returns
returns c =
    let j : Journal = record {
      three = c.journal_laws.ensures.one_of_three;
      unique = c.journal_laws.ensures.unique;
      no_log = c.journal_laws.ensures.no_log;
      short = c.journal_laws.ensures.short;
      short_at = c.journal_laws.ensures.short_at;
      short_after = c.journal_laws.ensures.short_after;
      more = c.log_laws.ensures.one_more;
      less = c.log_laws.ensures.one_less;
      fronts = c.log_laws.ensures.fronts;
    } in
    record { some = some_report j; one = one_report j; some_since = some_since j; one_since = one_since j }
