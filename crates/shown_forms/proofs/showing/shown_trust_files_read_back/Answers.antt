use Rattle.shown_forms.proofs.TrustSpelled.{trust_reads_back}
use Rattle.shown_forms.proofs.showing.shown_trust_files_read_back.Goals as goal

pub returns : goal.returns
returns c = trust_reads_back c.strict_spelling_is_unique.ensures
