use Rattle.shown_forms.proofs.ReadBack.{reads_back}
use Rattle.shown_forms.proofs.showing.shown_policies_read_back.Goals as goal

pub returns : goal.returns
returns c = reads_back c.documents_are_spelled_once.ensures.spelled c.strict_spelling_is_unique.ensures
