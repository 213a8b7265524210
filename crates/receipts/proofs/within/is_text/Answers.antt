use Rattle.std.proofs.lemmas.Str.{is_utf8-from_IsUtf8}
use Rattle.receipts.proofs.within.is_text.Goals as goal

pub returns : goal.returns
returns c = is_utf8-from_IsUtf8 c.args.text.now c.as_slice-text.ensures.utf8
