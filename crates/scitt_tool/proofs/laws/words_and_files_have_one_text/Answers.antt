use Rattle.scitt_tool.proofs.OneText.{one_play, one_text}
use Rattle.scitt_tool.proofs.SomeAttach.{some_attach}
use Rattle.scitt_tool.proofs.SomeSign.{some_sign}
use Rattle.scitt_tool.proofs.SomeText.{some_text}
use Rattle.scitt_tool.proofs.laws.words_and_files_have_one_text.Goals as goal

pub returns-clause-some : goal.returns-clause-some
returns-clause-some c =
    let k = c.strict_item_by_kind.ensures in
    let l = c.strict_len_by_kind.ensures in
    let attach = some_attach c.keys_are_compared_as_items.ensures.same c.strict_is_wide.ensures c.strict_items_are_spelled.ensures.spelled c.message_strings_are_short.ensures k.uint k.bytes k.array k.map k.tag k.simple k.uint_text l.uint l.bytes l.array l.map l.tag l.simple c.statements_have_one_answer.ensures.some in
    let sign = some_sign c.bare_message_is_one.ensures.spelled c.hss_law.ensures.sig_len c.journal_laws.ensures.one_of_three in
    some_text c.whole_bytes_have_one_answer.ensures.either c.statements_have_one_answer.ensures.some c.documents_have_one_answer.ensures.some c.report_laws.ensures.some c.trust_files_have_one_answer.ensures.some c.verdicts_are_one.ensures.some attach sign

pub returns-clause-played : goal.returns-clause-played
returns-clause-played c = one_play c.bytes_are_one_script.ensures

pub returns-clause-one : goal.returns-clause-one
returns-clause-one c =
    let whole = c.whole_bytes_have_one_answer.ensures in
    one_text whole.not_both whole.one_item whole.one_fault c.tag_stands_first.ensures c.statements_have_one_answer.ensures.one c.documents_have_one_answer.ensures.one c.messages_have_one_answer.ensures.one c.strict_spelling_is_unique.ensures c.report_laws.ensures.one c.trust_files_have_one_answer.ensures.one c.verdicts_are_one.ensures.one c.journal_laws.ensures.no_log c.journal_laws.ensures.short c.journal_laws.ensures.short_at c.journal_laws.ensures.unique
