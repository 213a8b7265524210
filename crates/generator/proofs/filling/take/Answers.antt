use Rattle.statement.specs.Said.{said_of}
use Rattle.log_replay.proofs.LoggedAgain.{read_again}
use Rattle.generator.proofs.Adding.{laws_of}
use Rattle.generator.proofs.Tallying.{admitted, denied, known, never_full, never_spent}
use Rattle.generator.proofs.filling.take.Goals as goal

pub returns-in-Admitted : goal.returns-in-Admitted
returns-in-Admitted c =
    admitted (laws_of c.record_laws.ensures.reserve c.record_laws.ensures.index c.growth_laws.ensures.leaves c.log_laws.ensures.one_less c.strict_item_is_exact.ensures.given c.strict_text_is_exact.ensures.spelled
    c.more_laws.ensures.reserve c.more_laws.ensures.batch c.growth_laws.ensures.header c.record_laws.ensures.entry) _ _ _ (said_of c.args.checked.now.statement) c.args.moment
    (read_again c.logged_form_is_the_statement.ensures.logged c.args.checked.now.statement) c.requires.short _ _ c.in-Admitted.ensures.turn

pub returns-in-Denied : goal.returns-in-Denied
returns-in-Denied c =
    denied (laws_of c.record_laws.ensures.reserve c.record_laws.ensures.index c.growth_laws.ensures.leaves c.log_laws.ensures.one_less c.strict_item_is_exact.ensures.given c.strict_text_is_exact.ensures.spelled
    c.more_laws.ensures.reserve c.more_laws.ensures.batch c.growth_laws.ensures.header c.record_laws.ensures.entry) _ _ _ (said_of c.args.checked.now.statement) c.args.moment
    (read_again c.logged_form_is_the_statement.ensures.logged c.args.checked.now.statement) c.requires.short _ _ _ c.in-Denied.ensures.turn

pub returns-in-Known : goal.returns-in-Known
returns-in-Known c =
    known (laws_of c.record_laws.ensures.reserve c.record_laws.ensures.index c.growth_laws.ensures.leaves c.log_laws.ensures.one_less c.strict_item_is_exact.ensures.given c.strict_text_is_exact.ensures.spelled
    c.more_laws.ensures.reserve c.more_laws.ensures.batch c.growth_laws.ensures.header c.record_laws.ensures.entry) _ _ _ (said_of c.args.checked.now.statement) c.args.moment
    (read_again c.logged_form_is_the_statement.ensures.logged c.args.checked.now.statement) c.requires.short _ _ c.in-Known.ensures.turn

pub unreachable-requires : goal.unreachable-requires
unreachable-requires c =
    never_full (laws_of c.record_laws.ensures.reserve c.record_laws.ensures.index c.growth_laws.ensures.leaves c.log_laws.ensures.one_less c.strict_item_is_exact.ensures.given c.strict_text_is_exact.ensures.spelled
    c.more_laws.ensures.reserve c.more_laws.ensures.batch c.growth_laws.ensures.header c.record_laws.ensures.entry) _ _ _ (said_of c.args.checked.now.statement) c.args.moment
    (read_again c.logged_form_is_the_statement.ensures.logged c.args.checked.now.statement) c.requires.short _ _ c.in-LogFull.ensures.turn c.requires.room

pub unreachable-requires-in-KeyExhausted : goal.unreachable-requires-in-KeyExhausted
unreachable-requires-in-KeyExhausted c =
    never_spent (laws_of c.record_laws.ensures.reserve c.record_laws.ensures.index c.growth_laws.ensures.leaves c.log_laws.ensures.one_less c.strict_item_is_exact.ensures.given c.strict_text_is_exact.ensures.spelled
    c.more_laws.ensures.reserve c.more_laws.ensures.batch c.growth_laws.ensures.header c.record_laws.ensures.entry) _ _ _ (said_of c.args.checked.now.statement) c.args.moment
    (read_again c.logged_form_is_the_statement.ensures.logged c.args.checked.now.statement) c.requires.short _ _ c.in-KeyExhausted.ensures.turn c.requires.room
