use Rattle.std.proofs.Common.{◌∙◌}
use Rattle.generator.specs.Tallies.{tally}
use Rattle.generator.proofs.Auditing.{is_clean, entries_are, not_clean}
use Rattle.generator.proofs.generating.told.Goals as goal

pub returns : goal.returns
returns c =
    let t = tally c.args.count in
    let made = is_clean c.report_laws.ensures.one t c.args.disk c.deref.result.now c.in_ok-entries.field-0 c.requires.log (c.deref.ensures.value ∙ c.into_content-content.ensures) c.in_ok-entries.ensures in
    let told = entries_are t c.in_ok-entries.field-0 _ _ _ _ c.in-Clean.is made in
    record { admitted = c.requires.admitted; denied = c.requires.denied; entries = told.0; root = told.1 }

pub unreachable-requires : goal.unreachable-requires
unreachable-requires c =
    let t = tally c.args.count in
    let made = is_clean c.report_laws.ensures.one t c.args.disk c.deref.result.now c.in_ok-entries.field-0 c.requires.log (c.deref.ensures.value ∙ c.into_content-content.ensures) c.in_ok-entries.ensures in
    not_clean t c.in_ok-entries.field-0 c.in_default.not-Clean made
