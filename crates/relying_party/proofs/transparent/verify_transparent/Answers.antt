use Rattle.std.proofs.Common.{◌≡◌, inr}
use Rattle.relying_party.specs.declared.answers.Verdict.{Verdict}
use Rattle.relying_party.specs.Accepts.{Accepts, verdict_on}
use Rattle.relying_party.specs.Meaning.{MeansEntries}
use Rattle.relying_party.proofs.Shortness.{is_short}
use Rattle.relying_party.proofs.VerdictMeaning.{means_by, if_ok}
use Rattle.relying_party.proofs.transparent.verify_transparent.Goals as goal

pub verdict_on-requires : goal.verdict_on-requires
verdict_on-requires c = record { short = is_short c.strict_spelling_is_unique.ensures c.bare_message_is_one.ensures.spelled c.args.bytes.now c.in-Ok.statement c.in-Ok.ensures }

pub returns-in-Ok-clause-accepts : goal.returns-in-Ok-clause-accepts
returns-in-Ok-clause-accepts c =
    if_ok c.verdict_on.result (λ (v : Verdict). v ≡ verdict_on c.args.trust.now c.in-Ok.statement) (Accepts c.args.trust.now c.args.bytes.now) (λ v is. inr (c.in-Ok.statement, c.in-Ok.ensures, is)) c.verdict_on.ensures

pub returns-in-Ok-clause-means : goal.returns-in-Ok-clause-means
returns-in-Ok-clause-means c =
    if_ok c.verdict_on.result (λ (v : Verdict). v ≡ verdict_on c.args.trust.now c.in-Ok.statement) (MeansEntries c.args.bytes.now)
    (λ v is. means_by c.statements_have_one_answer.ensures.one c.accepted_receipts_mean_entries.ensures c.args.trust.now c.args.bytes.now v (inr (c.in-Ok.statement, c.in-Ok.ensures, is)))
    c.verdict_on.ensures
