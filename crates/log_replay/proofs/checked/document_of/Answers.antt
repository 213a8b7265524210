use Rattle.std.proofs.Common.{arith}
use Rattle.policy_rules.specs.declared.documents.PolicyStop.TheVariants.{Cbor, BadPolicy}
use Rattle.log_replay.proofs.Documents.{is_document, no_document}
use Rattle.log_replay.proofs.checked.document_of.Goals as goal

pub returns-in-Ok-clause-value : goal.returns-in-Ok-clause-value
returns-in-Ok-clause-value c = is_document c.documents_have_one_answer.ensures.exact c.args.bytes.now c.in-Ok.policy (λ i. omega (arith, c.type_inv.bytes i)) c.in-Ok.ensures

pub returns-in-Err-Cbor-clause-value : goal.returns-in-Err-Cbor-clause-value
returns-in-Err-Cbor-clause-value c =
    no_document c.documents_have_one_answer.ensures.one c.documents_have_one_answer.ensures.exact c.args.bytes.now (Cbor c.in-Err-Cbor.field-0-0) (λ e. let bad = e in cc) (λ i. omega (arith, c.type_inv.bytes i))
    (rw c.in-Err-Cbor.field-0-is at c.in-Err-Cbor.ensures)

pub returns-in-Err-BadPolicy-clause-value : goal.returns-in-Err-BadPolicy-clause-value
returns-in-Err-BadPolicy-clause-value c =
    no_document c.documents_have_one_answer.ensures.one c.documents_have_one_answer.ensures.exact c.args.bytes.now (BadPolicy c.in-Err-BadPolicy.field-0-0) (λ e. let bad = e in cc) (λ i. omega (arith, c.type_inv.bytes i))
    (rw c.in-Err-BadPolicy.field-0-is at c.in-Err-BadPolicy.ensures)
