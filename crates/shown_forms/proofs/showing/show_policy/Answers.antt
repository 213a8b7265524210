use Rattle.policy_rules.specs.declared.documents.PolicyStop.TheVariants.{Cbor, BadPolicy}
use Rattle.shown_forms.proofs.ReadBack.{stopped_by, no_policy}
use Rattle.shown_forms.proofs.showing.show_policy.Goals as goal

pub returns-in-Err-Cbor : goal.returns-in-Err-Cbor
returns-in-Err-Cbor c =
    no_policy c.documents_have_one_answer.ensures.one c.args.bytes.now (Cbor c.in-Err-Cbor._fault)
    (stopped_by c.args.bytes.now c.in-Err-Cbor.field-0 (Cbor c.in-Err-Cbor._fault) c.in-Err-Cbor.ensures c.in-Err-Cbor.field-0-is)

pub returns-in-Err-BadPolicy : goal.returns-in-Err-BadPolicy
returns-in-Err-BadPolicy c =
    no_policy c.documents_have_one_answer.ensures.one c.args.bytes.now (BadPolicy c.in-Err-BadPolicy._place)
    (stopped_by c.args.bytes.now c.in-Err-BadPolicy.field-0 (BadPolicy c.in-Err-BadPolicy._place) c.in-Err-BadPolicy.ensures c.in-Err-BadPolicy.field-0-is)
