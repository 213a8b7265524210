use Rattle.std.specs.String.{string_bytes}
use Rattle.relying_party.specs.declared.trust.TrustStop.TheVariants.{Cbor, BadTrust}
use Rattle.shown_forms.proofs.TrustSpelled.{stopped_by, no_trust, trust_shown}
use Rattle.shown_forms.proofs.showing.show_trust.Goals as goal

pub returns-in-Ok-trust_text : goal.returns-in-Ok-trust_text
returns-in-Ok-trust_text c = trust_shown c.args.bytes.now (string_bytes c.in-Ok-trust_text.text) c.in-Ok.trust c.in-Ok.ensures c.in-Ok-trust_text.ensures

pub returns-in-Err-Cbor : goal.returns-in-Err-Cbor
returns-in-Err-Cbor c =
    no_trust c.trust_files_have_one_answer.ensures.one c.args.bytes.now (Cbor c.in-Err-Cbor._fault)
    (stopped_by c.args.bytes.now c.in-Err-Cbor.field-0 (Cbor c.in-Err-Cbor._fault) c.in-Err-Cbor.ensures c.in-Err-Cbor.field-0-is)

pub returns-in-Err-BadTrust : goal.returns-in-Err-BadTrust
returns-in-Err-BadTrust c =
    no_trust c.trust_files_have_one_answer.ensures.one c.args.bytes.now BadTrust
    (stopped_by c.args.bytes.now c.in-Err-BadTrust.field-0 BadTrust c.in-Err-BadTrust.ensures c.in-Err-BadTrust.field-0-is)
