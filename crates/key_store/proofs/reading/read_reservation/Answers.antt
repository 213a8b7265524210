use Rattle.std.proofs.Common.{◌≡◌, Some, sym, ◌∙◌}
use Rattle.key_store.specs.Records.{upto_of}
use Rattle.key_store.proofs.ListLemmas.{reserved_next}
use Rattle.key_store.proofs.reading.read_reservation.Goals as goal

pub returns-in-Some-clause-reserved : goal.returns-in-Some-clause-reserved
returns-in-Some-clause-reserved g c = λ tells.
    let reads : upto_of c.deref.result.now ≡ Some c.in-Some.upto = sym c.in_ok-upto.ensures ∙ c.in-Some.is in
    reserved_next c.args.ledger.now.records c.args.number c.deref.result.now c.in-Some.upto c.requires.within (c.deref.ensures.value ∙ c.in_ok-body.ensures.body tells) reads
