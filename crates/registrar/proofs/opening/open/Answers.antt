use Rattle.std.proofs.Common.{IsTrue, length, sym, ap, ◌∙◌}
use Rattle.registrar.specs.Seen.{log_of}
use Rattle.registrar.proofs.Making.{signer_stops}
use Rattle.registrar.proofs.Walking.{found_fits}
use Rattle.registrar.proofs.opening.open.Goals as goal

pub invariant_of-result : goal.invariant_of-result
invariant_of-result g c =
    let log = log_of c.in-Ok.found.log.value in
    let others = c.read_records.ensures.others in
    found_fits c.log_laws.ensures.one_more c.growth_laws.ensures.first c.record_laws.ensures.reserve c.record_laws.ensures.index (IsTrue g.D.Disk.tells) c.in-Ok.found.state c.in-Ok-signer_of.signer c.read_records.new.ledger.records (record { log = log; next = c.reserved-next.result; pending = c.read_records.new.ledger.pending })
    c.in-Ok.ensures.stands
    c.in-Ok-signer_of.ensures.headed
    (c.reserved-next.ensures log c.in-Ok.ensures.stands)
    (ap (λ l. l.pending) others ∙ c.requires.settled)
    (c.in-Ok.ensures.counted ∙ sym (ap (λ l. length l.records) others))
    (λ tells. c.in-Ok.ensures.told tells ∙ sym (ap (λ l. l.records) others))

pub returns-in-Err-signer_of-clause-stops : goal.returns-in-Err-signer_of-clause-stops
returns-in-Err-signer_of-clause-stops g c =
    signer_stops (IsTrue g.D.Disk.tells) c.args.id c.args.seed c.args.ledger.records (log_of c.in-Ok.found.log.value) _ _ c.in-Err-signer_of.why
    c.in-Ok.ensures.told (ap g.D.Disk.fault_count c.close-in-Err-signer_of.ensures ∙ c.in-Ok.ensures.counts) c.in-Err-signer_of.ensures.stops
