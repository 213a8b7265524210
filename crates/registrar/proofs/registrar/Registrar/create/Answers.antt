use Rattle.std.proofs.Common.{ℕ, IsTrue, List, [], ◌∷◌, ◌++◌, refl, sym, ap, ◌∙◌, subst}
use Rattle.scitt_disk.specs.Images.{CrashLeaves}
use Rattle.scitt_disk.specs.Changes.{after_sync}
use Rattle.scitt_journal.specs.Layout.{OneOf}
use Rattle.log_replay.specs.Records.{Log}
use Rattle.registrar.specs.Seen.{log_of}
use Rattle.registrar.specs.Opening.{header_with}
use Rattle.registrar.proofs.Making.{settled_fits, no_memory, ledger_stops, never_params, memory_was}
use Rattle.registrar.proofs.registrar.Registrar.create.Goals as goal

pub returns-then-not-is_within_limits-clause-stops : goal.returns-then-not-is_within_limits-clause-stops
returns-then-not-is_within_limits-clause-stops g c = (sym (c.is_within_limits.ensures c.args.id c.args.seed) ∙ c.if-not-is_within_limits.true, refl)

pub begin-requires : goal.begin-requires
begin-requires g c = sym (c.is_within_limits.ensures c.args.id c.args.seed) ∙ c.if-not-is_within_limits.false

pub returns-in-Err-clause-stops : goal.returns-in-Err-clause-stops
returns-in-Err-clause-stops g c =
    no_memory (IsTrue g.D.Disk.tells) (header_with c.args.params c.args.id c.args.seed) _ _ c.in-Err.why (sym (c.is_within_limits.ensures c.args.id c.args.seed) ∙ c.if-not-is_within_limits.false) c.in-Err.ensures.memory

pub invariant_of-result : goal.invariant_of-result
invariant_of-result g c =
    settled_fits (IsTrue g.D.Disk.tells) c.in-Ok.begun.state c.in-Ok.begun.signer c.in-Ok-create.ledger.records (log_of c.with_record.result.value) c.in-Ok-create.ledger.pending c.args.params c.args.id c.args.seed c.in-Ok.begun.body.items
    c.in-Ok.ensures.state c.in-Ok.ensures.reads c.in-Ok.ensures.signer c.in-Ok-create.ensures.created (c.with_record.ensures ∙ ap (λ (L : Log). L ++ c.in-Ok.begun.body.items ∷ []) c.no_records.ensures) c.in-Ok-create.ensures.settled

pub returns-in-Ok-create-clause-limits : goal.returns-in-Ok-create-clause-limits
returns-in-Ok-create-clause-limits g c = sym (c.is_within_limits.ensures c.args.id c.args.seed) ∙ c.if-not-is_within_limits.false

pub returns-clause-stops : goal.returns-clause-stops
returns-clause-stops g c =
    ledger_stops (IsTrue g.D.Disk.tells) (header_with c.args.params c.args.id c.args.seed) _ _ _ c.in-Err-create.refused.why c.made_stop.result (sym (c.is_within_limits.ensures c.args.id c.args.seed) ∙ c.if-not-is_within_limits.false) c.made_stop.ensures c.in-Err-create.ensures.stops

pub returns-clause-stopped : goal.returns-clause-stopped
returns-clause-stopped g c = λ tells none later.
    subst (λ (b : List ℕ). CrashLeaves (OneOf [] b) (after_sync (g.D.Disk.held c.args.disk)) (g.D.Disk.held c.in-Err-create.refused.disk)) c.in-Ok.ensures.body (c.in-Err-create.ensures.stopped tells none later)

pub returns-clause-params : goal.returns-clause-params
returns-clause-params g c = λ is. absurd (never_params c.in-Err-create.refused.why (sym c.made_stop.ensures ∙ is))

pub returns-clause-memory : goal.returns-clause-memory
returns-clause-memory g c = λ is. c.in-Err-create.ensures.memory (memory_was c.in-Err-create.refused.why (sym c.made_stop.ensures ∙ is))
