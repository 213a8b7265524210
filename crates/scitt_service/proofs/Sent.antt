use denote.RattleType.{RattleType}
use denote.Param.Send.{IsSend, IsSync, sendable}
use Rattle.std.proofs.Crossing.{crosses}
use Rattle.std.proofs.MapsCrossing as maps
use Rattle.policy_rules.proofs.conditions.CondNode.TheLaws.TheKnot as conditions
use Rattle.scitt_journal.proofs.records.Records.TheLaws.TheKnot as records
use Rattle.policy_rules.specs.contracts.documents.Policy as policy
use Rattle.scitt_disk.specs.declared.device.Disk.{Ghosts}
use Rattle.scitt_journal.specs.contracts.ledger.Ledger as ledger
use Rattle.hss_keys.specs.contracts.signer.Signer as signer
use Rattle.log_replay.specs.contracts.parts.Header as header
use Rattle.log_replay.specs.contracts.state.State as state
use Rattle.registrar.specs.contracts.registrar.Registrar as registrar
use Rattle.turn_lock.proofs.lock.TurnLock.TheSendSync as lock
use Rattle.scitt_service.specs.contracts.held.Held as held
use Rattle.scitt_service.specs.contracts.service.Service as service

-- A service may be shared among threads, its disk given to one of them at a time: each large field
-- once, so that no type's shape is computed twice.

policy_field : IsSend (policy.the_field).row
policy_field = search (crosses, conditions.crosses, maps.crosses, sendable) depth 60 fits 20000

header_field : IsSend (header.the_field).row
header_field = search (crosses, maps.crosses, sendable) depth 60 fits 20000

state_field : IsSend (state.the_field).row
state_field =
    let p = policy_field in
    let h = header_field in
    search (crosses, maps.crosses, sendable) depth 60 fits 20000

ledger_field : (D : RattleType) (g : Ghosts D.Denot) → IsSend D → IsSend (ledger.the_field D g).row
ledger_field D g s = search (crosses, records.crosses, sendable) depth 60 fits 20000

signer_field : IsSend (signer.the_field).row
signer_field = search (crosses, sendable) depth 60 fits 20000

registrar_field : (D : RattleType) (g : Ghosts D.Denot) → IsSend D → IsSend (registrar.the_field D g).row
registrar_field D g s =
    let l = ledger_field D g s in
    let a = state_field in
    let k = signer_field in
    search (crosses, records.crosses, sendable) depth 60 fits 20000

held_field : (D : RattleType) (g : Ghosts D.Denot) → IsSend D → IsSend (held.the_field D g).row
held_field D g s =
    let r = registrar_field D g s in
    search (crosses, sendable) depth 60 fits 20000

pub service_shared : (D : RattleType) (g : Ghosts D.Denot) → IsSend D → IsSync (service.the_row D g)
service_shared D g s =
    let h = held_field D g s in
    search (lock.the_sync, crosses, sendable) depth 60 fits 20000
