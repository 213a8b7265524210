-- What is decided before anything is written, and what is made ready for the writes.
use Rattle.std.specs.Prelude.{◌≡◌, ℕ, ◌+◌, ◌<◌, ◌≤◌, List, [], ◌∷◌, ◌++◌, length, Option, Some, IfSome}
use Rattle.statement.specs.Said.{Said}
use Rattle.log_replay.specs.Records.{entries_of, reserved_of, record_of, reserve_record}
use Rattle.log_replay.specs.Judging.{moment_after}
use Rattle.log_replay.specs.Steps.{batch_with}
use Rattle.log_replay.specs.WellMade.{WellMade}
use Rattle.log_replay.specs.Answers.{receipt_of}
use Rattle.registrar.specs.declared.deciding.Decision.{Decision}
use Rattle.registrar.specs.declared.deciding.Decision.TheVariants as decided
use Rattle.registrar.specs.declared.writing.Needed.{Needed}
use Rattle.registrar.specs.declared.writing.Batch.{Batch}
use Rattle.registrar.specs.Turns.{Standing, ruling_of, knows, denies, full, spent, goes, needed_of, ready_log}
use Rattle.registrar.specs.Writing.{body_needed, HasRoomFor}

-- the ruling, with what an answer says besides
abbrev pub Decides : Standing → Said → ℕ → Decision → Type 0
Decides S s m (decided.Known i) = ruling_of S s m ≡ Some (knows i)
Decides S s m (decided.Denied rule size moment) =
    (ruling_of S s m ≡ Some (denies rule)) × (size ≡ length (entries_of S.log)) × (moment ≡ moment_after (entries_of S.log) m)
Decides S s m (decided.Full entries bytes) = ruling_of S s m ≡ Some (full entries bytes)
Decides S s m (decided.Spent next capacity) = ruling_of S s m ≡ Some (spent next capacity)
Decides S s m (decided.Goes rule at) = (ruling_of S s m ≡ Some (goes rule)) × (at ≡ moment_after (entries_of S.log) m)

-- the Reserve that is needed, the Batch and the receipt of a statement that is admitted, for a ledger with this room
pub record IsReady (S : Standing) (s : Said) (m rule room : ℕ) (needed : Option Needed) (batch : Batch) (receipt : List ℕ) : Type 0 where
  pub needed_is : body_needed needed ≡ needed_of S
  pub needed_reads : IfSome needed (λ n. record_of n.body.items ≡ Some (reserve_record n.upto))
  pub needed_fits : IfSome needed (λ n. HasRoomFor room n.body.items)
  pub at_is : batch.at ≡ moment_after (entries_of S.log) m
  pub rule_is : batch.rule ≡ rule
  pub index_is : batch.index ≡ S.next
  pub batch_reads : record_of batch.body.items ≡ Some (batch_with batch.at batch.rule s batch.index batch.signature.items)
  pub batch_fits : HasRoomFor room batch.body.items
  pub ready : WellMade (ready_log S)
  pub well : WellMade (ready_log S ++ batch.body.items ∷ [])
  pub ahead : S.next + 1 ≤ reserved_of (ready_log S)
  pub small : S.next < 1073741824
  pub receipt_is : receipt_of (ready_log S ++ batch.body.items ∷ []) (length (entries_of S.log)) ≡ Some receipt
