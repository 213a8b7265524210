-- What a registrar keeps, and what a crash leaves of it.
use Rattle.std.specs.Prelude.{◌≡◌, ℕ, ◌≤◌, ◌⊎◌, List, [], ◌∷◌, Option, Some, length}
use Rattle.scitt_io.specs.Causes.{Rose}
use Rattle.scitt_journal.specs.Layout.{Recovers}
use Rattle.hss_keys.specs.Signers.{SignerKey}
use Rattle.hss_keys.specs.Signing.{hss_public}
use Rattle.statement.specs.Said.{Said}
use Rattle.policy_rules.specs.declared.facts.Facts.{Facts}
use Rattle.policy_rules.specs.declared.documents.Policy.{Policy}
use Rattle.log_replay.specs.declared.state.State.{State}
use Rattle.log_replay.specs.declared.checked.Checked.{Checked}
use Rattle.log_replay.specs.declared.parts.Header.{Header}
use Rattle.log_replay.specs.Records.{Log, header_of, reserved_of, used_of}
use Rattle.log_replay.specs.StateSeen.{StandsFor}
use Rattle.log_replay.specs.WellMade.{WellMade}
use Rattle.registrar.specs.declared.words.Outcome.{Outcome}
use Rattle.registrar.specs.declared.words.Outcome.TheVariants as answer
use Rattle.registrar.specs.Turns.{Standing, IsSound, ruling_of, goes, new_entry}
use Rattle.registrar.specs.Histories.{BetweenCalls, InsideCall}

-- what a state has room for: an entry with these facts, and the document that it puts in force
pub record Room : Type 0 where
  pub facts : Option Facts
  pub document : Option Policy

abbrev pub room_in : State → Room
room_in s = record { facts = s.tables.room; document = s.room }

abbrev pub IsRoomFor : Room → Checked → Type 0
IsRoomFor room c = (room.facts ≡ Some c.facts) × (room.document ≡ c.document)

-- What a caller sees of a registrar: its disk, what it stands for, the length of the longest body that may be written, how many
-- records may be, and what its state has room for.
pub record Registered (D : Type 0) : Type 0 where
  pub disk : D
  pub standing : Standing
  pub room : ℕ
  pub places : ℕ
  pub entry : Room

-- the log's header names the signer's key and levels
pub record IsHeaded (signer : SignerKey) (R : Log) : Type 0 where
  pub header : Header
  pub first : header_of R ≡ Some header
  pub key : header.key ≡ hss_public signer.levels signer.id signer.seed
  pub levels : header.levels ≡ signer.levels

-- The state is that of the log, which is sound and has the signer's header, and the next index is within the reservation and
-- above those used. The records on the disk are as many, and where the disk tells they are the log.
pub record Fits (Tells : Type 0) (kept : State) (signer : SignerKey) (records : Log) (S : Standing) : Type 0 where
  pub state : StandsFor kept S.log
  pub headed : IsHeaded signer S.log
  pub sound : IsSound S
  pub ahead : S.next ≤ reserved_of S.log
  pub above : used_of S.log ≤ S.next
  pub counted : length records ≡ length S.log
  pub told : Tells → records ≡ S.log

-- what an image recovers, where a crash comes between two calls
abbrev pub Between : Standing → List ℕ → Type 0
Between S image = (L : Log) × BetweenCalls S L × Recovers image L

-- and where it comes inside a call that may write these entries: a list that is well made
abbrev pub Inside : Standing → List (List ℕ) → List ℕ → Type 0
Inside S entries image = (L : Log) × InsideCall S entries L × WellMade L × Recovers image L

-- either of two logs is recovered
abbrev pub Either : Log → Log → List ℕ → Type 0
Either R T image = Recovers image R ⊎ Recovers image T

-- inside a registration: what an image recovers between two calls, or, where the statement is admitted, what the writes leave
abbrev pub Within : Standing → Said → ℕ → List ℕ → Type 0
Within S s m image = Between S image ⊎ ((rule : ℕ) × (ruling_of S s m ≡ Some (goes rule)) × Inside S (new_entry S s m rule ∷ []) image)

-- the same by the answer: one that writes nothing leaves what a crash between two calls leaves
abbrev pub Leaves : Outcome → Standing → Said → ℕ → List ℕ → Type 0
Leaves answer.DiskFault S s m image = Within S s m image
Leaves (answer.Admitted i receipt) S s m image = Within S s m image
Leaves _ S s m image = Between S image

-- the disk's count of faults before and after a registration: it rose where a fault is answered, and else it stayed
abbrev pub IsFaultOf : ℕ → ℕ → Outcome → Type 0
IsFaultOf before now answer.DiskFault = Rose before now
IsFaultOf before now _ = now ≡ before
