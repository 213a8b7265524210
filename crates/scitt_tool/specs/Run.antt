-- A run of the tool: what it was to answer, and what it wrote.
use Rattle.std.specs.Prelude.{◌≡◌, ◌≢◌, ◌⊎◌, ◌++◌, ℕ, List, [], Some, IsSome, IfSome}
use Rattle.std.specs.declared.option.Option.{Option}
use Rattle.std.specs.Io.KnownBytes.{Appends}
use Rattle.scitt_io.specs.Causes.{Rose}
use Rattle.scitt_disk.specs.Images.{Held}
use Rattle.scitt_tool.specs.Answer.{Answer, Says, unread, disk_fault}
use Rattle.scitt_tool.specs.Command.{Command, command_of, files_of, files_read, limit_of}
use Rattle.scitt_tool.specs.Outcome.{KeyAfter, KeyIs}
use Rattle.scitt_tool.specs.Reads.{FileOf, TellsFiles, Finds}
use Rattle.scitt_tool.specs.ToolText.{Judged, ToolText}

-- the counts of faults of the folder, of the random source and of the key file's disk
pub record Counts : Type 0 where
  pub files : ℕ
  pub random : ℕ
  pub key : ℕ

-- What a run is made over: the folder's files and the random source's bytes, where they are told, and what the key file's disk holds
-- before and after.
pub record Outside : Type 0 where
  pub files : Option FileOf
  pub random : Option (List ℕ)
  pub old : Held
  pub new : Held

-- a status says how the counts went: 3 that the folder's rose or the random source's, 6 that the disk's did, and each other that they stayed
pub record HasCauses (before now : Counts) (status : ℕ) : Type 0 where
  pub unread : status ≡ 3 → Rose before.files now.files ⊎ Rose before.random now.random
  pub read : status ≢ 3 → (now.files ≡ before.files) × (now.random ≡ before.random)
  pub failed : status ≡ 6 → Rose before.key now.key
  pub whole : status ≢ 6 → now.key ≡ before.key

-- What a command comes to by the bytes of its files, with some random bytes that are those told: the key file's disk holds then what the
-- outcome says.
pub record JudgedOver (Tells : Type 0) (old new : Held) (left : Option (List ℕ)) (command : Command) (read : List (List ℕ)) (answer : Answer) : Type 0 where
  pub random : List ℕ
  pub told : IfSome left (λ bytes. bytes ≡ random)
  pub after : KeyAfter
  pub judged : Judged Tells old.seen random command read (record { answer = answer; key = after })
  pub key : Tells → KeyIs after old new

-- what words, files, the key file and random bytes call for, with some contents and random bytes that are those told
pub record IsText (Tells : Type 0) (outside : Outside) (words : List (List ℕ)) (answer : Answer) : Type 0 where
  pub contents : List (Option (List ℕ))
  pub files : TellsFiles outside.files (files_read (command_of words)) contents
  pub none : files_read (command_of words) ≡ [] → contents ≡ []
  pub random : List ℕ
  pub told : IfSome outside.random (λ bytes. bytes ≡ random)
  pub after : KeyAfter
  pub text : ToolText Tells outside.old.seen random words contents (record { answer = answer; key = after })
  pub key : Tells → KeyIs after outside.old outside.new

-- What there is to answer: what is called for, or, to a command, a fault of the outside.
pub record IsDue (Tells : Type 0) (outside : Outside) (words : List (List ℕ)) (before now : Counts) (answer : Answer) : Type 0 where
  pub text : IsText Tells outside words answer ⊎ (IsSome (command_of words) × ((answer ≡ unread) ⊎ (answer ≡ disk_fault)))
  pub causes : HasCauses before now answer.status

-- What was asked of the folder before and after, what was written before and after, the sink's count before and after, and the status:
-- what there was to answer was said. All of the command's files were asked for, in order, unless a read fault or a file that is too long
-- was to be answered.
pub record Answers (Tells : Type 0) (outside : Outside) (words : List (List ℕ)) (before now : Counts) (asked_before asked_now : List (List ℕ)) (old new : Option (List ℕ)) (out_before out_now : ℕ) (status : ℕ) : Type 0 where
  pub answer : Answer
  pub due : IsDue Tells outside words before now answer
  pub asked : answer.status ≢ 3 → answer.status ≢ 8 → asked_now ≡ asked_before ++ files_read (command_of words)
  pub says : Says answer old new out_before out_now status

-- none of the counts rose
abbrev pub NoneRose : Counts → Counts → Type 0
NoneRose before now = (¬ Rose before.files now.files) × (¬ Rose before.random now.random) × (¬ Rose before.key now.key)

-- A command whose files, if it has any, are told, each of them there and within its limit, where no count rises: the status and the text
-- are by the bytes alone (those of the files, of the key file and of the random source), unless memory is wanting.
abbrev pub Completes : Type 0 → Outside → List (List ℕ) → Counts → Counts → Option (List ℕ) → Option (List ℕ) → ℕ → ℕ → ℕ → Type 0
Completes Tells outside words before now old new out_before out_now status =
    (command : Command) (read : List (List ℕ)) → command_of words ≡ Some command → Finds (limit_of command) outside.files (files_of command) read
    → NoneRose before now → ¬ Rose out_before out_now
    → (status ≡ 5) ⊎ ((answer : Answer) × JudgedOver Tells outside.old outside.new outside.random command read answer × (status ≡ answer.status) × Appends old new answer.text)
