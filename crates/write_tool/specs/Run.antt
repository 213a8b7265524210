-- A run: what it was to answer, and what it wrote.
use Rattle.std.specs.Prelude.{◌≡◌, ◌≢◌, ◌⊎◌, ℕ, List, Some, None, IsSome}
use Rattle.std.specs.declared.option.Option.{Option}
use Rattle.scitt_io.specs.Causes.{Rose}
pub use Rattle.command_line.specs.Reads.{FileOf, TellsFile, ReadOf}
use Rattle.write_tool.specs.Answer.{Answer, Says, words_refused, unread}
use Rattle.write_tool.specs.Command.{Command, command_of}
use Rattle.write_tool.specs.Texts.{AnsweredTo}

-- what a command's file calls for
pub record CommandText (told : Option FileOf) (command : Command) (answer : Answer) : Type 0 where
  pub content : Option (List ℕ)
  pub file : TellsFile told command.file content
  pub answered : AnsweredTo command.task content answer

-- what words and files call for
abbrev pub TextOf : Option FileOf → Option Command → Answer → Type 0
TextOf told None answer = answer ≡ words_refused
TextOf told (Some command) answer = CommandText told command answer

-- What there is to answer: what is called for, or, to a command, a fault of the folder. A status 3 says that its count rose, and each
-- other that it stayed.
pub record IsDue (told : Option FileOf) (words : List (List ℕ)) (before now : ℕ) (answer : Answer) : Type 0 where
  pub text : TextOf told (command_of words) answer ⊎ (IsSome (command_of words) × (answer ≡ unread))
  pub unread : answer.status ≡ 3 → Rose before now
  pub read : answer.status ≢ 3 → now ≡ before

-- The files, the words, the folder's count before and after, what was written before and after, the sink's count before and after, and
-- the status: what there was to answer was said.
pub record Answers (told : Option FileOf) (words : List (List ℕ)) (before now : ℕ) (old new : Option (List ℕ)) (out_before out_now : ℕ) (status : ℕ) : Type 0 where
  pub answer : Answer
  pub due : IsDue told words before now answer
  pub says : Says answer old new out_before out_now status
