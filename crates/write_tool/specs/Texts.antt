-- What a command answers to the bytes of its file.
use Rattle.std.specs.Prelude.{◌≡◌, ◌<◌, ◌≤◌, ◌⊎◌, ℕ, List, length, Option, Some, None, Result, Ok, Err, String}
use Rattle.std.specs.declared.alloc.Global.{Global}
use Rattle.std.specs.Str.{IsUtf8}
use Rattle.scitt_forms.specs.declared.refusal.Word.TheVariants.{Form}
use Rattle.scitt_forms.specs.declared.refusal.Why.TheVariants.{Toml}
use Rattle.scitt_forms.specs.declared.stop.FormStop.{FormStop}
use Rattle.scitt_forms.specs.declared.stop.FormStop.TheVariants.{Refused}
use Rattle.scitt_forms.specs.Refusals.{refusal}
use Rattle.scitt_forms.specs.Fields.{form}
use Rattle.scitt_forms.specs.Writing.{WritesPolicy}
use Rattle.shown_forms.specs.declared.showing.ShowStop.{ShowStop}
use Rattle.shown_forms.specs.Showing.{ShowsDocument}
use Rattle.write_params.specs.WritesParams.{WritesParams}
use Rattle.write_trust.specs.WritesTrust.{WritesTrust}
use Rattle.write_tool.specs.declared.command.Kind.{Kind}
use Rattle.write_tool.specs.declared.command.Kind.TheVariants.{Policy, Params, Trust}
use Rattle.write_tool.specs.declared.command.Task.{Task}
use Rattle.write_tool.specs.declared.command.Task.TheVariants.{Write, Show}
use Rattle.write_tool.specs.Answer.{Answer, IsAnswer, IsShownAs, unread, too_long}

-- what a form of each kind is written as
abbrev pub Written : Kind → List ℕ → Result (List ℕ) FormStop → Type 0
Written Policy text result = WritesPolicy text result
Written Params text result = WritesParams text result
Written Trust text result = WritesTrust text result

-- the bytes of a file are a text, which is UTF-8 (TOML 1.0), or the form is refused
abbrev pub WrittenOf : Kind → List ℕ → Result (List ℕ) FormStop → Type 0
WrittenOf kind bytes result =
    (IsUtf8 bytes × Written kind bytes result) ⊎ ((¬ IsUtf8 bytes) × (result ≡ Err (Refused (refusal form Form Toml))))

-- the answer to a form's bytes
pub record IsWritten (kind : Kind) (bytes : List ℕ) (answer : Answer) : Type 0 where
  pub result : Result (List ℕ) FormStop
  pub written : WrittenOf kind bytes result
  pub is : IsAnswer result answer

-- the answer to a document's bytes
pub record IsShown (bytes : List ℕ) (answer : Answer) : Type 0 where
  pub result : Result (String Global) ShowStop
  pub shows : ShowsDocument bytes result
  pub is : IsShownAs result answer

-- the answer to a file's bytes
abbrev pub Answered : Task → List ℕ → Answer → Type 0
Answered (Write kind) bytes answer = IsWritten kind bytes answer
Answered Show bytes answer = IsShown bytes answer

-- the longest file, in bytes
abbrev pub limit : ℕ
limit = 16777216

-- the answer to a file's content: a missing one can't be read, and one that is longer than the limit ends it
abbrev pub AnsweredTo : Task → Option (List ℕ) → Answer → Type 0
AnsweredTo task None answer = answer ≡ unread
AnsweredTo task (Some bytes) answer = ((length bytes ≤ limit) × Answered task bytes answer) ⊎ ((limit < length bytes) × (answer ≡ too_long))
