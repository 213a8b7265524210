-- What the program answers: a status, and the bytes that it writes.
use Rattle.std.specs.Prelude.{◌≡◌, ℕ, ◌++◌, List, codes, Result, Ok, Err, String, string_bytes}
use Rattle.std.specs.declared.alloc.Global.{Global}
use Rattle.scitt_forms.specs.RefusalText.{refusal_text}
use Rattle.scitt_forms.specs.declared.stop.FormStop.{FormStop}
use Rattle.scitt_forms.specs.declared.stop.FormStop.TheVariants.{Refused, TooLong, OutOfMemory}
use Rattle.shown_forms.specs.declared.showing.ShowStop.{ShowStop}
use Rattle.shown_forms.specs.declared.showing.ShowStop.TheVariants.{NoDocument, NoForm, OutOfMemory as NoMemory}
pub use Rattle.command_line.specs.Answer.{Answer, line, done, words_refused, unread, Says}

-- refused by a written rule
abbrev pub refused : List ℕ → Answer
refused text = record { status = 1; text = line (codes "refused " ++ text) }

-- the file is longer than the limit
abbrev pub too_long : Answer
too_long = record { status = 8; text = line (codes "too long 16777216") }

-- the answer to what a form is written as
abbrev pub IsAnswer : Result (List ℕ) FormStop → Answer → Type 0
IsAnswer (Ok bytes) answer = answer ≡ done bytes
IsAnswer (Err (Refused r)) answer = answer ≡ refused (refusal_text r)
IsAnswer (Err TooLong) answer = answer ≡ refused (codes "form long")
IsAnswer (Err OutOfMemory) answer = ⊥

-- the answer to what a document is printed as
abbrev pub IsShownAs : Result (String Global) ShowStop → Answer → Type 0
IsShownAs (Ok text) answer = answer ≡ done (string_bytes text)
IsShownAs (Err NoDocument) answer = answer ≡ refused (codes "no document")
IsShownAs (Err NoForm) answer = answer ≡ refused (codes "no form")
IsShownAs (Err NoMemory) answer = ⊥
