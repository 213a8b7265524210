-- What there is to answer, from each step of a run.
use Rattle.std.proofs.Common.{◌≡◌, ◌≢◌, ◌≤◌, ◌<◌, ℕ, List, length, Option, Some, None, Ok, Err, IsSome, IfOk, Result, refl, sym, ap, subst, ◌∙◌, inl, inr, arith}
use Rattle.std.specs.Global.{Vec}
use Rattle.scitt_io.specs.Causes.{Rose}
use Rattle.scitt_io.specs.declared.source.ReadStop.{ReadStop}
use Rattle.scitt_io.specs.declared.source.ReadStop.TheVariants.{TooLong}
use Rattle.write_tool.specs.Answer.{Answer, words_refused, unread, too_long}
use Rattle.write_tool.specs.Command.{Command, command_of}
use Rattle.write_tool.specs.Texts.{Answered, AnsweredTo, limit}
use Rattle.write_tool.specs.Run.{FileOf, TellsFile, ReadOf, CommandText, TextOf, IsDue}

module _ (told : Option FileOf) (words : List (List ℕ)) where
  pub due_refused : (n : ℕ) (answer : Answer) → command_of words ≡ None → answer ≡ words_refused → IsDue told words n n answer
  due_refused n answer none is =
      let text : TextOf told (command_of words) answer = subst (λ o. TextOf told o answer) (sym none) is in
      let status : answer.status ≡ 2 = ap (λ a. a.status) is in
      record { text = inl text; unread = λ e. absurd (omega (arith, status, e)); read = λ _. refl }

  module _ (command : Command) (some : command_of words ≡ Some command) where
    by_content : (content : Option (List ℕ)) (answer : Answer) → TellsFile told command.file content → AnsweredTo command.task content answer
        → TextOf told (command_of words) answer
    by_content content answer tells answered =
        let found : CommandText told command answer = record { content = content; file = tells; answered = answered } in
        subst (λ o. TextOf told o answer) (sym some) found

    pub due_answered : (before now : ℕ) (v : Vec ℕ) (answer : Answer) → ((content : Option (List ℕ)) × TellsFile told command.file content × ReadOf limit content (Ok v))
        → Answered command.task v.items answer → answer.status ≤ 1 → now ≡ before → IsDue told words before now answer
    due_answered before now v answer (content, tells, (is, within)) answered low same =
        let to : AnsweredTo command.task content answer = subst (λ o. AnsweredTo command.task o answer) (sym is) (inl (within, answered)) in
        record { text = inl (by_content content answer tells to); unread = λ e. absurd (omega (arith, low, e)); read = λ _. same }

    long_of : (stop : ReadStop) → ((content : Option (List ℕ)) × TellsFile told command.file content × ReadOf limit content (Err stop)) → stop ≡ TooLong
        → (content : Option (List ℕ)) × TellsFile told command.file content × ReadOf limit content (Err TooLong)
    long_of stop reads is =
        subst (λ (s : ReadStop). (content : Option (List ℕ)) × TellsFile told command.file content × ReadOf limit content (Err s)) is reads

    long_due : (before now : ℕ) (answer : Answer) → ((content : Option (List ℕ)) × TellsFile told command.file content × ReadOf limit content (Err TooLong))
        → answer ≡ too_long → now ≡ before → IsDue told words before now answer
    long_due before now answer (content, tells, (bytes, is, past)) long same =
        let to : AnsweredTo command.task content answer = subst (λ o. AnsweredTo command.task o answer) (sym is) (inr (past, long)) in
        let status : answer.status ≡ 8 = ap (λ a. a.status) long in
        record { text = inl (by_content content answer tells to); unread = λ e. absurd (omega (arith, status, e)); read = λ _. same }

    pub due_long : (before now : ℕ) (answer : Answer) (stop : ReadStop) → ((content : Option (List ℕ)) × TellsFile told command.file content × ReadOf limit content (Err stop))
        → stop ≡ TooLong → answer ≡ too_long → now ≡ before → IsDue told words before now answer
    due_long before now answer stop reads is long same = long_due before now answer (long_of stop reads is) long same

    pub due_unread : (before now : ℕ) (answer : Answer) → answer ≡ unread → Rose before now → IsDue told words before now answer
    due_unread before now answer is rose =
        let status : answer.status ≡ 3 = ap (λ a. a.status) is in
        let there : IsSome (command_of words) = subst (λ o. IsSome o) (sym some) refl in
        record { text = inr (there, is); unread = λ e. rose; read = λ other. absurd (other status) }

    pub due_ok : {E : Type 0} (before now : ℕ) (v : Vec ℕ) (bytes : List ℕ) (result : Result Answer E) → bytes ≡ v.items
        → ((content : Option (List ℕ)) × TellsFile told command.file content × ReadOf limit content (Ok v))
        → IfOk result (Answered command.task bytes) → IfOk result (λ answer. answer.status ≤ 1) → now ≡ before → IfOk result (IsDue told words before now)
    due_ok before now v bytes (Ok answer) same reads answered low calm =
        due_answered before now v answer reads (subst (λ b. Answered command.task b answer) same answered) low calm
    due_ok before now v bytes (Err e) same reads answered low calm = tt
