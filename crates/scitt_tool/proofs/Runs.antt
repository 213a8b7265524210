-- What a run of the tool comes to where nothing outside fails.
use Rattle.std.proofs.Common.{◌≡◌, ℕ, List, [], ◌∷◌, map, Some, None, inl, inr, refl, sym, ◌∙◌, ap, subst, arith}
use Rattle.std.proofs.lemmas.List.{take_all}
use Rattle.std.specs.declared.option.Option.{Option}
use Rattle.std.specs.Io.KnownBytes.{Appends}
use Rattle.scitt_io.specs.Causes.{Rose}
use Rattle.scitt_tool.specs.Answer.{Answer, Says}
use Rattle.scitt_tool.specs.Command.{Command, command_of, files_of, files_read, limit_of}
use Rattle.scitt_tool.specs.Outcome.{Outcome}
use Rattle.scitt_tool.specs.Reads.{FileOf, TellsFiles, AllWithin, ByFiles, ReadAll, Finds}
use Rattle.scitt_tool.specs.ToolText.{CommandText, Judged}
use Rattle.scitt_tool.specs.Run.{Counts, Outside, NoneRose, JudgedOver, IsText, IsDue, Completes}

-- files within the limit are judged by their bytes
judged_by_all : (limit : ℕ) (Judged : List (List ℕ) → Outcome → Type 0) (read : List (List ℕ)) (outcome : Outcome) → AllWithin limit read → ByFiles limit Judged (map Some read) outcome → Judged read outcome
judged_by_all limit Judged [] outcome all by = by
judged_by_all limit Judged (bytes ∷ read) outcome all (inl (short, by)) = judged_by_all limit (λ more. Judged (bytes ∷ more)) read outcome all.1 by
judged_by_all limit Judged (bytes ∷ read) outcome all (inr (long, is)) = absurd (omega (arith, long, all.0))

-- the files that were found are those that were judged
found_are : (limit : ℕ) (told : Option FileOf) (names : List (List ℕ)) (contents : List (Option (List ℕ))) (read : List (List ℕ)) → (names ≡ [] → contents ≡ []) → TellsFiles told names contents → Finds limit told names read → ReadAll limit contents read
found_are limit told [] contents read none tells found = (none refl ∙ ap (map Some) (sym found), subst (AllWithin limit) (sym found) tt)
found_are limit None (name ∷ names) contents read none tells found = absurd found
found_are limit (Some file_of) (name ∷ names) contents read none tells found = (sym tells ∙ found.0, found.1)

module _ (Tells : Type 0) (outside : Outside) (words : List (List ℕ)) (command : Command) (read : List (List ℕ)) (answer : Answer)
    (is : command_of words ≡ Some command) (found : Finds (limit_of command) outside.files (files_of command) read) where
  text_judged : IsText Tells outside words answer → JudgedOver Tells outside.old outside.new outside.random command read answer
  text_judged text =
      let outcome : Outcome = record { answer = answer; key = text.after } in
      let tells : TellsFiles outside.files (files_of command) text.contents = subst (λ (o : Option Command). TellsFiles outside.files (files_read o) text.contents) is text.files in
      let none : files_of command ≡ [] → text.contents ≡ [] = subst (λ (o : Option Command). files_read o ≡ [] → text.contents ≡ []) is text.none in
      let all : ReadAll (limit_of command) text.contents read = found_are (limit_of command) outside.files (files_of command) text.contents read none tells found in
      let of_command : ByFiles (limit_of command) (Judged Tells outside.old.seen text.random command) text.contents outcome =
      subst (λ (o : Option Command). CommandText Tells outside.old.seen text.random o text.contents outcome) is text.text in
      let by : ByFiles (limit_of command) (Judged Tells outside.old.seen text.random command) (map Some read) outcome =
      subst (λ (c : List (Option (List ℕ))). ByFiles (limit_of command) (Judged Tells outside.old.seen text.random command) c outcome) all.0 of_command in
      record {
        random = text.random;
        told = text.told;
        after = text.after;
        judged = judged_by_all (limit_of command) (Judged Tells outside.old.seen text.random command) read outcome all.1 by;
        key = text.key;
      }

  due_is_judged : (before now : Counts) → NoneRose before now → IsDue Tells outside words before now answer → JudgedOver Tells outside.old outside.new outside.random command read answer
  due_is_judged before now calm due =
      let P : Type 0 = JudgedOver Tells outside.old outside.new outside.random command read answer in
      elim due.text as (λ _. P) [
        | inl text ↦ text_judged text
        | inr fault ↦ elim fault.1 as (λ _. P) [
          | inl unread ↦ elim (due.causes.unread (ap (λ (a : Answer). a.status) unread)) as (λ _. P) [ inl files ↦ absurd (calm.0 files) | inr random ↦ absurd (calm.1 random) ]
          | inr disk ↦ absurd (calm.2 (due.causes.failed (ap (λ (a : Answer). a.status) disk)))
        ]
      ]

said_whole : (answer : Answer) (old new : Option (List ℕ)) (before now status : ℕ) → ¬ Rose before now → Says answer old new before now status → (status ≡ answer.status) × Appends old new answer.text
said_whole answer old new before now status calm says =
    let P : Type 0 = (status ≡ answer.status) × Appends old new answer.text in
    elim says.ends as (λ _. P) [
      | inl whole ↦ (whole.0, subst (Appends old new) (take_all says.count answer.text (omega (arith, whole.1))) says.written)
      | inr cut ↦ absurd (calm cut.2)
    ]

pub completes : (Tells : Type 0) (outside : Outside) (words : List (List ℕ)) (before now : Counts) (old new : Option (List ℕ)) (out_before out_now status : ℕ) (answer : Answer)
    → IsDue Tells outside words before now answer → Says answer old new out_before out_now status
    → Completes Tells outside words before now old new out_before out_now status
completes Tells outside words before now old new out_before out_now status answer due says =
    λ command read is found calm kept.
    let said = said_whole answer old new out_before out_now status kept says in
    inr (answer, due_is_judged Tells outside words command read answer is found before now calm due, said.0, said.1)
