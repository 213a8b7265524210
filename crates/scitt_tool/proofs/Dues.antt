-- What there is to answer, from what the parts of a run answer.
use Rattle.std.proofs.Common.{◌≡◌, ◌≢◌, ◌≤◌, ◌⊎◌, ℕ, List, [], Option, Some, None, Result, Ok, Err, IfOk, IfSome, inl, inr, refl, sym, ap, ◌∙◌, map, subst, arith}
use Rattle.std.specs.Prelude.{IsSome}
use Rattle.scitt_io.specs.Causes.{Rose}
use Rattle.scitt_disk.specs.Images.{Held}
use Rattle.scitt_tool.specs.declared.stops.ToolStop.{ToolStop}
use Rattle.scitt_tool.specs.declared.stops.ToolStop.TheVariants.{ReadFault, DiskFault, OutOfMemory}
use Rattle.scitt_tool.specs.Answer.{Answer, words_refused, unread, too_long}
use Rattle.scitt_tool.specs.Command.{Command, command_of, files_of, files_read, limit_of}
use Rattle.scitt_tool.specs.Outcome.{Outcome, Kept, plain, IsOver}
use Rattle.scitt_tool.specs.Reads.{FileOf, TellsFiles, ReadAll, StopsAt, ByFiles}
use Rattle.scitt_tool.specs.ToolText.{Judged, CommandText}
use Rattle.scitt_tool.specs.Run.{Counts, Outside, HasCauses, JudgedOver, IsDue}
use Rattle.scitt_tool.specs.Stopping.{Stopped, CountsRandom, CountsKey}
use Rattle.scitt_tool.proofs.Contents.{by_all, by_stop}

-- some random bytes are those that are told
some_random : (left : Option (List ℕ)) → (random : List ℕ) × IfSome left (λ bytes. bytes ≡ random)
some_random None = ([], tt)
some_random (Some bytes) = (bytes, refl)

-- a command that uses neither the key file nor random bytes
pub plain_over : (Tells : Type 0) (held : Held) (left : Option (List ℕ)) (command : Command) (read : List (List ℕ)) (answer : Answer)
    → ((key random : List ℕ) → Judged Tells key random command read (record { answer = answer; key = Kept })) → JudgedOver Tells held held left command read answer
plain_over Tells held left command read answer judged =
    let found = some_random left in
    record { random = found.0; told = found.1; after = Kept; judged = judged held.seen found.0; key = λ _. refl }

-- a command whose outcome is by the key file and its files alone
pub over_judged : (Tells : Type 0) (old new : Held) (left : Option (List ℕ)) (command : Command) (read : List (List ℕ)) (Of : Outcome → Type 0) (result : Result Answer ToolStop)
    → IfOk result (IsOver Tells Of old new) → ((random : List ℕ) (outcome : Outcome) → Of outcome → Judged Tells old.seen random command read outcome) → IfOk result (JudgedOver Tells old new left command read)
over_judged Tells old new left command read Of (Err stop) over judged = tt
over_judged Tells old new left command read Of (Ok answer) over judged =
    let found = some_random left in
    record { random = found.0; told = found.1; after = over.after; judged = judged found.0 (record { answer = answer; key = over.after }) over.comes; key = over.key }

calm : (before now : Counts) (status : ℕ) → now.files ≡ before.files → now.random ≡ before.random → now.key ≡ before.key → status ≢ 3 → status ≢ 6 → HasCauses before now status
calm before now status files random key three six =
    record { unread = λ e. absurd (three e); read = λ _. (files, random); failed = λ e. absurd (six e); whole = λ _. key }

no_files : (told : Option FileOf) → TellsFiles told [] []
no_files None = tt
no_files (Some file_of) = refl

-- the words are no command
pub due_refused : (Tells : Type 0) (outside : Outside) (words : List (List ℕ)) (before now : Counts) (answer : Answer) → command_of words ≡ None → outside.new ≡ outside.old
    → now.files ≡ before.files → now.random ≡ before.random → now.key ≡ before.key → answer ≡ words_refused → IsDue Tells outside words before now answer
due_refused Tells outside words before now answer none held files random key is =
    let found = some_random outside.random in
    let two : answer.status ≡ 2 = ap (λ (a : Answer). a.status) is in
    record {
      text = inl (record {
        contents = [];
        files = subst (λ (o : Option Command). TellsFiles outside.files (files_read o) []) (sym none) (no_files outside.files);
        none = λ _. refl;
        random = found.0;
        told = found.1;
        after = Kept;
        text = subst (λ (o : Option Command). CommandText Tells outside.old.seen found.0 o [] (record { answer = answer; key = Kept })) (sym none) (λ i. record { answer = is i; key = Kept });
        key = λ _. ap (λ (h : Held). h.seen) held;
      });
      causes = calm before now answer.status files random key (λ e. absurd (omega (arith, e, two))) (λ e. absurd (omega (arith, e, two)));
    }

-- a file is longer than its limit
pub due_too_long : (Tells : Type 0) (outside : Outside) (words : List (List ℕ)) (command : Command) (contents : List (Option (List ℕ))) (before now : Counts) (answer : Answer) → command_of words ≡ Some command
    → TellsFiles outside.files (files_of command) contents → files_of command ≢ [] → StopsAt (limit_of command) contents → outside.new ≡ outside.old → now.files ≡ before.files → now.random ≡ before.random → now.key ≡ before.key → answer ≡ too_long (limit_of command)
    → IsDue Tells outside words before now answer
due_too_long Tells outside words command contents before now answer some told there stop held files random key is =
    let found = some_random outside.random in
    let eight : answer.status ≡ 8 = ap (λ (a : Answer). a.status) is in
    let long : plain (too_long (limit_of command)) ≡ plain answer = ap plain (sym is) in
    record {
      text = inl (record {
        contents = contents;
        files = subst (λ (o : Option Command). TellsFiles outside.files (files_read o) contents) (sym some) told;
        none = subst (λ (o : Option Command). files_read o ≡ [] → contents ≡ []) (sym some) (λ empty. absurd (there empty));
        random = found.0;
        told = found.1;
        after = Kept;
        text = subst (λ (o : Option Command). CommandText Tells outside.old.seen found.0 o contents (plain answer)) (sym some) (subst (ByFiles (limit_of command) (Judged Tells outside.old.seen found.0 command) contents) long (by_stop (limit_of command) (Judged Tells outside.old.seen found.0 command) contents stop));
        key = λ _. ap (λ (h : Held). h.seen) held;
      });
      causes = calm before now answer.status files random key (λ e. absurd (omega (arith, e, eight))) (λ e. absurd (omega (arith, e, eight)));
    }

module _ (Tells : Type 0) (outside : Outside) (words : List (List ℕ)) (command : Command) (before now : Counts) (some : command_of words ≡ Some command) where
  is_some_command : IsSome (command_of words)
  is_some_command = subst (λ (o : Option Command). IsSome o) (sym some) refl

  -- it was judged by the bytes of its files
  pub due_ok : (contents : List (Option (List ℕ))) (read : List (List ℕ)) (answer : Answer) → TellsFiles outside.files (files_of command) contents → (files_of command ≡ [] → read ≡ []) → ReadAll (limit_of command) contents read
      → JudgedOver Tells outside.old outside.new outside.random command read answer → (answer.status ≤ 1) ⊎ (answer.status ≡ 7)
      → now.files ≡ before.files → now.random ≡ before.random → now.key ≡ before.key → IsDue Tells outside words before now answer
  due_ok contents read answer told none all over status files random key =
      let outcome : Outcome = record { answer = answer; key = over.after } in
      let text = by_all (limit_of command) (Judged Tells outside.old.seen over.random command) read outcome all.1 over.judged in
      let three : answer.status ≢ 3 = λ e. elim status as (λ _. ⊥) [ inl low ↦ absurd (omega (arith, e, low)) | inr high ↦ absurd (omega (arith, e, high)) ] in
      let six : answer.status ≢ 6 = λ e. elim status as (λ _. ⊥) [ inl low ↦ absurd (omega (arith, e, low)) | inr high ↦ absurd (omega (arith, e, high)) ] in
      record {
        text = inl (record {
          contents = contents;
          files = subst (λ (o : Option Command). TellsFiles outside.files (files_read o) contents) (sym some) told;
          none = subst (λ (o : Option Command). files_read o ≡ [] → contents ≡ []) (sym some) (λ empty. all.0 ∙ ap (map Some) (none empty));
          random = over.random;
          told = over.told;
          after = over.after;
          text = subst (λ (o : Option Command). CommandText Tells outside.old.seen over.random o contents outcome) (sym some) (subst (λ (c : List (Option (List ℕ))). ByFiles (limit_of command) (Judged Tells outside.old.seen over.random command) c outcome) (sym all.0) text);
          key = over.key;
        });
        causes = calm before now answer.status files random key three six;
      }

  -- the folder refused a read
  pub due_unread : (answer : Answer) → answer ≡ unread → Rose before.files now.files → now.key ≡ before.key → IsDue Tells outside words before now answer
  due_unread answer is rose key =
      let three : answer.status ≡ 3 = ap (λ (a : Answer). a.status) is in
      record {
        text = inr (is_some_command, inl is);
        causes = record { unread = λ _. inl rose; read = λ other. absurd (other three); failed = λ e. absurd (omega (arith, e, three)); whole = λ _. key };
      }

  pub due_judged : {E : Type 0} (contents : List (Option (List ℕ))) (read : List (List ℕ)) (judged : Result Answer ToolStop) (result : Result Answer E) → TellsFiles outside.files (files_of command) contents → (files_of command ≡ [] → read ≡ []) → ReadAll (limit_of command) contents read
      → IfOk judged (JudgedOver Tells outside.old outside.new outside.random command read) → IfOk judged (λ answer. (answer.status ≤ 1) ⊎ (answer.status ≡ 7))
      → now.files ≡ before.files → CountsRandom before.random now.random judged → CountsKey before.key now.key judged → Stopped judged result → IfOk result (IsDue Tells outside words before now)
  due_judged {E = E} contents read (Ok answer) result told none all over status files random key stopped =
      subst (λ (r : Result Answer E). IfOk r (IsDue Tells outside words before now)) (sym stopped) (due_ok contents read answer told none all over status files random key)
  due_judged {E = E} contents read (Err ReadFault) result told none all over status files random key stopped =
      subst (λ (r : Result Answer E). IfOk r (IsDue Tells outside words before now)) (sym stopped) (record {
        text = inr (is_some_command, inl refl);
        causes = record { unread = λ _. inr random; read = λ other. absurd (other refl); failed = λ e. absurd (omega (arith, e)); whole = λ _. key };
      })
  due_judged {E = E} contents read (Err DiskFault) result told none all over status files random key stopped =
      subst (λ (r : Result Answer E). IfOk r (IsDue Tells outside words before now)) (sym stopped) (record {
        text = inr (is_some_command, inr refl);
        causes = record { unread = λ e. absurd (omega (arith, e)); read = λ _. (files, random); failed = λ _. key; whole = λ other. absurd (other refl) };
      })
  due_judged contents read (Err OutOfMemory) (Ok answer) told none all over status files random key stopped = absurd stopped
  due_judged contents read (Err OutOfMemory) (Err e) told none all over status files random key stopped = tt
