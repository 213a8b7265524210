-- No index is given twice, over every list of calls, stops and loads.
use Rattle.std.proofs.Common.{◌≡◌, ℕ, ◌+◌, ◌≤◌, inl, inr, List, [], ◌∷◌, Option, None, Some, Result, Ok, Err, true, sym, ap, ◌∙◌, subst, arith}
use Rattle.std.specs.Prelude.{IfSome}
use Rattle.key_store.specs.declared.records.KeyHead.{KeyHead}
use Rattle.key_store.specs.declared.stops.TakeStop.{TakeStop}
use Rattle.key_store.specs.declared.stops.TakeStop.TheVariants.{Exhausted, DiskFault, OutOfMemory}
use Rattle.key_store.specs.Records.{IsHead}
use Rattle.key_store.specs.Keys.{reserved_of, key_of, fits_behind, IsKeyFile, KeyStanding, IsSound, Reserves, LeftPending, Takes, LeftBy}
use Rattle.key_store.specs.Histories.{KeyEvent, takes, stops, reloaded, Occurs, Runs, given, AllFrom, Rise}
use Rattle.key_store.proofs.KeyLemmas.{key_more, reservation_fits, file_more, pending_fits, left_reserves}

-- each list that is left is a key file's, of the same key
left_key : (head : KeyHead) (S : KeyStanding) (L : List (List ℕ)) → IsSound head S → LeftBy head S L → key_of L ≡ Some head
left_key head S L sound (inl same) = ap key_of same ∙ sound.key
left_key head S L sound (inr (inl (body, pends, more))) = ap key_of more ∙ key_more S.records head body sound.key
left_key head S L sound (inr (inr (body, is, more))) = ap key_of more ∙ key_more S.records head body sound.key

left_file : (head : KeyHead) (S : KeyStanding) (L : List (List ℕ)) → IsHead head → IsSound head S → LeftBy head S L → IsKeyFile L
left_file head S L limits sound (inl same) = subst IsKeyFile (sym same) sound.file
left_file head S L limits sound (inr (inl (body, pends, more))) =
    subst IsKeyFile (sym more) (file_more S.records body sound.file (pending_fits S.records S.pending body pends sound.pending))
left_file head S L limits sound (inr (inr (body, is, more))) =
    subst IsKeyFile (sym more) (file_more S.records body sound.file (reservation_fits head S body limits sound.key is))

left_by : (head : KeyHead) (S : KeyStanding) (L : List (List ℕ)) → Reserves head S L → LeftBy head S L
left_by head S L (inl same) = inl same
left_by head S L (inr more) = inr (inr more)

none_fits : (records : List (List ℕ)) (pending : Option (List ℕ)) → pending ≡ None → IfSome pending (λ body. fits_behind records body ≡ true)
none_fits records pending e = subst (λ p. IfSome p (λ body. fits_behind records body ≡ true)) (sym e) tt

left_fits : (head : KeyHead) (S : KeyStanding) (pending : Option (List ℕ)) → IsHead head → IsSound head S → LeftPending head S pending → IfSome pending (λ body. fits_behind S.records body ≡ true)
left_fits head S pending limits sound (inl same) =
    subst (λ p. IfSome p (λ body. fits_behind S.records body ≡ true)) (sym same) sound.pending
left_fits head S pending limits sound (inr (inl none)) = none_fits S.records pending none
left_fits head S pending limits sound (inr (inr (body, is, e))) =
    subst (λ p. IfSome p (λ b. fits_behind S.records b ≡ true)) (sym e) (reservation_fits head S body limits sound.key is)

settled_sound : (head : KeyHead) (S : KeyStanding) → IsSound head S → IsSound head (record S { pending = None })
settled_sound head S sound = record { key = sound.key; file = sound.file; pending = tt; next = sound.next }

-- one event: what the file stands for stays a key file's, and the next index doesn't fall
takes_sound : (head : KeyHead) (S T : KeyStanding) (answer : Result ℕ TakeStop) → IsHead head → IsSound head S → Takes head S answer T → IsSound head T
takes_sound head S T (Ok index) limits sound (is, next, settled, within, reserves) =
    let left = left_by head S T.records reserves in
    record {
      key = left_key head S T.records sound left;
      file = left_file head S T.records limits sound left;
      pending = none_fits T.records T.pending settled;
      next = omega (arith, next, within);
    }
takes_sound head S T (Err (Exhausted next most)) limits sound (none, is, same, e) =
    subst (IsSound head) (sym e) (settled_sound head S sound)
takes_sound head S T (Err DiskFault) limits sound (records, next, pending) =
    record {
      key = ap key_of records ∙ sound.key;
      file = subst IsKeyFile (sym records) sound.file;
      pending = subst (λ r. IfSome T.pending (λ body. fits_behind r body ≡ true)) (sym records) (left_fits head S T.pending limits sound pending);
      next = omega (arith, next, sound.next, ap reserved_of records);
    }
takes_sound head S T (Err OutOfMemory) limits sound e = subst (IsSound head) (sym e) (settled_sound head S sound)

takes_next : (head : KeyHead) (S T : KeyStanding) (answer : Result ℕ TakeStop) → Takes head S answer T → S.next ≤ T.next
takes_next head S T (Ok index) (is, next, settled, within, reserves) = omega (arith, next)
takes_next head S T (Err (Exhausted next most)) (none, is, same, e) = omega (arith, ap (λ (t : KeyStanding). t.next) e)
takes_next head S T (Err DiskFault) (records, next, pending) = omega (arith, next)
takes_next head S T (Err OutOfMemory) e = omega (arith, ap (λ (t : KeyStanding). t.next) e)

reloaded_sound : (head : KeyHead) (S : KeyStanding) (L : List (List ℕ)) → IsHead head → IsSound head S → LeftBy head S L → IsSound head (reloaded L)
reloaded_sound head S L limits sound left =
    record {
      key = left_key head S L sound left;
      file = left_file head S L limits sound left;
      pending = tt;
      next = omega arith;
    }

occurs_sound : (head : KeyHead) (S T : KeyStanding) (event : KeyEvent) → IsHead head → IsSound head S → Occurs head S event T → IsSound head T
occurs_sound head S T (takes answer) limits sound occurs = takes_sound head S T answer limits sound occurs
occurs_sound head S T stops limits sound (L, left, e) = subst (IsSound head) (sym e) (reloaded_sound head S L limits sound left)

occurs_next : (head : KeyHead) (S T : KeyStanding) (event : KeyEvent) → IsHead head → IsSound head S → Occurs head S event T → S.next ≤ T.next
occurs_next head S T (takes answer) limits sound occurs = takes_next head S T answer occurs
occurs_next head S T stops limits sound (L, left, e) =
    omega (arith, left_reserves head S L limits sound left, ap (λ (t : KeyStanding). t.next) e)

-- a list of events
all_from : (least more : ℕ) (xs : List ℕ) → least ≤ more → AllFrom more xs → AllFrom least xs
all_from least more [] below are = tt
all_from least more (x ∷ xs) below are = (omega (arith, are.0), all_from least more xs below are.1)

abbrev pub Rising : ℕ → List ℕ → Type 0
Rising least xs = Rise xs × AllFrom least xs

rising_more : (head : KeyHead) (S M : KeyStanding) (event : KeyEvent) (events : List KeyEvent) → S.next ≤ M.next → Occurs head S event M → Rising M.next (given events) → Rising S.next (given (event ∷ events))
rising_more head S M (takes (Ok index)) events later occurs rising =
    ((all_from (index + 1) M.next (given events) (omega (arith, occurs.0, occurs.1)) rising.1, rising.0), (omega (arith, occurs.0), all_from S.next M.next (given events) later rising.1))
rising_more head S M (takes (Err stop)) events later occurs rising = (rising.0, all_from S.next M.next (given events) later rising.1)
rising_more head S M stops events later occurs rising = (rising.0, all_from S.next M.next (given events) later rising.1)

pub runs_rise : (head : KeyHead) (S T : KeyStanding) (events : List KeyEvent) → IsHead head → IsSound head S → Runs head S events T → Rising S.next (given events)
runs_rise head S T [] limits sound runs = (tt, tt)
runs_rise head S T (event ∷ events) limits sound (M, occurs, runs) =
    rising_more head S M event events (occurs_next head S M event limits sound occurs) occurs (runs_rise head M T events limits (occurs_sound head S M event limits sound occurs) runs)

pub runs_sound : (head : KeyHead) (S T : KeyStanding) (events : List KeyEvent) → IsHead head → IsSound head S → Runs head S events T → IsSound head T
runs_sound head S T [] limits sound runs = subst (IsSound head) (sym runs) sound
runs_sound head S T (event ∷ events) limits sound (M, occurs, runs) =
    runs_sound head M T events limits (occurs_sound head S M event limits sound occurs) runs
