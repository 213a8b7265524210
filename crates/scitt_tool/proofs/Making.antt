-- What the making of a key comes to.
use Rattle.std.proofs.Common.{◌≡◌, ◌<◌, ◌+◌, ℕ, List, [], ◌++◌, length, take, drop, Option, Some, None, Result, Ok, Err, IfOk, IfSome, inl, inr, refl, sym, ap, ◌∙◌, subst, arith, length-append, length-drop}
use Rattle.std.specs.Prelude.{codes}
use Rattle.std.proofs.Math.Seq.{take-add}
use Rattle.std.proofs.KnownBytes.{Consumes-trans}
use Rattle.std.proofs.lemmas.List.{take-append-le, drop-append-le}
use Rattle.std.specs.Io.KnownBytes.{Consumes, IsAtEnd}
use Rattle.lms_tree.specs.declared.types.Level.{Level}
use Rattle.scitt_disk.specs.Images.{Held}
use Rattle.scitt_journal.specs.Layout.{NoLog}
use Rattle.key_store.specs.declared.records.KeyHead.{KeyHead}
use Rattle.scitt_tool.specs.declared.stops.ToolStop.{ToolStop}
use Rattle.scitt_tool.specs.Answer.{Answer, done, refused}
use Rattle.scitt_tool.specs.Keygen.{public_of, key_lines, head_from, MakesOrExists, KeygenOf}
use Rattle.scitt_tool.specs.Outcome.{Outcome, Kept, Keyed, LeavesRecords, IsOver}
use Rattle.scitt_tool.specs.Command.{Keygen}
use Rattle.scitt_tool.specs.Run.{JudgedOver}

pub made_over : (Tells : Type 0) (levels : List Level) (key random : List ℕ) (old new : Held) (head : KeyHead) (reserved : ℕ) (result : Result Answer ToolStop)
    → (Tells → NoLog key) → length random ≡ 48 → head ≡ head_from levels random → reserved ≡ 0 → IfOk result (λ answer. answer ≡ done (key_lines (public_of head)))
    → (Tells → LeavesRecords new head reserved) → IfOk result (IsOver Tells (MakesOrExists Tells levels key random) old new)
made_over Tells levels key random old new head reserved (Err stop) none enough is zero said leaves = tt
made_over Tells levels key random old new head reserved (Ok answer) none enough is zero said leaves =
    let text : answer ≡ done (key_lines (public_of (head_from levels random))) = said ∙ ap (λ (h : KeyHead). done (key_lines (public_of h))) is in
    record {
      after = Keyed (head_from levels random) 0;
      comes = inr (record { enough = omega (arith, enough); none = none; is = λ i. record { answer = text i; key = Keyed (head_from levels random) 0 } });
      key = λ tells. subst (λ (h : KeyHead). LeavesRecords new h 0) is (subst (λ (n : ℕ). LeavesRecords new head n) zero (leaves tells));
    }

-- what stands in front was taken, and n bytes behind it
pub read_on : (old mid new : Option (List ℕ)) (a c : List ℕ) (done n : ℕ) → Consumes old mid (take done a) → take done c ≡ take done a → Consumes mid new (take n (drop done c))
    → Consumes old new (take (done + n) c)
read_on old mid new a c done n taken same more = rw (take-add done n c, same) (Consumes-trans old mid new (take done a) (take n (drop done c)) taken more)

-- the random bytes that were there, with those that were taken in front
pub random_front : (old new : Option (List ℕ)) (bytes : List ℕ) → Consumes old new bytes → (random : List ℕ) × IfSome old (λ left. left ≡ random) × ((rest : List ℕ) × (random ≡ bytes ++ rest))
random_front None new bytes taken = (bytes ++ [], tt, ([], refl))
random_front (Some xs) None bytes taken = absurd taken
random_front (Some xs) (Some ys) bytes taken = (xs, refl, (ys, taken))

-- and that were all
pub random_all : (old new : Option (List ℕ)) (bytes : List ℕ) → Consumes old new bytes → IsAtEnd new → (random : List ℕ) × IfSome old (λ left. left ≡ random) × (length random ≡ length bytes)
random_all None new bytes taken ended = (bytes, tt, refl)
random_all (Some xs) None bytes taken ended = absurd taken
random_all (Some xs) (Some ys) bytes taken ended = (xs, refl, omega (arith, ap length taken, length-append bytes ys, ap length ended))

-- only the first 48 random bytes count
head_front : (levels : List Level) (bytes rest : List ℕ) → length bytes ≡ 48 → head_from levels (bytes ++ rest) ≡ head_from levels bytes
head_front levels bytes rest enough =
    let seed : take 32 (bytes ++ rest) ≡ take 32 bytes = take-append-le 32 bytes rest (omega (arith, enough)) in
    let tail : drop 32 (bytes ++ rest) ≡ drop 32 bytes ++ rest = drop-append-le 32 bytes rest (omega (arith, enough)) in
    let id : take 16 (drop 32 (bytes ++ rest)) ≡ take 16 (drop 32 bytes) = ap (take 16) tail ∙ take-append-le 16 (drop 32 bytes) rest (omega (arith, enough, length-drop 32 bytes)) in
    λ i. record { seed = seed i; id = id i; levels = levels; block = 1 }

more_random : (Tells : Type 0) (levels : List Level) (key bytes rest : List ℕ) (outcome : Outcome) → length bytes ≡ 48 → MakesOrExists Tells levels key bytes outcome → KeygenOf Tells levels key (bytes ++ rest) outcome
more_random Tells levels key bytes rest outcome enough (inl there) =
    inr (inl (record { enough = omega (arith, enough, length-append bytes rest); six = there.six; open_gate = there.open_gate; is = there.is }))
more_random Tells levels key bytes rest outcome enough (inr made) =
    let same = head_front levels bytes rest enough in
    inr (inr (record {
      enough = omega (arith, enough, length-append bytes rest);
      none = made.none;
      is = made.is ∙ ap (λ (h : KeyHead). record { answer = done (key_lines (public_of h)); key = Keyed h 0 }) (sym same);
    }))

-- what is made of the random bytes that were taken is made of all
pub judged_keygen : (Tells : Type 0) (levels : List Level) (old new : Held) (left after : Option (List ℕ)) (bytes : List ℕ) (result : Result Answer ToolStop) → Consumes left after bytes → length bytes ≡ 48
    → IfOk result (IsOver Tells (MakesOrExists Tells levels old.seen bytes) old new) → IfOk result (λ answer. JudgedOver Tells old new left (Keygen levels) [] answer)
judged_keygen Tells levels old new left after bytes (Err stop) taken enough over = tt
judged_keygen Tells levels old new left after bytes (Ok answer) taken enough over =
    let found = random_front left after bytes taken in
    let outcome : Outcome = record { answer = answer; key = over.after } in
    record {
      random = found.0;
      told = found.1;
      after = over.after;
      judged = subst (λ (random : List ℕ). KeygenOf Tells levels old.seen random outcome) (sym found.2.1) (more_random Tells levels old.seen bytes found.2.0 outcome enough over.comes);
      key = over.key;
    }

pub judged_ended : (Tells : Type 0) (levels : List Level) (old : Held) (left after : Option (List ℕ)) (bytes : List ℕ) → Consumes left after bytes → IsAtEnd after → length bytes < 48
    → (answer : Answer) → answer ≡ refused (codes "refused random ended") → JudgedOver Tells old old left (Keygen levels) [] answer
judged_ended Tells levels old left after bytes taken ended few answer is =
    let found = random_all left after bytes taken ended in
    record {
      random = found.0;
      told = found.1;
      after = Kept;
      judged = inl (record { few = omega (arith, found.2, few); is = λ i. record { answer = is i; key = Kept } });
      key = λ _. refl;
    }
