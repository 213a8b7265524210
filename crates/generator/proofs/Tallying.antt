-- Tallies, and the logs that hold them.
use Rattle.std.proofs.Common.{◌≡◌, ◌≢◌, ℕ, zero, suc, ◌+◌, ◌*◌, ◌<◌, ◌≤◌, List, [], ◌∷◌, ◌++◌, ◌==◌, nat_lt, Bool, true, false, Option, Some, None, Result, length, refl, sym, ap, ◌∙◌, subst, arith, add-one, length-append}
use Rattle.std.specs.Prelude.{Ok, Err, IfOk, OnOk, option_map}
use Rattle.std.proofs.lemmas.Bool.{le-ltb, ne_eqb}
use Rattle.std.proofs.lemmas.List.Sums.{sum_by_push}
use Rattle.hss_keys.specs.Levels.{capacity}
use Rattle.statement.specs.Said.{Said, said_of, logged_statement}
use Rattle.log_replay.specs.declared.checked.Checked.{Checked}
use Rattle.log_replay.specs.declared.words.Judgement.{Judgement}
use Rattle.log_replay.specs.declared.words.Judgement.TheVariants.{Known, Admit, Deny}
use Rattle.log_replay.specs.Records.{Entry, header_of, entries_of, leaves_of, logged_bytes}
use Rattle.log_replay.specs.Judging.{judge, moment_after}
use Rattle.log_replay.specs.Spelling.{entry_bytes}
use Rattle.log_replay.specs.WellMade.{most_logged_bytes}
use Rattle.log_replay.proofs.LoggedAgain.{logged_says}
use Rattle.registrar.specs.declared.words.Outcome.TheVariants as answer
use Rattle.registrar.specs.Turns.{Standing, IsSound, Settles, Adds, Turn, Ruling, knows, denies, full, spent, goes, ruling_of, bytes_with, new_entry, register_call, registered}
use Rattle.scitt_draft.specs.Named.{service_levels}
use Rattle.scitt_draft.specs.Stated.{policy_statement, policy_moment, statement, moment_of}
use Rattle.generator.specs.Tallies.{Tally, Holds, HasRoom, Verdicts, Goes, Registers, header, judged, with_said, with_bytes, nothing, uncounted, tally, longest}
use Rattle.generator.proofs.Rulings.{Roomy, follows}
use Rattle.generator.proofs.Adding.{GrowthLaws, Added, added}

-- ---- how many entries there are

grows_judged : (t : Tally) (s : Said) (m : ℕ) (j : Judgement) → length (judged t s m j).entries ≤ length t.entries + 1
grows_judged t s m (Known i) = omega arith
grows_judged t s m (Deny rule) = omega arith
grows_judged t s m (Admit rule) =
    let e : Entry = record { at = moment_after t.entries m; rule = rule; statement = s } in
    omega (arith, length-append t.entries (e ∷ []))

grows_said : (t : Tally) (m : ℕ) (o : Option Said) → length (with_said t m o).entries ≤ length t.entries + 1
grows_said t m None = omega arith
grows_said t m (Some s) = grows_judged t s m (judge header t.entries s m)

grows : (t : Tally) (bytes : List ℕ) (m : ℕ) → length (with_bytes t bytes m).entries ≤ length t.entries + 1
unfolding with_bytes
grows t bytes m = grows_said t m (logged_statement bytes)

pub few : (n : ℕ) → length (tally n).entries ≤ n + 1
unfolding tally
few zero = grows nothing policy_statement policy_moment
few (suc j) =
    let before = few j in
    let more = grows (tally j) (statement j) (moment_of j) in
    omega (arith, before, more)

-- ---- from one tally to the next

pub tally_next : (j : ℕ) → tally (j + 1) ≡ with_bytes (tally j) (statement j) (moment_of j)
unfolding tally
tally_next j = ap tally (add-one j)

uncounted_holds : (t : Tally) (S : Standing) → Holds t S → Holds (uncounted t) S
uncounted_holds t S h = record {
  sound = h.sound;
  headed = h.headed;
  entries = h.entries;
  leaves = h.leaves;
  next = h.next;
  pending = h.pending;
  bytes = h.bytes;
}

pub first_holds : (S : Standing) → Holds (with_bytes nothing policy_statement policy_moment) S → Holds (tally 0) S
unfolding tally
first_holds S h = uncounted_holds (with_bytes nothing policy_statement policy_moment) S h

pub none_counted : ((tally 0).admitted ≡ 0) × ((tally 0).denied ≡ 0)
unfolding tally
none_counted = (refl, refl)

-- ---- a log that holds a tally of few entries has room

most_signed : capacity service_levels ≡ 32768
unfolding capacity
most_signed = refl

pub roomy : (t : Tally) (S : Standing) (s : Said) → Holds t S → length t.entries ≤ 2001 → length s.logged ≤ longest → Roomy S header s
unfolding header
roomy t S s h few short =
    let same = ap length h.entries in
    let bytes = ap logged_bytes h.entries in
    let had = h.bytes in
    let next = h.next in
    let number : length (entries_of S.log) ≡ 4096 → ⊥ = λ e. omega (arith, e, same, few) in
    let most : bytes_with S s ≤ most_logged_bytes = omega (arith, bytes, had, short, few) in
    let left : S.next ≡ capacity service_levels → ⊥ = λ e. omega (arith, e, next, few, most_signed) in
    record {
      headed = h.headed;
      entries = ne_eqb (length (entries_of S.log)) 4096 number;
      bytes = le-ltb most_logged_bytes (bytes_with S s) most;
      left = ne_eqb S.next (capacity service_levels) left;
    }

-- ---- what a registration leaves

turned : (t u : Tally) (bytes : List ℕ) (m : ℕ) (verdict : Option Bool) (new : Standing) → with_bytes t bytes m ≡ u → Holds u new → Verdicts t verdict u → Goes t bytes m verdict new
turned t u bytes m verdict new e holds says = record {
  holds = subst (λ (x : Tally). Holds x new) (sym e) holds;
  counts = subst (λ (x : Tally). Verdicts t verdict x) (sym e) says;
}

with_is : (t : Tally) (s : Said) (m : ℕ) (j : Judgement) → logged_statement s.logged ≡ Some s → judge header t.entries s m ≡ j → with_bytes t s.logged m ≡ judged t s m j
unfolding with_bytes
with_is t s m j reads is = ap (with_said t m) reads ∙ ap (judged t s m) is

by_tally : (t : Tally) (S : Standing) (s : Said) (m : ℕ) (j : Judgement) → Holds t S → judge header (entries_of S.log) s m ≡ j → judge header t.entries s m ≡ j
by_tally t S s m j h is = ap (λ (E : List Entry). judge header E s m) (sym h.entries) ∙ is

settled : (t u : Tally) (old new : Standing) → u.entries ≡ t.entries → u.leaves ≡ t.leaves → Settles old new → IsSound new → Holds t old → Holds u new
settled t u old new entries leaves same sound h =
    let count = ap length entries in
    let logged = ap logged_bytes entries in
    let had = h.bytes in
    record {
      sound = sound;
      headed = ap header_of same.log ∙ h.headed;
      entries = ap entries_of same.log ∙ h.entries ∙ sym entries;
      leaves = ap leaves_of same.log ∙ h.leaves ∙ sym leaves;
      next = same.next ∙ h.next ∙ sym count;
      pending = same.pending;
      bytes = omega (arith, count, logged, had);
    }

entry_at : List Entry → ℕ → ℕ → Said → Entry
entry_at E m rule s = record { at = moment_after E m; rule = rule; statement = s }

holds_added : (t : Tally) (old new : Standing) (s : Said) (m rule : ℕ) → Holds t old → length s.logged ≤ longest
    → Added old.log new.log header (record { at = moment_after (entries_of old.log) m; rule = rule; statement = s }) (new_entry old s m rule)
    → new.next ≡ old.next + 1 → new.pending ≡ None → IsSound new → Holds (judged t s m (Admit rule)) new
unfolding entry_at
holds_added t old new s m rule h short more next pending sound =
    let e = entry_at t.entries m rule s in
    let count = length-append t.entries (e ∷ []) in
    let bytes = sum_by_push (λ (x : Entry). length x.statement.logged) t.entries e in
    let had = h.bytes in
    let was = h.next in
    record {
      sound = sound;
      headed = more.headed;
      entries = more.entries ∙ ap (λ (E : List Entry). E ++ entry_at E m rule s ∷ []) h.entries;
      leaves = more.leaves ∙ ap (λ (L : List (List ℕ)). L ++ new_entry old s m rule ∷ []) h.leaves ∙ ap (λ (E : List Entry). t.leaves ++ entry_bytes (moment_after E m) rule s.logged ∷ []) h.entries;
      next = omega (arith, next, was, count);
      pending = pending;
      bytes = omega (arith, bytes, count, had, short);
    }

module _ (laws : GrowthLaws) (Tells : Type 0) (old new : Standing) (s : Said) (m : ℕ) (reads : logged_statement s.logged ≡ Some s) (short : length s.logged ≤ longest) where
  pub admitted : (i : ℕ) (receipt : List ℕ) → Turn Tells old (register_call s m) (registered (answer.Admitted i receipt)) new → Registers old s.logged m (Some true) new
  admitted i receipt turn t h few =
      let does = turn.turns in
      let rule = does.0 in
      let is = by_tally t old s m (Admit rule) h (follows old header s m (goes rule) (roomy t old s h few short) does.1) in
      let adds = does.2 in
      let more = added laws header old new s m rule h.headed reads adds turn.after.log in
      turned t (judged t s m (Admit rule)) s.logged m (Some true) new (with_is t s m (Admit rule) reads is)
      (holds_added t old new s m rule h short more adds.next adds.pending turn.after) (refl, refl)

  pub denied : (rule size moment : ℕ) → Turn Tells old (register_call s m) (registered (answer.Denied rule size moment)) new → Registers old s.logged m (Some false) new
  denied rule size moment turn t h few =
      let does = turn.turns in
      let is = by_tally t old s m (Deny rule) h (follows old header s m (denies rule) (roomy t old s h few short) does.1) in
      turned t (judged t s m (Deny rule)) s.logged m (Some false) new (with_is t s m (Deny rule) reads is)
      (settled t (judged t s m (Deny rule)) old new refl refl does.0 turn.after h) (refl, refl)

  pub known : (i : ℕ) (receipt : List ℕ) → Turn Tells old (register_call s m) (registered (answer.Known i receipt)) new → Registers old s.logged m None new
  known i receipt turn t h few =
      let does = turn.turns in
      let is = by_tally t old s m (Known i) h (follows old header s m (knows i) (roomy t old s h few short) does.1) in
      turned t (judged t s m (Known i)) s.logged m None new (with_is t s m (Known i) reads is)
      (settled t t old new refl refl does.0 turn.after h) (refl, refl)

  pub never_full : (entries bytes : ℕ) → Turn Tells old (register_call s m) (registered (answer.LogFull entries bytes)) new → HasRoom old → ⊥
  never_full entries bytes turn room = follows old header s m (full entries bytes) (roomy room.0 old s room.1 room.2 short) turn.turns.1

  pub never_spent : (next cap : ℕ) → Turn Tells old (register_call s m) (registered (answer.KeyExhausted next cap)) new → HasRoom old → ⊥
  never_spent next cap turn room = follows old header s m (spent next cap) (roomy room.0 old s room.1 room.2 short) turn.turns.1

-- what was read of bytes
pub some_said : (o : Option Checked) (c : Checked) (bytes : List ℕ) → o ≡ Some c → option_map (λ x. said_of x.statement) o ≡ logged_statement bytes → Some (said_of c.statement) ≡ logged_statement bytes
some_said o c bytes is e = ap (option_map (λ (x : Checked). said_of x.statement)) (sym is) ∙ e

pub none_said : (o : Option Checked) (bytes : List ℕ) → o ≡ None → option_map (λ x. said_of x.statement) o ≡ logged_statement bytes → logged_statement bytes ≡ None
none_said o bytes is e = sym e ∙ ap (option_map (λ (x : Checked). said_of x.statement)) is

-- bytes that are the logged form of a statement are registered as that statement
pub same_bytes : (bytes : List ℕ) (s : Said) → Some s ≡ logged_statement bytes → s.logged ≡ bytes
same_bytes bytes s e = (logged_says bytes s (sym e)).0

pub of_bytes : {E : Type 0} (old new : Standing) (bytes : List ℕ) (s : Said) (m : ℕ) (r : Result (Option Bool) E) → Some s ≡ logged_statement bytes
    → IfOk r (λ v. Registers old s.logged m v new) → IfOk r (λ v. Registers old bytes m v new)
of_bytes old new bytes s m r e of = subst (λ (b : List ℕ). IfOk r (λ v. Registers old b m v new)) (same_bytes bytes s e) of

-- bytes that are no statement leave the log as it is
pub no_statement : (S : Standing) (bytes : List ℕ) (m : ℕ) → logged_statement bytes ≡ None → Registers S bytes m None S
unfolding with_bytes
no_statement S bytes m none t h few =
    turned t t bytes m None S (ap (with_said t m) none) h (refl, refl)

-- ---- the policy, and statement j

pub policy_held : (old new : Standing) (bytes : List ℕ) (v : Option Bool) → bytes ≡ policy_statement → Holds nothing old → Registers old bytes policy_moment v new → Holds (tally 0) new
policy_held old new bytes v is h does =
    first_holds new (subst (λ (b : List ℕ). Holds (with_bytes nothing b policy_moment) new) is (does nothing h (omega arith)).holds)

pub room_at : (j : ℕ) (S : Standing) → j < 2000 → Holds (tally j) S → HasRoom S
room_at j S low h =
    let had = few j in
    (tally j, h, omega (arith, had, low))

step_is : (j : ℕ) (old new : Standing) (bytes : List ℕ) (m : ℕ) (v : Option Bool) → bytes ≡ statement j → m ≡ moment_of j → j < 2000 → Holds (tally j) old
    → Registers old bytes m v new → Holds (tally (j + 1)) new × Verdicts (tally j) v (tally (j + 1))
step_is j old new bytes m v is at low h does =
    let had = few j in
    let goes = does (tally j) h (omega (arith, had, low)) in
    let next : with_bytes (tally j) bytes m ≡ tally (j + 1) = (λ i. with_bytes (tally j) (is i) (at i)) ∙ sym (tally_next j) in
    (subst (λ (t : Tally). Holds t new) next goes.holds, subst (λ (t : Tally). Verdicts (tally j) v t) next goes.counts)

pub step_holds : {E : Type 0} (j : ℕ) (old new : Standing) (bytes : List ℕ) (m : ℕ) (r : Result (Option Bool) E) → IfOk r (λ v. Registers old bytes m v new)
    → bytes ≡ statement j → m ≡ moment_of j → j < 2000 → Holds (tally j) old → OnOk r (Holds (tally (j + 1)) new)
step_holds j old new bytes m (Ok v) does is at low h = (step_is j old new bytes m v is at low h does).0
step_holds j old new bytes m (Err e) does is at low h = tt

pub step_counts : {E : Type 0} (j : ℕ) (old new : Standing) (bytes : List ℕ) (m : ℕ) (r : Result (Option Bool) E) → IfOk r (λ v. Registers old bytes m v new)
    → bytes ≡ statement j → m ≡ moment_of j → j < 2000 → Holds (tally j) old → IfOk r (λ v. Verdicts (tally j) v (tally (j + 1)))
step_counts j old new bytes m (Ok v) does is at low h = (step_is j old new bytes m v is at low h does).1
step_counts j old new bytes m (Err e) does is at low h = tt
