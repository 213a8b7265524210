-- A session from its parts.
use Rattle.std.proofs.Common.{◌≡◌, ◌⊎◌, ℕ, List, [], true, Some, refl, subst, arith}
use Rattle.scitt_io.specs.Causes.{Rose}
use Rattle.http_wire.specs.Taking.{HasReadCause}
use Rattle.registrar.specs.Turns.{Standing}
use Rattle.scitt_answers.specs.declared.serving.SessionEnd.{SessionEnd}
use Rattle.scitt_answers.specs.declared.serving.SessionEnd.TheVariants as end
use Rattle.scitt_answers.specs.Marks.{Mark}
use Rattle.scitt_answers.specs.Exchanges.{Exchange}
use Rattle.scitt_answers.specs.Sessions.{Served, Writes, text_of}
use Rattle.scitt_script.specs.Replays.{IsSession, IsWholeEnd, clock_with}

abbrev mark_with : Standing → ℕ → Mark
mark_with standing faults = record { standing = standing; faults = faults }

whole : (es : List Exchange) (text : List ℕ) (how : SessionEnd) → IsWholeEnd how → Writes es (Some []) (Some text) (Some how) → text ≡ text_of es
whole es text end.Ended is written = written
whole es text end.CutShort is written = written
whole es text end.HeadRefused is written = written
whole es text end.TurnsSpent is written = written
whole es text end.ReadFault is written = absurd is
whole es text end.WriteFault is written = absurd is
whole es text end.OutOfMemory is written = absurd is

no_rise : (before now : ℕ) → before ≡ 0 → now ≡ 0 → Rose before now → ⊥
no_rise before now b n rose = omega (arith, b, n, rose)

pub whole_end : (how : SessionEnd) (f f' g g' : ℕ) → HasReadCause f f' (how ≡ end.ReadFault) → HasReadCause g g' (how ≡ end.WriteFault) → f ≡ 0 → g ≡ 0 → f' ≡ 0 → g' ≡ 0 → (how ≡ end.OutOfMemory → ⊥) → IsWholeEnd how
whole_end end.Ended f f' g g' reading writing a b c d memory = tt
whole_end end.CutShort f f' g g' reading writing a b c d memory = tt
whole_end end.HeadRefused f f' g g' reading writing a b c d memory = tt
whole_end end.TurnsSpent f f' g g' reading writing a b c d memory = tt
whole_end end.ReadFault f f' g g' reading writing a b c d memory = no_rise f f' a c (reading.rose refl)
whole_end end.WriteFault f f' g g' reading writing a b c d memory = no_rise g g' b d (writing.rose refl)
whole_end end.OutOfMemory f f' g g' reading writing a b c d memory = memory refl

module _ (start exit : Standing) (held unread to_come : List ℕ) (readings misses : ℕ) (how : SessionEnd) where
  -- the disk's faults before and after, what the link has to read, has taken and takes, and how the clock begins
  abbrev pub Plays : (n n' : ℕ) (left taken text moments : List ℕ) (r m : ℕ) → Type 0
  Plays n n' left taken text moments r m =
      Served true (λ left next. next ≡ left) 1 1001 (λ k. k ≡ mark_with start n) (λ k. k ≡ mark_with exit n')
      (λ found left. left ≡ mark_with start n) (λ found left. left ≡ mark_with exit n')
      [] held (Some left) (Some unread) (Some taken) (Some text) (clock_with moments r m) (clock_with to_come readings misses) (Some how)

  pub session_by :
      (n n' : ℕ) (left taken text given : List ℕ) (r m : ℕ) (sent heard moments : List ℕ)
      → Plays n n' left taken text given r m → n ≡ 0 → n' ≡ 0 → left ≡ sent → taken ≡ [] → text ≡ heard → given ≡ moments → r ≡ 0 → m ≡ 0
      → (misses ≡ 0) ⊎ (to_come ≡ []) → IsWholeEnd how → IsSession start moments sent how heard
  session_by n n' left taken text given r m sent heard moments s e1 e2 e3 e4 e5 e6 e7 e8 late is =
      let s1 : Plays 0 n' left taken text given r m = subst (λ k. Plays k n' left taken text given r m) e1 s in
      let s2 : Plays 0 0 left taken text given r m = subst (λ k. Plays 0 k left taken text given r m) e2 s1 in
      let s3 : Plays 0 0 sent taken text given r m = subst (λ k. Plays 0 0 k taken text given r m) e3 s2 in
      let s4 : Plays 0 0 sent [] text given r m = subst (λ k. Plays 0 0 sent k text given r m) e4 s3 in
      let s5 : Plays 0 0 sent [] heard given r m = subst (λ k. Plays 0 0 sent [] k given r m) e5 s4 in
      let s6 : Plays 0 0 sent [] heard moments r m = subst (λ k. Plays 0 0 sent [] heard k r m) e6 s5 in
      let s7 : Plays 0 0 sent [] heard moments 0 m = subst (λ k. Plays 0 0 sent [] heard moments k m) e7 s6 in
      let s8 : Plays 0 0 sent [] heard moments 0 0 = subst (λ k. Plays 0 0 sent [] heard moments 0 k) e8 s7 in
      record {
        exit = exit;
        held = held;
        unread = unread;
        to_come = to_come;
        readings = readings;
        misses = misses;
        served = s8;
        late = late;
        whole_end = is;
        whole_text = whole s8.es heard how is s8.written;
      }
