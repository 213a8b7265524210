-- A session: the requests of the bytes read, the turns made for them, and the answers written.
use Rattle.std.specs.Prelude.{◌≡◌, ℕ, ◌+◌, ◌<◌, ◌≤◌, ◌⊎◌, List, [], ◌∷◌, ◌++◌, length, map, flat_map, take, Bool, true, false, Option, None, Some, ⊤}
use Rattle.std.specs.Io.KnownBytes.{Consumes, Appends, IsAtEnd}
use Rattle.http_wire.specs.Requests.{IsRequest, IsHeadFault, EndsInside}
use Rattle.http_wire.specs.Answering.{answer_bytes}
use Rattle.scitt_answers.specs.declared.serving.SessionEnd.{SessionEnd}
use Rattle.scitt_answers.specs.declared.serving.SessionEnd.TheVariants as end
use Rattle.scitt_answers.specs.Marks.{Mark, Step, Chain, Next, AreSteps, LeavesSize}
use Rattle.scitt_answers.specs.Exchanges.{ClockState, Asked, request, refused, Exchange, EachIs, Counts}

-- the bytes are these requests, and a head fault where it stands, and then the rest
abbrev pub ReadsAsked : List ℕ → List Asked → List ℕ → Type 0
ReadsAsked bytes [] rest = bytes ≡ rest
ReadsAsked bytes (request q ∷ more) rest = (middle : List ℕ) × IsRequest bytes q middle × ReadsAsked middle more rest
ReadsAsked bytes (refused why of_head ∷ more) rest = IsHeadFault bytes why of_head × (more ≡ []) × (bytes ≡ rest)

abbrev pub closes : Asked → Bool
closes (request q) = q.close
closes (refused why of_head) = true

abbrev pub AreOpen : List Asked → Type 0
AreOpen [] = Unit {0}
AreOpen (a ∷ more) = (closes a ≡ false) × AreOpen more

abbrev pub asked_in : List Exchange → List Asked
asked_in es = map (λ e. e.asked) es

abbrev pub steps_in : List Exchange → List Step
steps_in es = flat_map (λ e. e.steps) es

abbrev pub AllOpen : List Exchange → Type 0
AllOpen es = AreOpen (asked_in es)

-- all but the last go on
pub record EndsIn (es : List Exchange) (P : Asked → Type 0) : Type 0 where
  pub front : List Exchange
  pub final : Exchange
  pub is : es ≡ front ++ final ∷ []
  pub open_front : AllOpen front
  pub how : P final.asked

abbrev pub IsRefused : Asked → Type 0
IsRefused (request q) = ⊥
IsRefused (refused why of_head) = Unit {0}

abbrev pub IsClosing : Asked → Type 0
IsClosing (request q) = q.close ≡ true
IsClosing (refused why of_head) = ⊥

-- the answers' bytes, one after another
abbrev pub text_of : List Exchange → List ℕ
text_of es = flat_map (λ e. answer_bytes e.answer) es

-- how many bytes the answers before the last have
abbrev pub length_before : List Exchange → ℕ
length_before [] = 0
length_before (e ∷ []) = 0
length_before (e ∷ f ∷ es) = length (answer_bytes e.answer) + length_before (f ∷ es)

-- what was written: the whole text, or after a fault a part of it from the front, with all answers before the last
abbrev pub Writes : List Exchange → Option (List ℕ) → Option (List ℕ) → Option SessionEnd → Type 0
Writes es taken taken' (Some end.WriteFault) =
    (n : ℕ) × (length_before es ≤ n) × (n < length (text_of es)) × Appends taken taken' (take n (text_of es))
Writes es taken taken' _ = Appends taken taken' (text_of es)

-- how the requests come to an end; none: they go on with the request of the next number
abbrev pub Ends : ℕ → ℕ → List Exchange → List ℕ → List ℕ → Option (List ℕ) → Option SessionEnd → Type 0
Ends number next es rest held left None = AllOpen es × (held ≡ rest) × (next ≡ number + length es)
Ends number next es rest held left (Some end.Ended) = (AllOpen es × (rest ≡ []) × IsAtEnd left) ⊎ EndsIn es IsClosing
Ends number next es rest held left (Some end.CutShort) = AllOpen es × EndsInside rest × IsAtEnd left
Ends number next es rest held left (Some end.HeadRefused) = EndsIn es IsRefused
Ends number next es rest held left (Some end.TurnsSpent) = AllOpen es × (number + length es ≡ 1001)
Ends number next es rest held left (Some end.ReadFault) = AllOpen es
Ends number next es rest held left (Some end.WriteFault) = EndsIn es (λ _. ⊤)
Ends number next es rest held left (Some end.OutOfMemory) = AllOpen es

-- the last turn went from one of these marks to the other
abbrev pub LatestIs : (Mark → Mark → Type 0) → List Step → Type 0
LatestIs last [] = Unit {0}
LatestIs last (s ∷ []) = last s.found s.left
LatestIs last (s ∷ t ∷ steps) = LatestIs last (t ∷ steps)

-- The turns that were made for an answer, from and to where a turn could begin. They left a log of that size, and this was done in them.
pub record Answered
    (tells : Bool) (follows : Mark → Mark → Type 0) (begins : Mark → Type 0) (last : Mark → Mark → Type 0) (size : ℕ) (Does : List Step → Type 0) : Type 0 where
  pub steps : List Step
  pub chain : Chain begins follows steps
  pub latest : LatestIs last steps
  pub turns : AreSteps tells steps
  pub leaves : LeavesSize steps size
  pub does : Does steps

-- Some exchanges of a session, from the request of this number on. The link had these bytes held and left, and this was
-- written; the clock was in that state; a turn could begin there. The primed ones are those afterwards.
pub record Served
    (tells : Bool) (follows : Mark → Mark → Type 0) (number number' : ℕ) (begins begins' : Mark → Type 0) (last last' : Mark → Mark → Type 0) (held held' : List ℕ)
    (left left' taken taken' : Option (List ℕ)) (clock clock' : ClockState) (how : Option SessionEnd) : Type 0 where
  pub es : List Exchange
  pub bytes : List ℕ
  pub rest : List ℕ
  pub read : Consumes left left' bytes
  pub asked : ReadsAsked (held ++ bytes) (asked_in es) rest
  pub each : EachIs tells number es
  pub chain : Chain begins follows (steps_in es)
  pub next : (m : Mark) → begins' m → Next begins follows (steps_in es) m
  pub latest : LatestIs last' (steps_in es)
  pub untouched : es ≡ [] → (found left : Mark) → last found left → last' found left
  pub clock_is : Counts clock es clock'
  pub written : Writes es taken taken' how
  pub ends : Ends number number' es rest held' left' how
