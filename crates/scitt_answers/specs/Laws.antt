-- Laws of sessions: what their turns find, and what their answers print.
use Rattle.std.specs.Prelude.{◌≡◌, ℕ, ◌^◌, ◌<◌, ◌≤◌, List, [], ◌∷◌, length, Bool}
use mathlib.Core.List.{IsPrefix}
use Rattle.log_replay.specs.Records.{Log, entries_of}
use Rattle.scitt_answers.specs.Marks.{Mark, Step, Doing, FaultsIn, Chain, Next, AreSteps, entries_at}
use Rattle.scitt_answers.specs.Exchanges.{Exchange, EachIs}
use Rattle.scitt_answers.specs.Sessions.{steps_in}

-- ---- alone: each turn finds what the one before left

abbrev pub ChainAlone : Mark → List Step → Type 0
ChainAlone start steps = Chain (λ m. m ≡ start) (λ left next. next ≡ left) steps

abbrev pub ExitsAlone : Mark → List Step → Mark → Type 0
ExitsAlone start steps exit = Next (λ m. m ≡ start) (λ left next. next ≡ left) steps exit

-- each of these turns finds so many entries
abbrev pub FindAll : ℕ → List Step → Type 0
FindAll b [] = Unit {0}
FindAll b (s ∷ steps) = (entries_at s.found ≡ b) × FindAll b steps

-- the turns of each answer find so many entries as the answer before printed
abbrev pub SizesFollow : ℕ → List Exchange → Type 0
SizesFollow b [] = Unit {0}
SizesFollow b (e ∷ es) = FindAll b e.steps × SizesFollow e.answer.size es

abbrev pub SizesAlone : Type 0
SizesAlone =
    (tells : Bool) (start : Mark) (number : ℕ) (es : List Exchange)
    → EachIs tells number es → ChainAlone start (steps_in es) → SizesFollow (entries_at start) es

-- the size that the last answer printed, or the first number where there is none
abbrev pub final_size : ℕ → List Exchange → ℕ
final_size b [] = b
final_size b (e ∷ es) = final_size e.answer.size es

-- the log at exit has as many entries as the last answer printed
abbrev pub SizeAtExit : Type 0
SizeAtExit =
    (tells : Bool) (start exit : Mark) (number : ℕ) (es : List Exchange)
    → EachIs tells number es → ExitsAlone start (steps_in es) exit → entries_at exit ≡ final_size (entries_at start) es

-- ---- among others: each turn finds a log that begins with the one that the turn before left

abbrev pub Begins : Mark → Mark → Type 0
Begins left next = IsPrefix left.standing.log next.standing.log

abbrev pub ChainAmong : Log → List Step → Type 0
ChainAmong seen steps = Chain (λ m. IsPrefix seen m.standing.log) Begins steps

abbrev pub ExitsAmong : Log → List Step → Mark → Type 0
ExitsAmong seen steps exit = Next (λ m. IsPrefix seen m.standing.log) Begins steps exit

abbrev pub FindMore : ℕ → List Step → Type 0
FindMore b [] = Unit {0}
FindMore b (s ∷ steps) = (b ≤ entries_at s.found) × FindMore b steps

-- the turns of each answer find at least so many entries as the answer before printed
abbrev pub SizesGrow : ℕ → List Exchange → Type 0
SizesGrow b [] = Unit {0}
SizesGrow b (e ∷ es) = FindMore b e.steps × SizesGrow e.answer.size es

abbrev pub SizesAmongOthers : Type 0
SizesAmongOthers =
    (tells : Bool) (seen : Log) (number : ℕ) (es : List Exchange)
    → EachIs tells number es → ChainAmong seen (steps_in es) → SizesGrow (length (entries_of seen)) es

-- ---- in both

-- the logs that the turns found and left begin this one
abbrev pub BeginIt : Log → List Step → Type 0
BeginIt exit [] = Unit {0}
BeginIt exit (s ∷ steps) = IsPrefix s.found.standing.log exit × IsPrefix s.left.standing.log exit × BeginIt exit steps

-- alone, each begins the log at exit
abbrev pub LogsBeginExit : Type 0
LogsBeginExit =
    (tells : Bool) (start : Mark) (steps : List Step) (exit : Mark)
    → AreSteps tells steps → ChainAlone start steps → ExitsAlone start steps exit → BeginIt exit.standing.log steps

-- and so it does among others
abbrev pub LogsBeginSeen : Type 0
LogsBeginSeen =
    (tells : Bool) (seen : Log) (steps : List Step) (exit : Mark)
    → AreSteps tells steps → ChainAmong seen steps → ExitsAmong seen steps exit → BeginIt exit.standing.log steps

-- the disk's count of 64 bits never falls
abbrev pub FaultsNeverFall : Type 0
FaultsNeverFall = (does : Doing) (before now : ℕ) → before < 2 ^ 64 → FaultsIn does before now → before ≤ now
