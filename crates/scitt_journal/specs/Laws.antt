use Rattle.std.specs.Prelude.{◌≡◌, ℕ, ◌<◌, ◌⊎◌, List, slice_index}
use Rattle.scitt_disk.specs.Images.{Held, ImageNow}
use Rattle.scitt_journal.specs.Layout.{NoLog, RecordsOf, Short, CutAfter, Recovers, OneOf}
use Rattle.scitt_journal.specs.Log.{Log}
use Rattle.scitt_journal.specs.State.{AtRest, InDoubt}

-- each number is a byte
abbrev pub AreBytes : List ℕ → Type 0
AreBytes bytes = (i : ℕ) → slice_index bytes i < 256

-- every file has no log, or a list of records, or is short
abbrev pub OneOfThree : Type 0
OneOfThree =
    (bytes : List ℕ) → AreBytes bytes → NoLog bytes ⊎ (((bodies : List (List ℕ)) × ((rest : ℕ) × RecordsOf bytes bodies rest)) ⊎ ((at : ℕ) × Short bytes at))

-- a file has one list of records, and one rest
abbrev pub RecordsAreUnique : Type 0
RecordsAreUnique =
    (bytes : List ℕ) (bodies others : List (List ℕ)) (rest left : ℕ) → RecordsOf bytes bodies rest → RecordsOf bytes others left → (bodies ≡ others) × (rest ≡ left)

-- a file without a log has no records, and none that passes the end
abbrev pub NoLogHasNoRecords : Type 0
NoLogHasNoRecords =
    (bytes : List ℕ) → NoLog bytes → ((bodies : List (List ℕ)) (rest : ℕ) → RecordsOf bytes bodies rest → ⊥) × ((at : ℕ) → Short bytes at → ⊥)

-- a short file stands for no list
abbrev pub ShortHasNoRecords : Type 0
ShortHasNoRecords =
    (bytes : List ℕ) (at : ℕ) → Short bytes at → (bodies : List (List ℕ)) → Recovers bytes bodies → ⊥

-- a short file is cut at one gate, behind one list of records
abbrev pub ShortIsUnique : Type 0
ShortIsUnique = (bytes : List ℕ) (at other : ℕ) → Short bytes at → Short bytes other → at ≡ other

abbrev pub CutIsUnique : Type 0
CutIsUnique =
    (bytes : List ℕ) (bodies others : List (List ℕ)) (at other : ℕ) → CutAfter bytes bodies at → CutAfter bytes others other → (bodies ≡ others) × (at ≡ other)

-- at rest a crash leaves the records, and while a repair is needed those or the ones with the record in doubt
abbrev pub RestIsRecovered : {D : Type 0} → (D → Held) → Type 0
RestIsRecovered {D = D} held =
    (log : Log D) (bodies : List (List ℕ)) (image : List ℕ) → AtRest held log bodies → ImageNow (held log.disk) image → Recovers image bodies

abbrev pub DoubtIsOneOf : {D : Type 0} → (D → Held) → Type 0
DoubtIsOneOf {D = D} held =
    (log : Log D) (bodies : List (List ℕ)) (body image : List ℕ) → InDoubt held log bodies body → ImageNow (held log.disk) image → OneOf bodies body image
