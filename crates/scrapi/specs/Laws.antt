-- Laws of a connection's answers, of which the seat knows the last one's turn.
use Rattle.std.specs.Prelude.{◌≡◌, ℕ, Bool, IsTrue, Some}
use Rattle.http_wire.specs.declared.request.Request.{Request}
use Rattle.statement.specs.Said.{Said}
use Rattle.registrar.specs.declared.words.Outcome.TheVariants as outcome
use Rattle.registrar.specs.Turns.{Standing, Registers}
use Rattle.scitt_answers.specs.declared.asking.Ask.TheVariants as ask
use Rattle.scitt_answers.specs.Asking.{ask_of}
use Rattle.scitt_answers.specs.Marks.{entries_at}
use Rattle.scitt_answers.specs.Exchanges.{Exchange, request, IsExchange}
use Rattle.scitt_answers.specs.Judged.{OfLast}

-- an entry that is answered 201 is not among those that its turn found: its index is their number
abbrev pub AdmittedIsNew : Type 0
AdmittedIsNew =
    (tells is_last : Bool) (e : Exchange) (q : Request) → IsExchange tells is_last e → e.asked ≡ request q → ask_of q ≡ ask.Register → e.answer.status ≡ 201
    → OfLast (λ s. e.answer.location ≡ Some (entries_at s.found)) e.steps

-- where no index is left, the number that is told is the next index that the turn found, and it is the capacity
abbrev pub ExhaustedIsFound : Type 0
ExhaustedIsFound =
    (tells : Bool) (old new : Standing) (s : Said) (m next capacity : ℕ) → Registers (IsTrue tells) old s m (outcome.KeyExhausted next capacity) new
    → (next ≡ old.next) × (next ≡ capacity)
