-- Reading gives what is spelled, and stops where the bytes are stuck: at every depth.
use Rattle.std.proofs.Common.{◌≡◌, ℕ, zero, suc, ◌<◌, List, length, Err, sym, ap, inl, inr, arith}
use Rattle.cbor_core.specs.declared.words.Grammar.{Grammar}
use Rattle.cbor_core.specs.declared.words.Why.{Why}
use Rattle.cbor_core.specs.declared.words.Why.TheVariants.{TooDeep}
use Rattle.cbor_core.specs.declared.heads.Stop.{Stop}
use Rattle.cbor_core.specs.declared.tree.Item.{Item}
use Rattle.cbor_core.specs.Bytes.{IsBytes}
use Rattle.cbor_core.specs.Spells.{SpellsIn}
use Rattle.cbor_core.specs.Faults.{StuckInside, Stuck}
use Rattle.cbor_core.specs.Reading.{no_part, read_in}
use Rattle.cbor_core.proofs.RowLemmas.{IsOpen-from}
use Rattle.cbor_core.proofs.StepLemmas.{err_ok, err_is}
use Rattle.cbor_core.proofs.HeadLemmas.{head-read}
use Rattle.cbor_core.proofs.PartLemmas.{ReadsAgain, ReadsSpelled, StopsStuck, StuckStops}
use Rattle.cbor_core.proofs.LevelLemmas.{level-again}
use Rattle.cbor_core.proofs.LevelReads.{level-spelled, level-stops, level-stuck}

-- no part where no container may be opened
abbrev NoPart : Item → List ℕ → Type 0
NoPart _ _ = ⊥

abbrev NoInner : List ℕ → ℕ → Why → Type 0
NoInner bytes left why = (left ≡ length bytes) × (why ≡ TooDeep)

none_again : ReadsAgain NoPart no_part
none_again item text rest p = absurd p

none_spelled : ReadsSpelled NoPart no_part
none_spelled bytes item rest fits e = absurd (err_ok _ _ e)

none_stops : StopsStuck NoInner no_part
none_stops bytes stop fits e = let p = err_is (record { left = length bytes; why = TooDeep }) stop e in (sym (ap (λ (s : Stop). s.left) p), sym (ap (λ (s : Stop). s.why) p))

pub read-again : (g : Grammar) (room : ℕ) → ReadsAgain (SpellsIn g room) (read_in g room)
unfolding SpellsIn read_in
read-again g zero item text rest s = level-again g 0 NoPart no_part none_again item text rest s
read-again g (suc room) item text rest s = level-again g (suc room) (SpellsIn g room) (read_in g room) (read-again g room) item text rest s

pub read-spelled : (g : Grammar) (room : ℕ) → ReadsSpelled (SpellsIn g room) (read_in g room)
unfolding SpellsIn read_in
read-spelled g zero bytes item rest fits e = level-spelled g 0 NoPart no_part none_spelled bytes item rest fits e
read-spelled g (suc room) bytes item rest fits e = level-spelled g (suc room) (SpellsIn g room) (read_in g room) (read-spelled g room) bytes item rest fits e

none_stuck : StuckStops NoInner no_part
none_stuck bytes left why (l, w) = λ i. Err (record { left = sym l i; why = sym w i })

-- no container is open where none may be
none_inside : (g : Grammar) (bytes : List ℕ) (left : ℕ) (why : Why) → IsBytes bytes → StuckInside g 0 NoPart NoInner bytes left why → ⊥
none_inside g bytes left why fits (h, rest, e, row, w) =
    let read = head-read bytes h rest fits e in
    let o = IsOpen-from g 0 h rest read.major read.fits row in
    elim w [
      | inl (m, _) ↦ (let room : 0 < 0 = o.room_left (omega arith) (omega arith) in omega arith)
      | inr (inl (m, _)) ↦ (let room : 0 < 0 = o.room_left (omega arith) (omega arith) in omega arith)
      | inr (inr (m, _)) ↦ (let room : 0 < 0 = o.room_left (omega arith) (omega arith) in omega arith)
    ]

pub read-stops : (g : Grammar) (room : ℕ) → StopsStuck (Stuck g room) (read_in g room)
unfolding Stuck read_in
read-stops g zero bytes stop fits e =
    elim (level-stops g 0 NoPart no_part NoInner none_spelled none_stops bytes stop fits e) [ inl w ↦ w | inr w ↦ absurd (none_inside g bytes stop.left stop.why fits w) ]
read-stops g (suc room) bytes stop fits e =
    level-stops g (suc room) (SpellsIn g room) (read_in g room) (Stuck g room) (read-spelled g room) (read-stops g room) bytes stop fits e

pub read-stuck : (g : Grammar) (room : ℕ) → StuckStops (Stuck g room) (read_in g room)
unfolding Stuck read_in
read-stuck g zero bytes left why w = level-stuck g 0 NoPart no_part NoInner none_again none_stuck bytes left why (inl w)
read-stuck g (suc room) bytes left why w =
    level-stuck g (suc room) (SpellsIn g room) (read_in g room) (Stuck g room) (read-again g room) (read-stuck g room) bytes left why w
