-- What a turn leaves begins with what it found.
use Rattle.std.proofs.Common.{◌≡◌, ℕ, List, [], ◌∷◌, Option, None, Some, refl, sym, ap, subst, inl, inr}
use mathlib.Core.List.{IsPrefix}
use base.Growing.{prefix_refl, prefix_trans}
use Rattle.statement.specs.Said.{Said}
use Rattle.log_replay.specs.Records.{Log}
use Rattle.registrar.specs.declared.words.Outcome.{Outcome}
use Rattle.registrar.specs.declared.words.Outcome.TheVariants as answer
use Rattle.registrar.specs.Turns.{Standing, Registers, Adds, Stops, log_with, ready_log, needed_of}

-- a relation of two values holds of two that equal them
pub moved : {T : Type 0} (P : T → T → Type 0) {a b x y : T} → a ≡ x → b ≡ y → P a b → P x y
moved P {a} {b} {x} {y} p q it = subst (λ v. P v y) p (subst (λ w. P a w) q it)

pub same_grows : (old new : Standing) → new.log ≡ old.log → IsPrefix old.log new.log
same_grows old new same = subst (λ (xs : Log). IsPrefix old.log xs) (sym same) (prefix_refl old.log)

with_grows : (needed : Option (List ℕ)) (R : Log) → IsPrefix R (log_with needed R)
with_grows None R = prefix_refl R
with_grows (Some body) R = (body ∷ [], refl)

ready_grows : (S : Standing) → IsPrefix S.log (ready_log S)
ready_grows S = with_grows (needed_of S) S.log

adds_grows : (old new : Standing) (entries : List (List ℕ)) → Adds old entries new → IsPrefix old.log new.log
adds_grows old new entries a =
    prefix_trans old.log (ready_log old) new.log (ready_grows old)
    (subst (λ (xs : Log). IsPrefix (ready_log old) xs) (sym a.log) (a.body ∷ [], refl))

stops_grows : (old new : Standing) (entries : List (List ℕ)) → Stops old entries new → IsPrefix old.log new.log
stops_grows old new entries (inl reserve) = same_grows old new reserve.log
stops_grows old new entries (inr batch) = subst (λ (xs : Log). IsPrefix old.log xs) (sym batch.log) (ready_grows old)

pub registers_grows : (Tells : Type 0) (old new : Standing) (s : Said) (m : ℕ) (o : Outcome) → Registers Tells old s m o new → IsPrefix old.log new.log
registers_grows Tells old new s m (answer.Known i receipt) r = same_grows old new r.0.log
registers_grows Tells old new s m (answer.Denied rule size moment) r = same_grows old new r.0.log
registers_grows Tells old new s m (answer.LogFull entries bytes) r = same_grows old new r.0.log
registers_grows Tells old new s m (answer.KeyExhausted next capacity) r = same_grows old new r.0.log
registers_grows Tells old new s m answer.OutOfMemory r = same_grows old new r.0.log
registers_grows Tells old new s m answer.DiskFault (inl repair) = same_grows old new (ap (λ (S : Standing). S.log) repair.same)
registers_grows Tells old new s m answer.DiskFault (inr (inl read)) = same_grows old new read.2.log
registers_grows Tells old new s m answer.DiskFault (inr (inr write)) = stops_grows old new _ write.2
registers_grows Tells old new s m (answer.Changed number) r = same_grows old new r.0.2.log
registers_grows Tells old new s m (answer.Admitted i receipt) r = adds_grows old new _ r.2
