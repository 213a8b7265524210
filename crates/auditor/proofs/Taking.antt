-- Bytes that are taken from a source, a piece at a time.
use Rattle.std.proofs.Common.{◌≡◌, ◌∙◌, ℕ, ◌+◌, ◌≤◌, List, ◌++◌, length, take, drop, Ok, Err, refl, sym, arith, length-append, length-take}
use Rattle.std.proofs.Math.Seq.{take-add}
use Rattle.std.proofs.lemmas.List.{take_all}
use Rattle.std.specs.declared.option.Option.{Option}
use Rattle.std.specs.Io.KnownBytes.{Consumes}
use Rattle.std.proofs.KnownBytes.{Consumes-trans}
use Rattle.scitt_io.specs.declared.source.ReadStop.{ReadStop}
use Rattle.scitt_io.specs.declared.source.ReadStop.TheVariants as stop
use Rattle.auditor.specs.Fetches.{Took, HaveGone}

-- what stands in front was taken, and n bytes behind it
pub taken_on : (old mid new : Option (List ℕ)) (a b c : List ℕ) (done n : ℕ) → Consumes old mid (take done a) → take done b ≡ take done a → take done c ≡ take done b
    → Consumes mid new (take n (drop done c)) → Consumes old new (take (done + n) c)
taken_on old mid new a b c done n taken room same more =
    rw (take-add done n c, same ∙ room) (Consumes-trans old mid new (take done a) (take n (drop done c)) taken more)

pub gone_on : (old mid new : Option (List ℕ)) (done n : ℕ) (piece : List ℕ) → HaveGone done old mid → Consumes mid new (take n piece) → n ≤ length piece → HaveGone (done + n) old new
gone_on old mid new done n piece gone more within = record {
  bytes = gone.bytes ++ take n piece;
  taken = Consumes-trans old mid new gone.bytes (take n piece) gone.taken more;
  counted = omega (arith, gone.counted, within, length-append gone.bytes (take n piece), length-take n piece);
}

-- one byte more than may be taken
pub took_too_many : {T : Type 0} (room : ℕ) (Is : List ℕ → Option (List ℕ) → T → Type 0) (old new : Option (List ℕ)) (bytes : List ℕ) → Consumes old new bytes → length bytes ≡ room + 1
    → Took room Is old new (Err stop.TooLong)
took_too_many room Is old new bytes taken past = record {
  bytes = bytes;
  taken = taken;
  within = omega (arith, past);
  too_long = (λ _. past, λ _. refl);
  is = tt;
}

never_ok : {T : Type 0} (v : T) (e : ReadStop) → Ok v ≡ Err e → ⊥
never_ok v e is = cc

pub took_well : {T : Type 0} (room : ℕ) (Is : List ℕ → Option (List ℕ) → T → Type 0) (old new : Option (List ℕ)) (bytes : List ℕ) (v : T) → Consumes old new bytes → length bytes ≤ room → Is bytes new v
    → Took room Is old new (Ok v)
took_well room Is old new bytes v taken within is = record {
  bytes = bytes;
  taken = taken;
  within = omega (arith, within);
  too_long = (λ e. absurd (never_ok v stop.TooLong e), λ e. absurd (omega (arith, e, within)));
  is = is;
}

-- a list whose front is as long is that front
pub all_of : (n : ℕ) (xs : List ℕ) → length xs ≡ n → xs ≡ take n xs
all_of n xs long = sym (take_all n xs (omega (arith, long)))
