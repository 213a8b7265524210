-- Bytes that are read behind others.
use Rattle.std.proofs.Common.{◌≡◌, ◌∙◌, ℕ, ◌+◌, List, take, drop, None, Some}
use Rattle.std.proofs.Math.Seq.{take-add}
use Rattle.std.specs.declared.option.Option.{Option}
use Rattle.std.specs.Io.KnownBytes.{Consumes, Keeps}
use Rattle.std.proofs.KnownBytes.{Consumes-trans}

-- what stands in front was taken, and n bytes behind it
pub read_on : (old mid new : Option (List ℕ)) (a b c : List ℕ) (done n : ℕ) → Consumes old mid (take done a) → take done b ≡ take done a → take done c ≡ take done b
    → Consumes mid new (take n (drop done c)) → Consumes old new (take (done + n) c)
read_on old mid new a b c done n taken room same more =
    rw (take-add done n c, same ∙ room) (Consumes-trans old mid new (take done a) (take n (drop done c)) taken more)

-- what was kept is kept on
pub keeps_then : (old mid new : Option (List ℕ)) → Keeps old mid → Keeps mid new → Keeps old new
keeps_then None mid new kept more = tt
keeps_then (Some xs) None new kept more = absurd kept
keeps_then (Some xs) (Some ys) None kept more = absurd more
keeps_then (Some xs) (Some ys) (Some zs) kept more = more ∙ kept
