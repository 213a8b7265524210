use Rattle.std.proofs.Common.{◌≡◌, ℕ, suc, ◌<◌, List, [], ◌∷◌, length, get_or, arith}
use Rattle.receipts.specs.Fits.{AreHashes}
use Rattle.receipts.proofs.within.are_hashes.Goals as goal

hashes-from : (path : List (List ℕ)) → ((i : ℕ) → i < length path → length (get_or path i []) ≡ 32) → AreHashes path
hashes-from [] h = tt
hashes-from (x ∷ path) h = (h 0 (omega arith), hashes-from path (λ i lt. h (suc i) (omega arith)))

pub returns : goal.returns
returns c = hashes-from c.args.path.now c.told-path
