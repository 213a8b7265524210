-- A block whose end is written anew.
use Rattle.std.proofs.Common.{◌≡◌, ℕ, ◌+◌, List, [], ◌∷◌, ◌++◌, length, take, drop, ap, ◌∙◌, arith, length-append, length-drop}
use Rattle.std.proofs.Math.ListN.{set, length-set}
use Rattle.std.proofs.lemmas.List.{take_more_set, drop_all, append-nil, length-take-le}
use borrow.Rule.Slice.PartMut.{put_mid}

pub block_written : (a k : ℕ) (block piece : List ℕ) (j : ℕ) → length block ≡ a + 1 + k → put_mid (a + 1) k (set block a j) piece ≡ take a block ++ j ∷ [] ++ piece
block_written a k block piece j len =
    let front = take_more_set block a j (omega arith) in
    let rest = drop_all k (drop (a + 1) (set block a j)) (omega (arith, length-drop (a + 1) (set block a j), length-set block a j, len)) in
    ap (λ (xs : List ℕ). take (a + 1) (set block a j) ++ (piece ++ xs)) rest
    ∙ ap (λ (xs : List ℕ). take (a + 1) (set block a j) ++ xs) (append-nil piece)
    ∙ ap (λ (xs : List ℕ). xs ++ piece) front

pub length-block_written : (a k : ℕ) (block piece : List ℕ) (j : ℕ) → length block ≡ a + 1 + k → length piece ≡ k → length (put_mid (a + 1) k (set block a j) piece) ≡ a + 1 + k
length-block_written a k block piece j len piece_len =
    let front : length (take a block) ≡ a = length-take-le a block (omega arith) in
    omega (arith, ap length (block_written a k block piece j len), length-append (take a block ++ j ∷ []) piece, length-append (take a block) (j ∷ []), front, piece_len)
