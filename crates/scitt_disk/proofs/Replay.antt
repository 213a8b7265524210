use Rattle.std.proofs.Common.{◌≡◌, List, [], ◌∷◌, ◌++◌, refl}
use Rattle.scitt_disk.specs.Images.{Held}
use Rattle.scitt_disk.specs.declared.changes.Change.{Change}
use Rattle.scitt_disk.specs.Calls.{after_change, replay}

-- one more change, at the end
pub replay_push : (start : Held) (changes : List Change) (change : Change) → replay start (changes ++ change ∷ []) ≡ after_change (replay start changes) change
replay_push start [] change = refl
replay_push start (first ∷ changes) change = replay_push (after_change start first) changes change
