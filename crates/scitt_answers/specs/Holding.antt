-- What a holder of turns keeps: the key that a checked statement names, and a registrar's disk.
use Rattle.std.specs.Prelude.{◌≡◌, ℕ, ◌≤◌, List, Bool, IsTrue, Option, None, Some}

-- where the log names a key, the checked value names that key
abbrev pub NamesKey : Option (List ℕ) → Option (List ℕ × Bool) → Type 0
NamesKey None pair = Unit {0}
NamesKey (Some key) None = ⊥
NamesKey (Some key) (Some pair) = pair.0 ≡ key

-- a disk after some calls: it is the same one, it was asked for nothing that it doesn't hold, and its count of faults didn't fall
pub record KeepsDisk {D : Type 0} (tells : Bool) (same : D → D → Type 0) (strays fault_count : D → ℕ) (old new : D) : Type 0 where
  pub same_one : same old new
  pub no_strays : IsTrue tells → strays new ≡ strays old
  pub later : fault_count old ≤ fault_count new
