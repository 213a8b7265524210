-- Lists of byte lists, and what a value tells of its own.
use Rattle.std.specs.Prelude.{ℕ, List, [], ◌∷◌, length, nat_lt, if◌then◌else◌, Option, None, Some}
use mathlib.Core.List.{IsPrefix}

abbrev pub Told : Type 0
Told = List (List ℕ)

-- a value that doesn't tell its list stands for the empty one
abbrev pub told_list : Option Told → Told
told_list None = []
told_list (Some xs) = xs

-- either both are told or neither is
abbrev pub TellsAlike : Option Told → Option Told → Type 0
TellsAlike None None = Unit {0}
TellsAlike None (Some ys) = ⊥
TellsAlike (Some xs) None = ⊥
TellsAlike (Some xs) (Some ys) = Unit {0}

-- the longer of two lists, the first where they are as long
abbrev pub longer : Told → Told → Told
longer xs ys = if nat_lt (length xs) (length ys) then ys else xs

-- each of these lists begins that one
abbrev pub Begin : List Told → Told → Type 0
Begin [] xs = Unit {0}
Begin (note ∷ notes) xs = IsPrefix note xs × Begin notes xs
