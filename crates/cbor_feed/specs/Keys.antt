-- The keys of a map under work.
use Rattle.std.specs.Prelude.{ℕ, List, [], ◌∷◌, ◌++◌}
use Rattle.cbor_core.specs.declared.tree.Item.{Item}
use Rattle.cbor_core.specs.Order.{Ordered}

-- the places are those of the pairs' keys and of the key behind them, whatever its value will be
abbrev pub OrderedWith : ℕ → List (Item × Item) → Item → List ℕ → Type 0
OrderedWith room pairs key order = (value : Item) → Ordered room (pairs ++ (key, value) ∷ []) order
