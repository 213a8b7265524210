-- What is known of a receipt's name.
use Rattle.std.specs.Prelude.{◌≤◌, length, Option, Some, None}
use Rattle.receipts.specs.declared.receipt.Receipt.{Receipt}

-- a receipt that was read has a name of 1 to 128 bytes
abbrev pub HasName : Option Receipt → Type 0
HasName None = Unit {0}
HasName (Some r) = (1 ≤ length r.name) × (length r.name ≤ 128)
