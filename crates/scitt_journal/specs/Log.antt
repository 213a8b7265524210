use Rattle.std.specs.Prelude.{ℕ, Bool, List}

-- how a journal finds its records: the offsets of their gates, and the offset of the gate behind them. No caller needs
-- them
pub record Marks : Type 0 where
  pub offsets : List ℕ
  pub gate : ℕ

-- What a caller sees of a journal: its disk, the number of its records, the number of bytes after the gate behind them,
-- the length of the longest body that `append` may take, the number of records that it may add, and whether a repair is
-- needed.
pub record Log (D : Type 0) : Type 0 where
  pub disk : D
  pub count : ℕ
  pub rest : ℕ
  pub room : ℕ
  pub places : ℕ
  pub needs_repair : Bool
  pub marks : Marks
