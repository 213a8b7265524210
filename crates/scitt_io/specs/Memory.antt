-- What the memory forms are seen as.
use Rattle.std.specs.Prelude.{ℕ, List}
use Rattle.scitt_io.specs.declared.plan.Plan.{Plan}

-- a source: the bytes that are left, and its failing calls
pub record Input : Type 0 where
  pub left : List ℕ
  pub plan : Plan

-- a sink: the bytes that were written, and its failing calls
pub record Output : Type 0 where
  pub taken : List ℕ
  pub plan : Plan

-- a folder: its files by name, the bytes that are left of the chosen one, the names that were asked for, and its failing calls
pub record Files : Type 0 where
  pub files : List (List ℕ × List ℕ)
  pub left : List ℕ
  pub asked : List (List ℕ)
  pub plan : Plan

-- a folder that never fails: its files by name, the bytes that are left of the chosen one, and the names that were asked for
pub record SureFiles : Type 0 where
  pub files : List (List ℕ × List ℕ)
  pub left : List ℕ
  pub asked : List (List ℕ)

-- a link: the bytes that are left to read, those that were written, its failing calls, and its two counts
pub record Connection : Type 0 where
  pub left : List ℕ
  pub taken : List ℕ
  pub plan : Plan
  pub faults : ℕ
  pub refused : ℕ

-- a clock: the moments that are left, how often it was read, and its failing calls
pub record Times : Type 0 where
  pub left : List ℕ
  pub readings : ℕ
  pub plan : Plan

-- a clock that never fails: its one moment, and how often it was read
pub record Standstill : Type 0 where
  pub moment : ℕ
  pub readings : ℕ
