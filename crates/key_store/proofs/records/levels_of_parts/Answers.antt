use Rattle.std.proofs.Common.{inl, inr, arith}
use Rattle.std.proofs.lemmas.Bool.{ltb-true, ltb-false}
use Rattle.key_store.proofs.LevelLemmas.{levels_none}
use Rattle.key_store.proofs.records.levels_of_parts.Goals as goal
use Rattle.key_store.proofs.records.levels_of_parts.Goals.{in_default-via-then-parts-lt1, in_default-via-else-parts-lt1+else-parts-lt2+else-parts-lt3+else-parts-lt4}

pub returns-in_default : goal.returns-in_default
returns-in_default c =
    elim c.in_default.branch [
      | in_default-via-then-parts-lt1 w ↦ levels_none c.args.parts.now (inl (omega (arith, ltb-true)))
      | in_default-via-else-parts-lt1+else-parts-lt2+else-parts-lt3+else-parts-lt4 w ↦ levels_none c.args.parts.now (inr (omega (arith, ltb-false)))
    ]
