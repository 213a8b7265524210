-- A key that `read` refuses verifies nothing.
use Rattle.std.proofs.Common.{◌≡◌, sym, ◌∙◌, refl, arith, Some, IsSome}
use Rattle.lms_ots.specs.Words.{u32_at, part}
use Rattle.lms_tree.specs.Types.{level_at}
use Rattle.hss_keys.proofs.PartsRead.{level_at-within}
use Rattle.hss_keys.proofs.VerifyLaws.{level_named}
use Rattle.hss_keys.proofs.verifying.hss_verify.Goals as goal

pub returns-in-None : goal.returns-in-None
returns-in-None c =
    let key = c.args.key.now in (
      λ h. cc,
      λ v.
          let named = level_named (u32_at c.args.sig.now 0) (part key 4 56) _ _ v.levels in
          let known : level_at key 4 ≡ Some named.0 = sym (level_at-within c.word_law.ensures key 4 56 (omega arith)) ∙ named.1 in
          let some : IsSome (level_at key 4) = rw known refl in
          let found = c.read.ensures.some.1 (v.some, v.most, some) in
          rw c.in-None.is at found,
    )
