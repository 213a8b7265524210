use Rattle.std.proofs.Common.{refl, arith, ◌∙◌, sym, length, ◌≡◌, eqb-true}
use Rattle.cose_sign1.specs.Headers.{unprotected_fault}
use Rattle.cose_sign1.proofs.WalkLemmas.{fault_ends}
use Rattle.cose_sign1.proofs.headers.check_both.Goals as goal

pub returns-then-is_empty : goal.returns-then-is_empty
returns-then-is_empty c =
    let none : length c.args.entries.now ≡ 0 = eqb-true (length c.args.entries.now) 0 (sym c.is_empty.ensures ∙ c.if-is_empty.true) in
    fault_ends (unprotected_fault c.args.protected.now) c.args.entries.now 0 (omega arith) refl
