use Rattle.std.proofs.Common.{◌≡◌, ℕ, List, length, sym, ap, subst, arith}
use Rattle.std.specs.Io.KnownBytes.{Consumes}
use Rattle.scitt_tool.proofs.Making.{judged_keygen}
use Rattle.scitt_tool.proofs.keygen.keygen.Goals as goal

pub returns-clause-judged : goal.returns-clause-judged
returns-clause-judged g c =
    let value = c.deref.ensures.value in
    let enough : length c.deref.result.now ≡ 48 = omega (arith, ap length value, c.in_ok-bytes.ensures.within, c.len.ensures, c.if-len-lt48.false) in
    let old = g.S.Source.left c.args.random.now in
    let new = g.S.Source.left c.read_front.new.source in
    judged_keygen _ c.args.levels.now _ _ old new c.deref.result.now _ (subst (λ (b : List ℕ). Consumes old new b) (sym value) c.in_ok-bytes.ensures.takes) enough c.make.ensures.over
