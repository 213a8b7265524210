use Rattle.std.proofs.Common.{lit≤, lit<, refl}
use Rattle.http_wire.specs.Answering.{phrase_of}
use Rattle.http_wire.proofs.laws.phrases_stand.Goals as goal

pub returns : goal.returns
unfolding phrase_of
returns c =
    (((lit≤ tt, lit< tt), refl), (((lit≤ tt, lit< tt), refl), (((lit≤ tt, lit< tt), refl), (((lit≤ tt, lit< tt), refl), (((lit≤ tt, lit< tt), refl), (((lit≤ tt, lit< tt), refl), (((lit≤ tt, lit< tt), refl), (((lit≤ tt, lit< tt), refl), (((lit≤ tt, lit< tt), refl), (((lit≤ tt, lit< tt), refl), (((lit≤ tt, lit< tt), refl), tt)))))))))))
