-- Which of the labels that crit may list stand in the protected map (RFC 9052, 3.1).
use Rattle.std.specs.Prelude.{List, ◌≡◌}
use Rattle.cbor_core.specs.declared.tree.Item.{Item}
use Rattle.cose_sign1.specs.declared.crit.Understood.{Understood}
use Rattle.cose_sign1.specs.Labels.{has_number}

-- each answer is the map's
pub record Tells (protected : List (Item × Item)) (here : Understood) : Type 0 where
  pub alg : here.alg ≡ has_number 1 protected
  pub crit : here.crit ≡ has_number 2 protected
  pub content_type : here.content_type ≡ has_number 3 protected
  pub kid : here.kid ≡ has_number 4 protected
  pub cwt_claims : here.cwt_claims ≡ has_number 15 protected
  pub vds : here.vds ≡ has_number 395 protected
  pub vdp : here.vdp ≡ has_number 396 protected
