use Rattle.std.proofs.Common.{map, take}
use Rattle.toml.specs.View.{items_view}
use Rattle.shown_forms.specs.Policies.{HolderTables}
use Rattle.shown_forms.specs.Trusts.{holder_of}
use Rattle.shown_forms.proofs.holders.issuers_of.Given as goal

abbrev pub invariant-loop-issuer : goal.invariant-loop-issuer
invariant-loop-issuer l = HolderTables (map holder_of (take l.issuer-index l.issuers)) (items_view l.tables.items)
