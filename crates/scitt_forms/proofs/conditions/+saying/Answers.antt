use Rattle.std.proofs.Common.{◌≡◌, ◌∙◌, sym, ap, subst, Err}
use Rattle.std.specs.Prelude.{IfOk}
use Rattle.cbor_core.specs.declared.tree.Item.{Item}
use Rattle.toml.specs.View.{view}
use Rattle.scitt_forms.specs.Refusals.{Said}
use Rattle.scitt_forms.proofs.Depths.{cond_said-none, cond_said-more}
use Rattle.scitt_forms.proofs.conditions.+saying.Goals as goal

pub cond_of-returns-then-depth-eq0 : goal.cond_of-returns-then-depth-eq0
cond_of-returns-then-depth-eq0 t c = ap Err c.refusal.ensures ∙ sym (cond_said-none c.args.place c.args.depth (view c.args.value.now) c.if-depth-eq0.true)

pub cond_of-returns : goal.cond_of-returns
cond_of-returns t c =
    subst (λ (v : Said Item). IfOk c.cond_below.result (λ item. item ≡ v))
    (sym (cond_said-more c.args.place c.args.depth (view c.args.value.now) c.if-depth-eq0.false)) c.cond_below.ensures
