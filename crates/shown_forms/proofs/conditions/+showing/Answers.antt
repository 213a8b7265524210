use Rattle.std.proofs.Common.{true, ap, ◌∙◌}
use Rattle.toml.specs.View.{view, array_view}
use Rattle.toml.proofs.Views.{view-Array, view-Boolean}
use Rattle.scitt_forms.specs.declared.refusal.Word.TheVariants as w
use Rattle.shown_forms.specs.Tables.{one_key}
use Rattle.shown_forms.proofs.Found.{some_parts, none_parts, some_cond, some_number}
use Rattle.shown_forms.proofs.Growing.{parts_more}
use Rattle.shown_forms.proofs.KindLemmas.{value-All, none-All, value-Any, none-Any, value-Not, value-Issuer, value-SubjectPrefix, value-ContentType, value-Prior, value-PayloadAtMost, value-CountBelow, value-FirstOfSubject}
use Rattle.shown_forms.proofs.conditions.+showing.Goals as goal

pub value_below-returns-in_ok-one-in-Some : goal.value_below-returns-in_ok-one-in-Some
value_below-returns-in_ok-one-in-Some t c =
    value-All c.args.deep c.args.cond.now c.in-All.parts (array_view c.in-Some.values) (view c.in_ok-one-in-Some.field-0) c.in-All.is
    (c.in_ok-one-in-Some.ensures ∙ ap (one_key w.All) (view-Array c.in-Some.values))
    (some_parts c.args.deep c.in-All.parts c.as_slice.result.now c.in_ok-values-in-All.field-0 c.in-Some.values c.as_slice.ensures c.in-Some.is c.in_ok-values-in-All.ensures)

pub value_below-returns-in-None : goal.value_below-returns-in-None
value_below-returns-in-None t c =
    none-All c.args.deep c.args.cond.now c.in-All.parts c.in-All.is
    (none_parts c.args.deep c.in-All.parts c.as_slice.result.now c.in_ok-values-in-All.field-0 c.as_slice.ensures c.in-None.is c.in_ok-values-in-All.ensures)

pub value_below-returns-in_ok-one-in-Some-2 : goal.value_below-returns-in_ok-one-in-Some-2
value_below-returns-in_ok-one-in-Some-2 t c =
    value-Any c.args.deep c.args.cond.now c.in-Any.parts (array_view c.in-Some-2.values) (view c.in_ok-one-in-Some-2.field-0) c.in-Any.is
    (c.in_ok-one-in-Some-2.ensures ∙ ap (one_key w.Any) (view-Array c.in-Some-2.values))
    (some_parts c.args.deep c.in-Any.parts c.as_slice-in-Any.result.now c.in_ok-values-in-Any.field-0 c.in-Some-2.values c.as_slice-in-Any.ensures c.in-Some-2.is c.in_ok-values-in-Any.ensures)

pub value_below-returns-in-None-2 : goal.value_below-returns-in-None-2
value_below-returns-in-None-2 t c =
    none-Any c.args.deep c.args.cond.now c.in-Any.parts c.in-Any.is
    (none_parts c.args.deep c.in-Any.parts c.as_slice-in-Any.result.now c.in_ok-values-in-Any.field-0 c.as_slice-in-Any.ensures c.in-None-2.is c.in_ok-values-in-Any.ensures)

pub value_below-returns-in_ok-one-in-Some-3 : goal.value_below-returns-in_ok-one-in-Some-3
value_below-returns-in_ok-one-in-Some-3 t c =
    value-Not c.args.deep c.args.cond.now c.in-Not.part (view c.in-Some-3.value) (view c.in_ok-one-in-Some-3.field-0) c.in-Not.is c.in_ok-one-in-Some-3.ensures
    (some_cond c.args.deep c.in-Not.part c.get.result.now c.in_ok-value-in-Not.field-0 c.in-Some-3.value c.get.ensures c.in-Some-3.is c.in_ok-value-in-Not.ensures)

pub value_below-returns-in_ok-text_value-in-Issuer : goal.value_below-returns-in_ok-text_value-in-Issuer
value_below-returns-in_ok-text_value-in-Issuer t c =
    value-Issuer c.args.deep c.args.cond.now c.in-Issuer.text (view c.in_ok-text_value-in-Issuer.field-0) c.in-Issuer.is c.in_ok-text_value-in-Issuer.ensures

pub value_below-returns-in_ok-text_value-in-SubjectPrefix : goal.value_below-returns-in_ok-text_value-in-SubjectPrefix
value_below-returns-in_ok-text_value-in-SubjectPrefix t c =
    value-SubjectPrefix c.args.deep c.args.cond.now c.in-SubjectPrefix.text (view c.in_ok-text_value-in-SubjectPrefix.field-0) c.in-SubjectPrefix.is c.in_ok-text_value-in-SubjectPrefix.ensures

pub value_below-returns-in_ok-text_value-in-ContentType : goal.value_below-returns-in_ok-text_value-in-ContentType
value_below-returns-in_ok-text_value-in-ContentType t c =
    value-ContentType c.args.deep c.args.cond.now c.in-ContentType.text (view c.in_ok-text_value-in-ContentType.field-0) c.in-ContentType.is c.in_ok-text_value-in-ContentType.ensures

pub value_below-returns-in_ok-text_value-in-Prior : goal.value_below-returns-in_ok-text_value-in-Prior
value_below-returns-in_ok-text_value-in-Prior t c =
    value-Prior c.args.deep c.args.cond.now c.in-Prior.text (view c.in_ok-text_value-in-Prior.field-0) c.in-Prior.is c.in_ok-text_value-in-Prior.ensures

pub value_below-returns-in_ok-one-in-Some-number : goal.value_below-returns-in_ok-one-in-Some-number
value_below-returns-in_ok-one-in-Some-number t c =
    let (within, is) = some_number c.in-PayloadAtMost.n c.in-Some-number.value c.in-Some-number.ensures in
    value-PayloadAtMost c.args.deep c.args.cond.now c.in-PayloadAtMost.n (view c.in_ok-one-in-Some-number.field-0) c.in-PayloadAtMost.is within
    (c.in_ok-one-in-Some-number.ensures ∙ ap (one_key w.PayloadAtMost) is)

pub value_below-returns-in_ok-one-in-Some-number-2 : goal.value_below-returns-in_ok-one-in-Some-number-2
value_below-returns-in_ok-one-in-Some-number-2 t c =
    let (within, is) = some_number c.in-CountBelow.n c.in-Some-number-2.value c.in-Some-number-2.ensures in
    value-CountBelow c.args.deep c.args.cond.now c.in-CountBelow.n (view c.in_ok-one-in-Some-number-2.field-0) c.in-CountBelow.is within
    (c.in_ok-one-in-Some-number-2.ensures ∙ ap (one_key w.CountBelow) is)

pub value_below-returns-in_ok-one-in-FirstOfSubject : goal.value_below-returns-in_ok-one-in-FirstOfSubject
value_below-returns-in_ok-one-in-FirstOfSubject t c =
    value-FirstOfSubject c.args.deep c.args.cond.now (view c.in_ok-one-in-FirstOfSubject.field-0) c.in-FirstOfSubject.is
    (c.in_ok-one-in-FirstOfSubject.ensures ∙ ap (one_key w.FirstOfSubject) (view-Boolean true))

pub values_of-loop-part-preserved : goal.values_of-loop-part-preserved
values_of-loop-part-preserved t c =
    rw c.in_ok-push-in-Some.ensures.items
    (parts_more c.args.deep c.args.parts.now c.loop-part.part-index c.part-item.result c.loop-part.values.items c.in-Some.value c.loop-part-test.true c.loop-part.invariant
    (some_cond c.args.deep _ c.part-item.result c.in_ok-value.field-0 c.in-Some.value c.part-item.is c.in-Some.is c.in_ok-value.ensures))
