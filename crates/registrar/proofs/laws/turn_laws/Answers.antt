use Rattle.registrar.proofs.Rising.{Laws}
use Rattle.registrar.proofs.Ahead.{logs_are_well_made, no_index_twice}
use Rattle.registrar.proofs.Staying.{only_grow, admitted_stays}
use Rattle.registrar.proofs.laws.turn_laws.Goals as goal

pub returns : goal.returns
returns c =
    let laws : Laws = record {
      reserve = c.record_laws.ensures.reserve;
      index = c.record_laws.ensures.index;
      leaves = c.growth_laws.ensures.leaves;
      less = c.log_laws.ensures.one_less;
      item = c.strict_item_is_exact.ensures.given;
      text = c.strict_text_is_exact.ensures.spelled;
    } in
    record { sound = logs_are_well_made; growth = only_grow; admitted = admitted_stays laws; index = no_index_twice laws }
