-- Which calls of a memory form fail.
use Rattle.std.specs.Prelude.{ℕ, Bool, ◌==◌, if◌then◌else◌}
use Rattle.std.specs.Global.{Vec}
use Rattle.std.specs.List.{list_any}
use Rattle.scitt_io.specs.Causes.{raised}
use Rattle.scitt_io.specs.declared.plan.Plan.{Plan}

-- the call that comes next is listed
abbrev pub is_listed : Plan → Bool
is_listed plan = list_any (λ call. call == plan.made) plan.fails.items

-- the plan after that call: the call is counted, and a fault where it is listed
abbrev pub after_call : Plan → Plan
after_call plan =
    record plan { made = raised plan.made; faults = if is_listed plan then raised plan.faults else plan.faults }

-- the plan after a fault that it doesn't list
abbrev pub after_fault : Plan → Plan
after_fault plan = record plan { faults = raised plan.faults }

-- the plan after a call that failed, listed or not: one fault was counted
abbrev pub after_refusal : Plan → Plan
after_refusal plan = if is_listed plan then after_call plan else after_fault (after_call plan)

-- the plan at the start
abbrev pub plan_of : Vec ℕ → Plan
plan_of fails = record { fails = fails; made = 0; faults = 0 }
