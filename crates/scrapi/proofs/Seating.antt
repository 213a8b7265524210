-- The calls of a service are turns of the seat that holds it.
use Rattle.std.proofs.Common.{◌≡◌, ℕ, List, length, Bool, IsTrue, Option, None, Some, refl, sym, ap, ◌∙◌, subst}
use mathlib.Core.List.{IsPrefix}
use base.Growing.{prefix_refl}
use Rattle.turn_lock.specs.Calls.{Caller}
use Rattle.statement.specs.Said.{Said}
use Rattle.log_replay.specs.Records.{Log, entries_of}
use Rattle.log_replay.specs.Judging.{key_of}
use Rattle.registrar.specs.Turns.{Standing, Call, key_hint_call, hint}
use Rattle.registrar.specs.Turns.{Answer as Reply}
use Rattle.registrar.specs.Fits.{Registered}
use Rattle.scitt_service.specs.Served.{Served, Works, Looks, Stays}
use Rattle.scitt_service.specs.Served.{NamesKey as ServiceNamesKey}
use Rattle.scitt_answers.specs.Holding.{NamesKey}
use Rattle.scitt_answers.specs.Marks.{Mark, asks, looks, mark_of, FaultsIn, Turned, TurnedTo}
use Rattle.scrapi.specs.Seats.{begins_at, LastTurn}

pub names_key : (key : Option (List ℕ)) (pair : Option (List ℕ × Bool)) → NamesKey key pair → ServiceNamesKey key pair
names_key None pair h = tt
names_key (Some key) None h = absurd h
names_key (Some key) (Some pair) h = h

module _ {D : Type 0} {tells : Bool} (fault_count : D → ℕ) (before after : Caller) where
  abbrev pub call_turned : (call : Call) (reply : Reply) (Faults : ℕ → ℕ → Type 0) → Served fault_count (Works fault_count (IsTrue tells) call reply Faults) before after
      → ((x y : ℕ) → Faults x y → FaultsIn (asks call reply) x y) → Turned tells (begins_at before) (LastTurn after) (asks call reply)
  call_turned call reply Faults s faults = record {
    found = mark_of fault_count s.value;
    left = mark_of fault_count s.left;
    begins_at = s.grown;
    last_is = record { log_found = sym s.list_found; log_left = sym s.list_left; marks_found = sym s.marks_found; marks_left = sym s.marks_left };
    is_step = record { done = s.does.turn; grows = s.does.grows; faults = faults _ _ s.does.faults };
  }

  pub call_turned_to : (call : Call) (reply : Reply) (Faults : ℕ → ℕ → Type 0) (size : ℕ) → Served fault_count (Works fault_count (IsTrue tells) call reply Faults) before after
      → ((x y : ℕ) → Faults x y → FaultsIn (asks call reply) x y) → size ≡ length (entries_of after.seen) → TurnedTo tells (begins_at before) (LastTurn after) (asks call reply) size
  call_turned_to call reply Faults size s faults e = record {
    turned = call_turned call reply Faults s faults;
    leaves = e ∙ ap (λ (log : Log). length (entries_of log)) s.list_left;
  }

  pub look_turned_to : (size : ℕ) → Served fault_count Looks before after → size ≡ length (entries_of after.seen) → TurnedTo tells (begins_at before) (LastTurn after) looks size
  look_turned_to size s e = record {
    turned = record {
      found = mark_of fault_count s.value;
      left = mark_of fault_count s.left;
      begins_at = s.grown;
      last_is = record { log_found = sym s.list_found; log_left = sym s.list_left; marks_found = sym s.marks_found; marks_left = sym s.marks_left };
      is_step = record {
        done = (ap (λ (r : Registered D). r.standing) s.does.0, s.does.1);
        grows = subst (λ (r : Registered D). IsPrefix s.value.standing.log r.standing.log) (sym s.does.0) (prefix_refl s.value.standing.log);
        faults = ap (λ (r : Registered D). fault_count r.disk) s.does.0;
      };
    };
    leaves = e ∙ ap (λ (log : Log). length (entries_of log)) s.list_left;
  }

  pub hint_named : (said : Said) (key : Option (List ℕ)) (Faults : ℕ → ℕ → Type 0) → Served fault_count (Works fault_count (IsTrue tells) (key_hint_call said) (hint key) Faults) before after
      → key_of after.seen said ≡ key
  hint_named said key Faults s =
      ap (λ (R : Log). key_of R said) s.list_left ∙ ap (λ (S : Standing). key_of S.log said) s.does.turn.turns.0 ∙ s.does.turn.turns.1
