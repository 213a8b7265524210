use Rattle.std.proofs.Common.{◌≡◌, ◌+◌, ◌-◌, ◌≤◌, length}
use Rattle.std.specs.List.{All}
use Rattle.turn_lock.specs.Calls.{Caller}
use Rattle.scittd.proofs.serving.seats_of.Given as goal

abbrev pub invariant-loop-first : goal.invariant-loop-first
invariant-loop-first g l = record {
  lock : l.first.lock ≡ l.service;
  weight : l.first.weight + length l.seats.items ≡ l.fn.first.weight;
  most : length l.seats.items ≤ l.workers;
  seats : All (λ (seat : Caller). seat.lock ≡ l.service) l.seats.items;
}

abbrev pub decreases-loop-first : goal.decreases-loop-first
decreases-loop-first g l = l.workers - length l.seats.items
