use Rattle.std.proofs.Common.{◌≡◌, ◌-◌, ◌≤◌, reverse, length}
use Rattle.cbor_feed.specs.Chains.{start_of, Chain}
use Rattle.cbor_feed.proofs.walk.walk.Given as goal

abbrev pub invariant-loop-item : goal.invariant-loop-item
invariant-loop-item l = record {
  chain : Chain l.g (reverse l.frames.items) l.held;
  place : start_of (reverse l.frames.items) ≡ l.at;
  within : l.at ≤ length l.held;
}

abbrev pub decreases-loop-item : goal.decreases-loop-item
decreases-loop-item l = length l.held - l.at
