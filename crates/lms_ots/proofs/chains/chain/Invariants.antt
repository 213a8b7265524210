use Rattle.std.proofs.Common.{◌≡◌, length, take}
use Rattle.lms_ots.specs.Words.{u16str}
use Rattle.lms_ots.specs.Chains.{chain, prefix}
use Rattle.lms_ots.proofs.chains.chain.Given as goal

abbrev pub invariant-loop-j : goal.invariant-loop-j
invariant-loop-j l = record {
  front : take 22 l.block ≡ prefix l.at (u16str l.i);
  whole : length l.block ≡ 55;
  rest : chain l.at l.i l.j l.end l.value ≡ chain l.at l.i l.fn.first l.fn.end l.fn.x;
}
