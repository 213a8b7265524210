-- One step of the code is one step of the chain.
use Rattle.std.proofs.Common.{◌≡◌, ℕ, ◌∙◌, ap, sym, subst, refl, take, arith, rules}
use Rattle.lms_ots.specs.Words.{u16str}
use Rattle.lms_ots.specs.Chains.{step, prefix}
use Rattle.lms_ots.proofs.ChainLaws.{chain_more, chain_ended}
use Rattle.lms_ots.proofs.chains.chain.Goals as goal

pub loop-j-init : goal.loop-j-init
loop-j-init c =
    let end : c.put.result ≡ 22 = search rules in
    let written = c.put.ensures.written ∙ c.prefix.ensures ∙ ap (prefix c.args.at.now) c.u16str.ensures in
    record {
      front = subst (λ (n : ℕ). take n c.put.new.buf ≡ prefix c.args.at.now (u16str c.args.i)) end written;
      whole = search rules;
      rest = refl;
    }

pub loop-j-preserved : goal.loop-j-preserved
unfolding step
loop-j-preserved c =
    let p = c.args.at.now in
    let inv = c.loop-j.invariant in
    let one = chain_more p c.args.i c.loop-j.j c.args.end c.loop-j.value (omega arith) in
    let same : c.relink-value.result ≡ step p c.args.i c.loop-j.j c.loop-j.value = rw inv.front at c.relink-value.ensures.value in
    record {
      front = c.relink-value.ensures.front ∙ inv.front;
      whole = c.relink-value.ensures.len;
      rest = rw same (sym one ∙ inv.rest);
    }

pub returns : goal.returns
returns c =
    let last : c.loop-j.j ≡ c.args.end = omega arith in
    let ended = chain_ended c.args.at.now c.args.i c.args.end c.loop-j.value in
    sym ended ∙ rw last at c.loop-j.invariant.rest
