-- The buffer takes one chain after another.
use Rattle.std.proofs.Common.{◌≡◌, ℕ, ◌+◌, ◌*◌, ◌≤◌, ◌++◌, ◌∙◌, sym, ap, length, take, rules, arith}
use Rattle.std.proofs.lemmas.List.{take_all}
use Rattle.lms_ots.specs.Words.{u32str}
use Rattle.lms_ots.specs.Chains.{secret, chain}
use Rattle.lms_ots.specs.Digits.{coef}
use Rattle.lms_ots.specs.OneTime.{randomizer, ots_sig}
use Rattle.lms_ots.specs.declared.parameters.OtsParameters.{OtsParameters}
use Rattle.lms_ots.proofs.JoinedLaws.{joined_start, joined_after}
use Rattle.lms_ots.proofs.OneTimeLaws.{front_type-ots_sig, ots_candidate-ots_sig}
use Rattle.lms_ots.proofs.one_time.ots_sign_into.Goals as goal
use Rattle.lms_ots.proofs.one_time.ots_sign_into.Goals.{After-loop-i}

pub loop-i-init : goal.loop-i-init
loop-i-init c =
    let w = c.parameters-row.result.width in
    let f = λ (i : ℕ). chain c.args.at.now i 0 (coef c.with_checksum-digits.result i w) (secret c.args.at.now i c.args.seed.now) in
    let before = u32str c.parameters-row.result.code ++ randomizer c.args.at.now c.args.seed.now in
    record {
      reached = search rules;
      written =
          let front : take c.put-end.result c.put-end.new.buf ≡ before = cc in
          front ∙ sym (joined_start before f);
    }

pub put-end-requires-in-loop-i : goal.put-end-requires-in-loop-i
put-end-requires-in-loop-i c =
    let len = ap (λ (r : OtsParameters). r.sig_len) c.parameters-row.ensures.row in
    let room : 36 + 32 * c.loop-i.i + 32 ≤ length c.loop-i.buf = omega (arith, len, c.parameters-row.ensures.rule.length) in
    let reached : c.loop-i.end ≡ 36 + 32 * c.loop-i.i = c.loop-i.invariant.reached in
    search rules

pub loop-i-preserved : goal.loop-i-preserved
loop-i-preserved c =
    let w = c.parameters-row.result.width in
    let f = λ (i : ℕ). chain c.args.at.now i 0 (coef c.with_checksum-digits.result i w) (secret c.args.at.now i c.args.seed.now) in
    let before = u32str c.parameters-row.result.code ++ randomizer c.args.at.now c.args.seed.now in
    let one = rw (c.coef-digit.ensures.value, c.ots_secret-secret.ensures) at c.chain.ensures in
    let more = joined_after before f c.loop-i.i c.chain.result one in
    record {
      reached = search rules;
      written = c.put-end-in-loop-i.ensures.written ∙ ap (λ xs. xs ++ c.chain.result) c.loop-i.invariant.written ∙ more;
    }

-- the whole buffer is the signature
written_whole : (c : After-loop-i) → c.loop-i.buf ≡ ots_sig c.args.kind c.args.at.now c.args.seed.now c.args.msg.now
unfolding ots_sig
written_whole c =
    let len = ap (λ (r : OtsParameters). r.sig_len) c.parameters-row.ensures.row in
    let n : c.loop-i.i ≡ c.parameters-row.result.chains = omega arith in
    let all : length c.loop-i.buf ≤ c.loop-i.end = omega (arith, len, c.parameters-row.ensures.rule.length) in
    let whole = take_all c.loop-i.end c.loop-i.buf all in
    let digits = rw (c.message_hash.ensures, c.ots_secret-randomizer.ensures) at c.with_checksum-digits.ensures in
    rw (← digits, ← c.parameters-row.ensures.row) (sym whole ∙ rw n at c.loop-i.invariant.written)

pub returns : goal.returns
returns c =
    let whole = written_whole c in
    record {
      written = whole;
      typed = rw whole (front_type-ots_sig c.args.kind c.args.at.now c.args.seed.now c.args.msg.now);
      key = rw whole (ots_candidate-ots_sig c.args.kind c.args.at.now c.args.seed.now c.args.msg.now);
    }
