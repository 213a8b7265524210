-- A level verifies where its signature verifies the next key, and what is left verifies below.
use Rattle.std.proofs.Common.{◌+◌, ◌≤◌, length, sym, arith}
use Rattle.std.proofs.lemmas.Slice.{between_to_end}
use Rattle.lms_ots.specs.Words.{part}
use Rattle.lms_tree.specs.Verifies.{LmsVerifies}
use Rattle.hss_keys.proofs.VerifyLaws.{step_opened, step_closed}
use Rattle.hss_keys.proofs.verifying.+verify_below.Goals as goal

pub returns-then-sig-len : goal.returns-then-sig-len
returns-then-sig-len t c = (
  λ h. cc,
  λ v.
      let open_ = step_opened c.word_law.ensures c.args.count c.args.public.now c.args.sig.now c.args.msg.now c.in-Some.level (omega arith) (sym c.in-Some.ensures) v in
      absurd (omega (arith, open_.0, c.lms_sig_len-len.ensures.value)),
)

pub returns-then-verify : goal.returns-then-verify
unfolding part
returns-then-verify t c =
    let n = c.lms_sig_len-len.result in
    let sig = c.args.sig.now in
    let e = c.lms_sig_len-len.ensures.value in
    let room : n + 56 ≤ length sig = omega arith in
    let signed : LmsVerifies c.args.public.now (part sig 0 n) (part sig n 56) = rw c.public_at-next.ensures at (c.verify-in-Some.ensures.0 c.if-verify.true) in
    let below = rw (between_to_end sig (n + 56) (length sig) (omega arith), c.public_at-next.ensures) at c.verify_below.ensures in (
      λ h. step_closed c.args.count c.args.public.now sig c.args.msg.now n (omega arith) room (record { signed = signed; below = below.0 h }),
      λ v.
          let open_ = step_opened c.word_law.ensures c.args.count c.args.public.now sig c.args.msg.now c.in-Some.level (omega arith) (sym c.in-Some.ensures) v in
          below.1 (rw e open_.1.below),
    )

pub returns-else-verify : goal.returns-else-verify
unfolding part
returns-else-verify t c =
    let n = c.lms_sig_len-len.result in
    let sig = c.args.sig.now in
    let signed = rw c.public_at-next.ensures at c.verify-in-Some.ensures in (
      λ h. cc,
      λ v.
          let open_ = step_opened c.word_law.ensures c.args.count c.args.public.now sig c.args.msg.now c.in-Some.level (omega arith) (sym c.in-Some.ensures) v in
          signed.1 (rw c.lms_sig_len-len.ensures.value open_.1.signed),
    )
