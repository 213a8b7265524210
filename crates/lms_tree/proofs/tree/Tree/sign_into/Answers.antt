-- The signature is written piece by piece.
use Rattle.std.proofs.Common.{◌≡◌, ◌≤◌, ◌+◌, ◌*◌, ◌<◌, sym, subst, length, arith}
use Rattle.std.proofs.lemmas.List.{take_all}
use Rattle.lms_tree.specs.Types.{height, leaf_count, sig_len}
use Rattle.lms_tree.specs.Nodes.{lms_public, lms_sig}
use Rattle.lms_tree.specs.Verifies.{LmsVerifies}
use Rattle.lms_tree.specs.Trees.{TreeKey}
use Rattle.lms_tree.proofs.tree.Tree.sign_into.Goals as goal

pub returns : goal.returns
unfolding lms_sig
returns c =
    let t = c.self.inside in
    let level = t.level in
    let held = rw c.deref.ensures.value at c.write_path.ensures in
    let path = held t.id t.seed c.self.invariant.held in
    let key = c.self.view_is in
    let len : length c.args.buf.now ≡ sig_len level = subst (λ (k : TreeKey). length c.args.buf.now ≡ sig_len k.level) (sym key) c.requires.len in
    let leaf : c.args.q < leaf_count level = subst (λ (k : TreeKey). c.args.q < leaf_count k.level) (sym key) c.requires.leaf in
    let all : length c.write_path.new.buf ≤ c.put-code_end.result + 32 * height level =
    omega (arith, len) in
    let whole = take_all _ c.write_path.new.buf all in
    let written : c.write_path.new.buf ≡ lms_sig level t.id t.seed c.args.q c.args.msg.now = cc in
    let sound : LmsVerifies (lms_public level t.id t.seed) c.write_path.new.buf c.args.msg.now =
    rw written (c.lms_law.ensures.verifies level t.id t.seed c.args.q c.args.msg.now c.self.invariant.named leaf) in
    record {
      written = subst (λ (k : TreeKey). c.write_path.new.buf ≡ lms_sig k.level k.id k.seed c.args.q c.args.msg.now) key written;
      verifies = subst (λ (k : TreeKey). LmsVerifies (lms_public k.level k.id k.seed) c.write_path.new.buf c.args.msg.now) key sound;
    }
