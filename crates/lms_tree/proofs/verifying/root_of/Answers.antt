-- The signature has a candidate key, since it has the level's types.
use Rattle.std.proofs.Common.{◌≡◌, ◌+◌, ◌-◌, ◌≤◌, length, Ok, arith, rules}
use Rattle.lms_ots.specs.Words.{part}
use Rattle.lms_ots.specs.Parameters.{parameters}
use Rattle.lms_ots.specs.OneTime.{ots_candidate}
use Rattle.lms_tree.specs.Nodes.{key_name}
use Rattle.lms_tree.specs.Verifies.{root_of_sig}
use Rattle.lms_tree.proofs.Fronts.{front_type-part}
use Rattle.lms_tree.proofs.verifying.root_of.Goals as goal
use Rattle.lms_tree.proofs.verifying.root_of.Goals.{After-ots_public_from}

candidate_is : (c : After-ots_public_from) → c.ots_public_from.result
    ≡ Ok (ots_candidate c.args.level.ots (key_name c.args.id c.u32_at-q.result) (part c.args.sig.now 4 (parameters c.args.level.ots).sig_len) c.args.msg.now)
unfolding part
candidate_is c =
    let ots = c.args.level.ots in
    let n = (parameters ots).sig_len in
    let room : 4 + n ≤ length c.args.sig.now = omega (arith, c.requires.whole) in
    let front = front_type-part c.word_law.ensures c.ots_law.ensures c.args.sig.now 4 ots room c.requires.ots_code in
    let len = c.word_law.ensures.part_len c.args.sig.now 4 n room in
    let to_end : 4 + c.ots_sig_len-ots_end.result - 4 ≡ n = omega (arith, c.ots_sig_len-ots_end.ensures) in
    (rw to_end at (c.ots_public_from.ensures.key ots)) front len

pub unwrap-key-requires : goal.unwrap-key-requires
unwrap-key-requires c =
    let got = candidate_is c in
    search rules

pub returns : goal.returns
unfolding root_of_sig
returns c =
    let n = (parameters c.args.level.ots).sig_len in
    let got = candidate_is (goal.at.returns c).After-ots_public_from in
    let key : c.unwrap-key.result ≡ ots_candidate c.args.level.ots (key_name c.args.id c.u32_at-q.result) (part c.args.sig.now 4 n) c.args.msg.now = cc (got, c.unwrap-key.ensures) in
    let start : 4 + c.ots_sig_len-ots_end.result + 4 ≡ 8 + n = omega (arith, c.ots_sig_len-ots_end.ensures) in
    rw (c.leaf.ensures, key, start, c.leaf_count.ensures.value, c.u32_at-q.ensures, c.height.ensures.value) at c.root_from.ensures
