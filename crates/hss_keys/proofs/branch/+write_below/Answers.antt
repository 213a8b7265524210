-- What is asked of the levels holds of those below the first one, and the pieces make the signature.
use Rattle.std.proofs.Common.{◌≡◌, ℕ, ◌<◌, ◌+◌, ◌-◌, ◌/◌, ◌++◌, List, ◌∙◌, ap, sym, length, get_or, take, drop, rules, tests, arith, length-take, length-drop}
use Rattle.std.proofs.Math.Nat.{div-one}
use Rattle.std.proofs.lemmas.List.{nil_from_length, append-nil, drop_all}
use Rattle.lms_ots.specs.declared.parameters.OtsType.TheVariants.{W1}
use Rattle.lms_tree.specs.declared.types.LmsType.TheVariants.{H5}
use Rattle.lms_tree.specs.declared.types.Level.{Level}
use Rattle.lms_tree.specs.Types.{sig_len}
use Rattle.lms_tree.specs.Trees.{TreeKey}
use Rattle.hss_keys.specs.Levels.{capacity}
use Rattle.hss_keys.specs.Signing.{signed_child, below_sig}
use Rattle.hss_keys.proofs.CapacityLaws.{capacity-nil, leaf_below}
use Rattle.hss_keys.proofs.BranchLaws.{child_level, child_named, small_rest, index_rest, len_rest, Opened, branch_opened, length-IsBranch, length-signed_child, below_sig-nil, below_sig-split}
use Rattle.hss_keys.proofs.branch.+write_below.Goals as goal
use Rattle.hss_keys.proofs.branch.+write_below.Goals.{After-deref}

pub returns-then-is_empty : goal.returns-then-is_empty
returns-then-is_empty t c =
    let index = c.args.index in
    let zero_len : length c.args.below.now ≡ 0 = search (rules, tests) in
    let none = nil_from_length c.args.below.now zero_len in
    let q : c.leaf_of.result ≡ index = c.leaf_of.ensures.value ∙ ap (λ (b : List Level). index / capacity b) none ∙ ap (λ n. index / n) capacity-nil ∙ div-one index in
    let written = rw q at c.sign_into.ensures.written in
    written ∙ sym (below_sig-nil c.args.tree.now index c.args.msg.now) ∙ ap (λ (b : List Level). below_sig c.args.tree.now b index c.args.msg.now) (sym none)

pub bounds-lower-0 : goal.bounds-lower-0
bounds-lower-0 t c =
    let some : 0 < length c.args.below.now = search (rules, tests) in
    omega (arith, length-IsBranch c.args.below.now c.args.tree.now c.args.index c.args.lower.now c.requires.held, some)

-- the first tree below, as it was read
first_below : (t : ℕ) (c : After-deref t) → Opened c.args.tree.now c.args.below.now c.args.index c.args.lower.now (get_or c.args.below.now 0 (record { lms = H5; ots = W1 })) c.index-lower-0.result
first_below t c =
    let d : Level = record { lms = H5; ots = W1 } in
    let opened = branch_opened c.args.tree.now c.args.below.now c.args.index c.args.lower.now d c.index-lower-0.result (search (rules, tests)) c.requires.held in
    rw (← c.index-lower-0.is) at opened

signed_len : (t : ℕ) (c : After-deref t) → length c.deref.result.now ≡ sig_len c.args.tree.now.level + 56
signed_len t c =
    let d : Level = record { lms = H5; ots = W1 } in
    let below = c.args.below.now in
    let key = c.args.tree.now in
    let signed = c.deref.ensures.value ∙ (first_below t c).signed in
    ap length signed ∙ length-signed_child c.lms_law.ensures (get_or below 0 d) key (c.args.index / capacity below) c.requires.named (leaf_below key.level below c.args.index c.requires.index)

pub put-end-requires : goal.put-end-requires
put-end-requires t c =
    let d : Level = record { lms = H5; ots = W1 } in
    let some : 0 < length c.args.below.now = search (rules, tests) in
    omega (arith, signed_len t c, len_rest c.args.below.now d some c.args.tree.now.level, c.requires.len)

pub write_below-requires : goal.write_below-requires
write_below-requires t c =
    let d : Level = record { lms = H5; ots = W1 } in
    let below = c.args.below.now in
    let key = c.args.tree.now in
    let next = get_or below 0 d in
    let some : 0 < length below = search (rules, tests) in
    let opened = first_below t (goal.at.write_below-requires t c).After-deref in
    let lvl : c.index-lower-0.result.tree.level ≡ next = ap (λ (k : TreeKey). k.level) opened.tree ∙ child_level next key (c.args.index / capacity below) in
    let len = len_rest below d some key.level in
    let end = signed_len t (goal.at.write_below-requires t c).After-deref in (
      search rules,
      (
        rw opened.tree (child_named c.lms_law.ensures next key (c.args.index / capacity below)),
        (
          rw lvl (small_rest below d some key.level c.requires.small),
          (
            rw lvl (index_rest below d some c.rest_of-rest.result c.rest_of-rest.ensures.index),
            (
              rw (opened.tree, c.rest_of-rest.ensures.value) opened.rest,
              rw lvl (omega (arith, length-take (length c.put-end.new.buf - c.put-end.result) (drop c.put-end.result c.put-end.new.buf), length-drop c.put-end.result c.put-end.new.buf, len, end, c.requires.len)),
            ),
          ),
        ),
      ),
    )

pub returns : goal.returns
returns t c =
    let d : Level = record { lms = H5; ots = W1 } in
    let below = c.args.below.now in
    let key = c.args.tree.now in
    let some : 0 < length below = search (rules, tests) in
    let opened = first_below t (goal.at.returns t c).After-deref in
    let whole = below_sig-split key below d c.args.index c.args.msg.now some in
    let signed = c.put-end.ensures.written ∙ c.deref.ensures.value ∙ opened.signed in
    let empty = drop_all (length c.put-end.new.buf - c.put-end.result) (drop c.put-end.result c.put-end.new.buf) (omega (arith, length-drop c.put-end.result c.put-end.new.buf)) in
    let rest = rw (opened.tree, c.rest_of-rest.ensures.value) at c.write_below.ensures in
    let new = c.put-end.new.buf in
    let front = take c.put-end.result new in
    let last = c.write_below.new.buf in
    ap (λ (xs : List ℕ). front ++ (last ++ xs)) empty ∙ ap (λ (xs : List ℕ). front ++ xs) (append-nil last)
    ∙ ap (λ (xs : List ℕ). xs ++ last) signed ∙ ap (λ (xs : List ℕ). signed_child (get_or below 0 d) key (c.args.index / capacity below) ++ xs) rest
    ∙ sym whole
