-- A tree that is filled: its leaves first, then node by node down to the root.
use Rattle.std.proofs.Common.{◌≡◌, ◌≢◌, inl, inr, ℕ, zero, suc, ◌+◌, ◌-◌, ◌*◌, ◌/◌, ◌^◌, ◌<◌, ◌≤◌, List, [], length, get_or, sym, ◌∙◌, arith}
use Rattle.std.proofs.Math.Nat.{pow-suc}
use Rattle.std.proofs.Math.Pow.{pow_mono, pow_pos}
use Rattle.std.proofs.Math.ListN.{set, length-set}
use Rattle.std.proofs.lemmas.List.{get_or-set_same, get_or-set_other}
use Rattle.std.proofs.lemmas.Bool.{cases_eq}
use Rattle.lms_ots.specs.OneTime.{ots_key}
use Rattle.lms_tree.specs.declared.types.Level.{Level}
use Rattle.lms_tree.specs.Types.{height, leaf_count}
use Rattle.lms_tree.specs.Nodes.{key_name, leaf, parent, node, sibling, path_node}
use Rattle.lms_tree.specs.Trees.{HoldsNodes}
use Rattle.lms_tree.proofs.NodeLaws.{node_at_leaf, node_above, number_low, number_high, sibling_low, sibling_high}

module _ (level : Level) (id seed : List ℕ) (nodes : List (List ℕ)) where
  leaf_held : ((k : ℕ) → k < leaf_count level → get_or nodes (leaf_count level + k) [] ≡ leaf id (leaf_count level + k) (ots_key level.ots (key_name id k) seed))
      → (r : ℕ) → leaf_count level ≤ r → r < 2 * leaf_count level → get_or nodes r [] ≡ node level id seed 0 r
  leaf_held each r low high =
      let k = r - leaf_count level in
      let there : leaf_count level + k ≡ r = omega arith in
      (rw there at (each k (omega arith))) ∙ sym (node_at_leaf level id seed r)

  each_leaf : ((k : ℕ) → k < leaf_count level → get_or nodes (leaf_count level + k) [] ≡ leaf id (leaf_count level + k) (ots_key level.ots (key_name id k) seed))
      → (up d r : ℕ) → up + d ≡ height level → 2 ^ d ≤ r → r < 2 ^ suc d → leaf_count level ≤ r
      → get_or nodes r [] ≡ node level id seed up r
  each_leaf each zero d r depth low high from =
      let same : d ≡ height level = omega arith in
      let twice = pow-suc 2 (height level) in
      let below : r < 2 ^ suc (height level) = rw (← same) high in
      leaf_held each r from (omega arith)
  each_leaf each (suc up) d r depth low high from =
      let above : 2 ^ suc d ≤ 2 ^ height level = pow_mono (omega arith) in
      absurd (omega arith)

  pub leaves_held : length nodes ≡ 2 * leaf_count level
      → ((k : ℕ) → k < leaf_count level → get_or nodes (leaf_count level + k) [] ≡ leaf id (leaf_count level + k) (ots_key level.ots (key_name id k) seed))
      → HoldsNodes level id seed nodes (leaf_count level)
  leaves_held whole each = record { count = whole; each = each_leaf each }

  module _ (number : ℕ) (value : List ℕ) (some : 1 ≤ number) (inner : number < leaf_count level) (held : HoldsNodes level id seed nodes (number + 1))
      (is : value ≡ parent id number (get_or nodes (2 * number) []) (get_or nodes (2 * number + 1) [])) where
    others : (up d r : ℕ) → up + d ≡ height level → 2 ^ d ≤ r → r < 2 ^ suc d → number ≤ r → r ≢ number
        → get_or (set nodes number value) r [] ≡ node level id seed up r
    others up d r depth low high from other =
        get_or-set_other nodes number r value [] other ∙ held.each up d r depth low high (omega arith)

    here : (up d : ℕ) → suc up + d ≡ height level → 2 ^ d ≤ number → number < 2 ^ suc d
        → get_or (set nodes number value) number [] ≡ node level id seed (suc up) number
    here up d depth low high =
        let twice = pow-suc 2 d in
        let again = pow-suc 2 (suc d) in
        let left = held.each up (suc d) (2 * number) (omega arith) (omega arith) (omega arith) (omega arith) in
        let right = held.each up (suc d) (2 * number + 1) (omega arith) (omega arith) (omega arith) (omega arith) in
        get_or-set_same nodes number value [] (omega (arith, held.count)) ∙ is ∙ rw (left, right) (sym (node_above level id seed up number))

    each_inner : (up d r : ℕ) → up + d ≡ height level → 2 ^ d ≤ r → r < 2 ^ suc d → number ≤ r
        → get_or (set nodes number value) r [] ≡ node level id seed up r
    each_inner zero d r depth low high from =
        let same : d ≡ height level = omega arith in
        let leaves : leaf_count level ≤ r = rw (← same) low in
        others zero d r depth low high from (omega arith)
    each_inner (suc up) d r depth low high from =
        elim (cases_eq r number) [
          | inl e ↦ rw e (here up d depth (rw e at low) (rw e at high))
          | inr other ↦ others (suc up) d r depth low high from other
        ]

    pub inner_held : HoldsNodes level id seed (set nodes number value) number
    inner_held = record { count = length-set nodes number value ∙ held.count; each = each_inner }

pub HoldsNodes-from : (level : Level) (id seed : List ℕ) (nodes : List (List ℕ)) (low high : ℕ) → low ≤ high → HoldsNodes level id seed nodes low → HoldsNodes level id seed nodes high
HoldsNodes-from level id seed nodes low high h held =
    record { count = held.count; each = λ up d r depth least most from. held.each up d r depth least most (omega arith) }

module _ (level : Level) (q i : ℕ) (leaf_below : q < leaf_count level) (inside : i < height level) where
  number : ℕ
  number = (leaf_count level + q) / 2 ^ i

  rest : ℕ
  rest = height level - (i + 1)

  whole : i + suc rest ≡ height level
  unfolding rest
  whole = omega arith

  low_end : 2 ^ suc rest ≤ number
  unfolding number
  low_end = rw whole at (number_low i (suc rest) q)

  high_end : number < 2 ^ suc (suc rest)
  unfolding number
  high_end =
      let small : q < 2 ^ (i + suc rest) = rw whole leaf_below in
      rw whole at (number_high i (suc rest) q small)

  -- the node beside that on leaf q's way is one of the tree's
  pub path_within : sibling ((leaf_count level + q) / 2 ^ i) < 2 * leaf_count level
  unfolding number
  path_within =
      let below = sibling_high rest number high_end in
      let deep : 2 ^ suc (suc rest) ≤ 2 ^ suc (height level) = pow_mono (omega (arith, whole)) in
      let twice = pow-suc 2 (height level) in
      omega arith

  pub path_held : (id seed : List ℕ) (nodes : List (List ℕ)) → HoldsNodes level id seed nodes 1 → get_or nodes (sibling ((leaf_count level + q) / 2 ^ i)) [] ≡ path_node level id seed q i
  unfolding number
  path_held id seed nodes held =
      let some : 0 < 2 ^ suc rest = pow_pos (suc rest) in
      let least = sibling_low rest number low_end in
      held.each i (suc rest) (sibling number) whole least (sibling_high rest number high_end) (omega arith)
