-- The steps of the code that writes a path or a proof of a run.
use Rattle.std.proofs.Common.{◌≡◌, ℕ, ◌+◌, ◌-◌, ◌<◌, ◌≤◌, Bool, true, false, List, [], ◌∷◌, ◌++◌, length, take, drop, sym, ap, ◌∙◌, arith}
use Rattle.std.proofs.lemmas.List.{take_all}
use Rattle.merkle_tree.specs.Mth.{split_point}
use Rattle.merkle_tree.specs.Paths.{tree_path}
use Rattle.merkle_tree.specs.Consistency.{tree_sub}
use Rattle.merkle_tree.specs.Subtrees.{root_of_run}
use Rattle.merkle_tree.proofs.Splits.{Splits, split_point-splits}
use Rattle.merkle_tree.proofs.Leading.{tree_path-short}
use Rattle.merkle_tree.proofs.Descents.{put_left, put_right, put_whole, put_part, put_sub_left, put_sub_right}
use Rattle.merkle_tree.proofs.RunRoots.{run_len, front_part, back_part}

-- the run and its parts
record Cut (from len k : ℕ) (all : List (List ℕ)) : Type 0 where
  size : length (take len (drop from all)) ≡ len
  point : k ≡ split_point (length (take len (drop from all)))
  front : take k (drop from all) ≡ take k (take len (drop from all))
  back : take (len - k) (drop (from + k) all) ≡ drop k (take len (drop from all))

cut_of : (from len k : ℕ) (all : List (List ℕ)) → 2 ≤ len → from + len ≤ length all → k ≡ split_point len → Cut from len k all
cut_of from len k all many within is =
    let size : length (take len (drop from all)) ≡ len = run_len from len all within in
    let splits : Splits len (split_point len) = split_point-splits len many in
    let low : k ≤ len = omega (arith, is, splits.below) in
    record { size = size; point = is ∙ ap split_point (sym size); front = front_part from len k all low; back = back_part from len k all low }

pub path_short : (m from len : ℕ) (all path : List (List ℕ)) → len < 2 → from + len ≤ length all → path ≡ path ++ tree_path m (take len (drop from all))
path_short m from len all path few within = tree_path-short m (take len (drop from all)) path (omega (arith, run_len from len all within))

pub path_left : (m from len k : ℕ) (all old mid new : List (List ℕ)) (root : List ℕ) → 2 ≤ len → from + len ≤ length all → k ≡ split_point len → m < k
    → root ≡ root_of_run all (from + k) (len - k) → mid ≡ old ++ tree_path m (take k (drop from all)) → new ≡ mid ++ root ∷ [] → new ≡ old ++ tree_path m (take len (drop from all))
path_left m from len k all old mid new root many within is low r e g =
    let cut = cut_of from len k all many within is in
    put_left m k (take len (drop from all)) (take k (drop from all)) (take (len - k) (drop (from + k) all)) old mid new root (omega (arith, cut.size)) cut.point low cut.front cut.back r e g

pub path_right : (m from len k : ℕ) (all old mid new : List (List ℕ)) (root : List ℕ) → 2 ≤ len → from + len ≤ length all → k ≡ split_point len → k ≤ m
    → root ≡ root_of_run all from k → mid ≡ old ++ tree_path (m - k) (take (len - k) (drop (from + k) all)) → new ≡ mid ++ root ∷ [] → new ≡ old ++ tree_path m (take len (drop from all))
path_right m from len k all old mid new root many within is high r e g =
    let cut = cut_of from len k all many within is in
    put_right m k (take len (drop from all)) (take k (drop from all)) (take (len - k) (drop (from + k) all)) old mid new root (omega (arith, cut.size)) cut.point high cut.front cut.back r e g

pub sub_whole : (m from len : ℕ) (whole : Bool) (all old : List (List ℕ)) → from + len ≤ length all → 0 < m → m ≡ len → whole ≡ true → old ≡ old ++ tree_sub m whole (take len (drop from all))
sub_whole m from len whole all old within some is test = put_whole m whole (take len (drop from all)) old some (is ∙ sym (run_len from len all within)) test

pub sub_part : (m from len : ℕ) (whole : Bool) (all old new : List (List ℕ)) (root : List ℕ) → from + len ≤ length all → 0 < m → m ≡ len → whole ≡ false → root ≡ root_of_run all from len
    → new ≡ old ++ root ∷ [] → new ≡ old ++ tree_sub m whole (take len (drop from all))
sub_part m from len whole all old new root within some is test r e = put_part m whole (take len (drop from all)) old new root some (is ∙ sym (run_len from len all within)) test r e

pub sub_left : (m from len k : ℕ) (whole : Bool) (all old mid new : List (List ℕ)) (root : List ℕ) → from + len ≤ length all → 0 < m → m < len → k ≡ split_point len → m ≤ k
    → root ≡ root_of_run all (from + k) (len - k) → mid ≡ old ++ tree_sub m whole (take k (drop from all)) → new ≡ mid ++ root ∷ [] → new ≡ old ++ tree_sub m whole (take len (drop from all))
sub_left m from len k whole all old mid new root within some less is low r e g =
    let cut = cut_of from len k all (omega arith) within is in
    put_sub_left m k whole (take len (drop from all)) (take k (drop from all)) (take (len - k) (drop (from + k) all)) old mid new root some (omega (arith, cut.size)) cut.point low cut.front cut.back r e g

pub sub_right : (m from len k : ℕ) (whole : Bool) (all old mid new : List (List ℕ)) (root : List ℕ) → from + len ≤ length all → 0 < m → m < len → k ≡ split_point len → k < m
    → root ≡ root_of_run all from k → mid ≡ old ++ tree_sub (m - k) false (take (len - k) (drop (from + k) all)) → new ≡ mid ++ root ∷ [] → new ≡ old ++ tree_sub m whole (take len (drop from all))
sub_right m from len k whole all old mid new root within some less is high r e g =
    let cut = cut_of from len k all (omega arith) within is in
    put_sub_right m k whole (take len (drop from all)) (take k (drop from all)) (take (len - k) (drop (from + k) all)) old mid new root some (omega (arith, cut.size)) cut.point high cut.front cut.back r e g

-- a run of all is all
pub all_of : (n : ℕ) (runs all : List (List ℕ)) → runs ≡ all → length all ≤ n → take n (drop 0 runs) ≡ all
all_of n runs all is low = ap (take n) is ∙ take_all n all low
