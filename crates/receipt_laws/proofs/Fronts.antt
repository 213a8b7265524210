-- Logs that an accepted consistency receipt joins begin alike.
use Rattle.std.proofs.Common.{◌≡◌, ℕ, zero, suc, ◌≤◌, List, [], ◌∷◌, length, take, Option, None, Some, refl, sym, ap, ◌∙◌, subst, arith}
use Rattle.std.specs.Prelude.{filter_map}
use Rattle.std.specs.List.{cons_option}
use Rattle.std.proofs.lemmas.List.{length-take, take-take}
use Rattle.log_replay.specs.Records.{Log, entry_of, leaves_of, entries_of}
use Rattle.log_replay.specs.WellMade.{WellMade}
use Rattle.log_replay.specs.Growth.{EntriesAreLeaves}
use Rattle.relying_party.specs.Meaning.{MeansGrowth, ReceiptsMeanGrowth}
use Rattle.receipt_laws.specs.Growing.{BeginAlike, ConsistentIsOfTheLogs}

-- ---- what is given of each element, where nothing is left out

filter_short : {X Y : Type 0} (f : X → Option Y) (xs : List X) → length (filter_map f xs) ≤ length xs
filter_short f [] = omega arith
filter_short f (x ∷ xs) = one f x (f x) xs (filter_short f xs)
  where
    one : {X Y : Type 0} (f : X → Option Y) (x : X) (o : Option Y) (xs : List X) → length (filter_map f xs) ≤ length xs → length (cons_option o (filter_map f xs)) ≤ length (x ∷ xs)
    one f x None xs short = omega (arith, short)
    one f x (Some y) xs short = omega (arith, short)

take_given : {X Y : Type 0} (f : X → Option Y) (xs : List X) (k : ℕ) → length (filter_map f xs) ≡ length xs → take k (filter_map f xs) ≡ filter_map f (take k xs)
take_given f [] zero all = refl
take_given f [] (suc k) all = refl
take_given f (x ∷ xs) zero all = refl
take_given f (x ∷ xs) (suc k) all = one f x (f x) xs k all (take_given f xs k) (filter_short f xs)
  where
    one : {X Y : Type 0} (f : X → Option Y) (x : X) (o : Option Y) (xs : List X) (k : ℕ) → length (cons_option o (filter_map f xs)) ≡ length (x ∷ xs)
        → (length (filter_map f xs) ≡ length xs → take k (filter_map f xs) ≡ filter_map f (take k xs)) → length (filter_map f xs) ≤ length xs
        → take (suc k) (cons_option o (filter_map f xs)) ≡ cons_option o (filter_map f (take k xs))
    one f x None xs k all next short = absurd (omega (arith, all, short))
    one f x (Some y) xs k all next short = ap (λ ys. y ∷ ys) (next (omega (arith, all)))

-- ---- the entries of a front

entries_front : EntriesAreLeaves → (R : Log) (k : ℕ) → WellMade R → take k (entries_of R) ≡ filter_map entry_of (take k (leaves_of R))
entries_front both R k w = take_given entry_of (leaves_of R) k (both R w)

alike : EntriesAreLeaves → (A R : Log) (old size : ℕ) → WellMade A → WellMade R → old ≤ length (entries_of A) → size ≤ length (entries_of R)
    → take old (take size (leaves_of R)) ≡ take old (leaves_of A) → (old ≤ size) × BeginAlike A R old
alike both A R old size wa wr few most same =
    let within : old ≤ size = omega (arith, ap length same, length-take old (take size (leaves_of R)), length-take size (leaves_of R), length-take old (leaves_of A), both A wa, few) in
    let leaves : take old (leaves_of R) ≡ take old (leaves_of A) = sym (take-take old size (leaves_of R) within) ∙ same in (
      within,
      record {
        leaves = leaves;
        entries = entries_front both R old wr ∙ ap (filter_map entry_of) leaves ∙ sym (entries_front both A old wa);
      },
    )

front_long : EntriesAreLeaves → (R : Log) (size : ℕ) → WellMade R → size ≤ length (entries_of R) → length (take size (leaves_of R)) ≡ size
front_long both R size w within = omega (arith, within, both R w, length-take size (leaves_of R))

pub of_the_logs : EntriesAreLeaves → ReceiptsMeanGrowth → ConsistentIsOfTheLogs
of_the_logs both means trust bytes old old_root size root accepts =
    let told = subst (MeansGrowth bytes old old_root) (sym accepts) (means trust bytes old old_root) in (
      told.0,
      told.1,
      λ A R a r first second third.
          alike both A R old size a.sound r.sound a.within r.within (told.2 (take old (leaves_of A)) (take size (leaves_of R)) (front_long both A old a.sound a.within) (front_long both R size r.sound r.within) a.front r.front first second third),
    )
