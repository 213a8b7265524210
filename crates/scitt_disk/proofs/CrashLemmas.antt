use Rattle.std.proofs.Common.{◌≡◌, ℕ, ◌+◌, ◌-◌, ◌^◌, ◌/◌, ◌%◌, ◌⊎◌, ◌<◌, ◌≤◌, min, max, Bool, true, false, List, [], ◌∷◌, length, take, get_or, refl, sym, ap, ◌∙◌, inl, inr, arith, if◌then◌else◌, Result, Ok, Err, IfOk}
use Rattle.std.proofs.lemmas.List.{take_more}
use Rattle.scitt_disk.specs.Images.{Epoch, Held, greatest, IsImage}
use Rattle.std.specs.Prelude.{◌&&◌, ◌==◌, nat_lt}
use Rattle.std.proofs.lemmas.List.{ext_get_or}
use Rattle.std.proofs.lemmas.Bool.{lt-ltb}
use Rattle.scitt_disk.specs.Mixed.{IsMixed, IsPicked, takes_new}
use Rattle.scitt_disk.specs.declared.changes.Change.{Change}
use Rattle.scitt_disk.specs.declared.changes.Change.TheVariants.{Wrote, Refused, Synced}
use Rattle.scitt_disk.specs.Calls.{after_change, replay, ends_epoch, end_of}
use Rattle.scitt_disk.proofs.Replay.{replay_push}

-- one change more of a list
pub replay-take_more : (start : Held) (changes : List Change) (i : ℕ) (change : Change) → i < length changes → change ≡ get_or changes i change → replay start (take (i + 1) changes) ≡ after_change (replay start (take i changes)) change
replay-take_more start changes i change within is =
    ap (replay start) (take_more changes i change within) ∙ replay_push start (take i changes) (get_or changes i change) ∙ ap (after_change (replay start (take i changes))) (sym is)

pub synced-after_sync : (held : Held) (change : Change) → ends_epoch change ≡ true → (after_change held change).epoch.synced ≡ (after_change held change).seen
synced-after_sync held (Wrote at bytes) e = cc
synced-after_sync held (Refused at n) e = cc
synced-after_sync held Synced e = refl

pub synced-after_other : (held : Held) (change : Change) → ends_epoch change ≡ false → (after_change held change).epoch.synced ≡ held.epoch.synced
synced-after_other held (Wrote at bytes) e = refl
synced-after_other held (Refused at n) e = refl
synced-after_other held Synced e = cc

pub greatest-after_change : (held : Held) (change : Change) → greatest 0 (after_change held change).epoch.written ≡ (if ends_epoch change then 0 else max (end_of change) (greatest 0 held.epoch.written))
greatest-after_change held (Wrote at bytes) = refl
greatest-after_change held (Refused at n) = refl
greatest-after_change held Synced = refl

pub greatest_max : (n : ℕ) (ranges : List (ℕ × ℕ)) → greatest n ranges ≡ max n (greatest 0 ranges)
greatest_max n [] = omega arith
greatest_max n (range ∷ ranges) = omega (arith, greatest_max n ranges)

pub end_is : (sync : Bool) (next end own last : ℕ) → next ≡ min (if sync then 0 else max end own) (2 ^ 64 - 1) → end ≡ min last (2 ^ 64 - 1) → next ≡ min (if sync then 0 else max own last) (2 ^ 64 - 1)
end_is true next end own last h k = h
end_is false next end own last h k = omega arith

pub most_is : (epoch : Epoch) (seen : List ℕ) (end most : ℕ) → IsImage epoch seen → length seen < 2 ^ 64 → end ≡ min (greatest 0 epoch.written) (2 ^ 64 - 1) → most ≡ max end (length seen) → most ≡ min (greatest (length epoch.synced) epoch.written) (2 ^ 64 - 1)
most_is epoch seen end most is fits ends mixed =
    omega (arith, is.least, is.most, greatest_max (length epoch.synced) epoch.written)

-- the image of a pick: its length is between the least and the greatest, and a byte below the least is the old one or the new one
len_between : (one low : Bool) (old new most x : ℕ) → old ≤ new → new ≤ most → x ≤ most → (old ≤ (if one then new else (if low then old else max old x))) × ((if one then new else (if low then old else max old x)) ≤ most)
len_between true low old new most x h k m = (h, k)
len_between false true old new most x h k m = (omega arith, omega arith)
len_between false false old new most x h k m = (omega arith, omega arith)

is_either : (a b : Bool) (x y z : ℕ) → b ≡ true → ((if a then x else (if b then y else z)) ≡ y) ⊎ ((if a then x else (if b then y else z)) ≡ x)
is_either true b x y z e = inr refl
is_either false true x y z e = inl refl
is_either false false x y z e = cc

pub IsImage-picked : (pick most : ℕ) (epoch : Epoch) (seen image : List ℕ) → IsImage epoch seen → most ≡ min (greatest (length epoch.synced) epoch.written) (2 ^ 64 - 1) → length seen < 2 ^ 64 → IsMixed pick most epoch.synced seen image → IsImage epoch image
IsImage-picked pick most epoch seen image was e fits mixed =
    let between = len_between (pick == 1) (nat_lt pick 3) (length epoch.synced) (length seen) most (most - (pick / 4 - 1)) was.least (omega (arith, was.most)) (omega arith) in
    record {
      least = rw mixed.len between.0;
      most = omega (arith, mixed.len, between.1);
      same = λ i within outside.
          mixed.bytes i (omega (arith, mixed.len, between.0)) ∙ elim (is_either (nat_lt i (length seen) && takes_new pick i) (nat_lt i (length epoch.synced)) (get_or seen i 0) (get_or epoch.synced i 0) (pick % 3 + 1) (lt-ltb i (length epoch.synced) within)) [
            | inl old ↦ old
            | inr new ↦ new ∙ was.same i within outside
          ];
    }

old_byte : (a b : Bool) (x y z : ℕ) → b ≡ true → (if (a && false) then x else (if b then y else z)) ≡ y
old_byte true true x y z e = refl
old_byte true false x y z e = cc
old_byte false true x y z e = refl
old_byte false false x y z e = cc

new_byte : (a : Bool) (x y : ℕ) → a ≡ true → (if (a && true) then x else y) ≡ x
new_byte true x y e = refl
new_byte false x y e = cc

pub mixed_old : (pick most : ℕ) (old new image : List ℕ) → pick ≡ 0 → IsMixed pick most old new image → image ≡ old
mixed_old pick most old new image zero mixed =
    let at_zero : IsMixed 0 most old new image = rw zero at mixed in
    ext_get_or 0 image old at_zero.len (λ i within. at_zero.bytes i within ∙ old_byte (nat_lt i (length new)) (nat_lt i (length old)) (get_or new i 0) (get_or old i 0) 1 (lt-ltb i (length old) (omega (arith, at_zero.len))))

pub mixed_new : (pick most : ℕ) (old new image : List ℕ) → pick ≡ 1 → IsMixed pick most old new image → image ≡ new
mixed_new pick most old new image one mixed =
    let at_one : IsMixed 1 most old new image = rw one at mixed in
    ext_get_or 0 image new at_one.len (λ i within. at_one.bytes i within ∙ new_byte (nat_lt i (length new)) (get_or new i 0) _ (lt-ltb i (length new) (omega (arith, at_one.len))))

-- the same, of what a call answers
pub if_ok : {T E : Type 0} (P Q : T → Type 0) (answer : Result T E) → ((v : T) → P v → Q v) → IfOk answer P → IfOk answer Q
if_ok P Q (Ok v) step was = step v was
if_ok P Q (Err x) step was = tt

pub picked_of : (pick most : ℕ) (held : Held) (old seen image : List ℕ) → old ≡ held.epoch.synced → seen ≡ held.seen → most ≡ min (greatest (length held.epoch.synced) held.epoch.written) (2 ^ 64 - 1) → IsMixed pick most old seen image → IsPicked pick held image
picked_of pick most held old seen image o s m mixed = rw (o, s, m) at mixed
