use Rattle.std.proofs.Common.{◌≡◌, ℕ, ◌+◌, ◌-◌, ◌<◌, ◌≤◌, ◌⊎◌, List, [], ◌∷◌, ◌++◌, length, take, drop, get_or, refl, ap, sym, ◌∙◌, inl, inr, arith, append_assoc, length-append, length-drop}
use Rattle.std.proofs.lemmas.List.{ext_get_or, get_or_append_left, get_or-append_right, get_or_at, get_or-drop, take_at, drop_at, drop-drop, places}
use Rattle.std.proofs.lemmas.Bool.{cases_lt}
use Rattle.scitt_disk.specs.Images.{Epoch, Untouched, greatest, IsImage}
use Rattle.scitt_disk.specs.Changes.{put}
use Rattle.scitt_journal.specs.State.{AllFrom, AllAt}

pub untouched_before : (n : ℕ) (ranges : List (ℕ × ℕ)) (i : ℕ) → AllFrom n ranges → i < n → Untouched ranges i
untouched_before n [] i from below = tt
untouched_before n (range ∷ ranges) i from below =
    (inl (omega (arith, from.0)), untouched_before n ranges i from.1 below)

pub untouched_but : (n : ℕ) (ranges : List (ℕ × ℕ)) (i : ℕ) → AllAt n ranges → (i < n) ⊎ (n < i) → Untouched ranges i
untouched_but n [] i at apart = tt
untouched_but n (range ∷ ranges) i at (inl below) =
    (inl (omega (arith, at.0)), untouched_but n ranges i at.2 (inl below))
untouched_but n (range ∷ ranges) i at (inr above) =
    (inr (omega (arith, at.0, at.1)), untouched_but n ranges i at.2 (inr above))

-- ranges at a place within a file don't lengthen it
pub greatest_at : (n len : ℕ) (ranges : List (ℕ × ℕ)) → AllAt n ranges → n < len → greatest len ranges ≡ len
greatest_at n len [] at within = refl
greatest_at n len (range ∷ ranges) at within =
    omega (arith, at.0, at.1, greatest_at n len ranges at.2 within)

-- an element of a ++ x ∷ b
pub get_or_before : (a : List ℕ) (x : ℕ) (b : List ℕ) (i : ℕ) → i < length a → get_or (a ++ x ∷ b) i 0 ≡ get_or a i 0
get_or_before a x b i below = get_or_append_left a (x ∷ b) 0 i below

pub get_or_after : (a : List ℕ) (x : ℕ) (b : List ℕ) (i : ℕ) → length a < i → get_or (a ++ x ∷ b) i 0 ≡ get_or b (i - (length a + 1)) 0
get_or_after a x b i above =
    grind (arith, places, get_or-append_right a (x ∷ b) (length a) i 0)

length_mid : (a : List ℕ) (x : ℕ) (b : List ℕ) → length (a ++ x ∷ b) ≡ length a + 1 + length b
length_mid a x b = omega (arith, length-append a (x ∷ b))

-- where nothing was written but behind a place, an image begins as the synced bytes do
pub image_behind : (epoch : Epoch) (image a : List ℕ) (x : ℕ) (b : List ℕ) → epoch.synced ≡ a ++ x ∷ b → AllFrom (length a + 1) epoch.written → IsImage epoch image → image ≡ a ++ x ∷ drop (length a + 1) image
image_behind epoch image a x b e from is =
    let long : length a + 1 + length b ≤ length image = omega (arith, is.least, ap length e, length_mid a x b) in
    let tail : List ℕ = drop (length a + 1) image in
    let same : (i : ℕ) → i < length a + 1 → get_or image i 0 ≡ get_or (a ++ x ∷ b) i 0 = λ i below.
    is.same i (omega (arith, ap length e, length_mid a x b)) (untouched_before (length a + 1) epoch.written i from below) ∙ ap (λ bytes. get_or bytes i 0) e in
    ext_get_or 0 image (a ++ x ∷ tail)
    (omega (arith, long, length_mid a x tail, length-drop (length a + 1) image))
    (λ i within.
    elim (cases_lt i (length a)) [
      | inl below ↦ same i (omega arith) ∙ get_or_before a x b i below ∙ sym (get_or_before a x tail i below)
      | inr above ↦ elim (cases_lt (length a) i) [
        | inl behind ↦ sym (get_or_after a x tail i behind ∙ get_or-drop (length a + 1) image (i - (length a + 1)) 0 ∙ ap (λ k. get_or image k 0) (omega arith))
        | inr here ↦ same i (omega arith) ∙ get_or_at a x b 0 i (omega arith) ∙ sym (get_or_at a x tail 0 i (omega arith))
      ]
    ])

-- where nothing was written but at a place, an image is the synced bytes but for that byte
pub image_at : (epoch : Epoch) (image a : List ℕ) (x : ℕ) (b : List ℕ) → epoch.synced ≡ a ++ x ∷ b → AllAt (length a) epoch.written → IsImage epoch image → image ≡ a ++ get_or image (length a) 0 ∷ b
image_at epoch image a x b e at is =
    let long : length epoch.synced ≡ length a + 1 + length b = ap length e ∙ length_mid a x b in
    let most = greatest_at (length a) (length epoch.synced) epoch.written at (omega (arith, long)) in
    let y : ℕ = get_or image (length a) 0 in
    let same : (i : ℕ) → i < length epoch.synced → (i < length a) ⊎ (length a < i) → get_or image i 0 ≡ get_or (a ++ x ∷ b) i 0 = λ i within apart.
    is.same i within (untouched_but (length a) epoch.written i at apart) ∙ ap (λ bytes. get_or bytes i 0) e in
    ext_get_or 0 image (a ++ y ∷ b)
    (omega (arith, is.least, is.most, most, long, length_mid a y b))
    (λ i within.
    elim (cases_lt i (length a)) [
      | inl below ↦ same i (omega (arith, is.most, most)) (inl below) ∙ get_or_before a x b i below ∙ sym (get_or_before a y b i below)
      | inr above ↦ elim (cases_lt (length a) i) [
        | inl behind ↦ same i (omega (arith, is.most, most)) (inr behind) ∙ get_or_after a x b i behind ∙ sym (get_or_after a y b i behind)
        | inr here ↦ ap (λ k. get_or image k 0) (omega arith) ∙ sym (get_or_at a y b 0 i (omega arith))
      ]
    ])

-- a write behind a place, and a write at it
pub put_behind : (a : List ℕ) (x : ℕ) (b : List ℕ) (at : ℕ) (bytes : List ℕ) → at ≡ length a + 1 → put (a ++ x ∷ b) at bytes ≡ a ++ x ∷ (bytes ++ drop (length bytes) b)
put_behind a x b at bytes e =
    let front : List ℕ = a ++ x ∷ [] in
    let long : length front ≡ at = omega (arith, length_mid a x [], e) in
    let whole : a ++ x ∷ b ≡ front ++ b = sym (append_assoc a (x ∷ []) b) in
    let head : take at (front ++ b) ≡ front = take_at front b at long in
    let tail : drop (at + length bytes) (front ++ b) ≡ drop (length bytes) b = sym (drop-drop (length bytes) at (front ++ b)) ∙ ap (drop (length bytes)) (drop_at front b at long) in
    rw (whole, head, tail) (append_assoc front bytes (drop (length bytes) b) ∙ append_assoc a (x ∷ []) (bytes ++ drop (length bytes) b))

pub put_at : (a : List ℕ) (x : ℕ) (b : List ℕ) (at y : ℕ) → at ≡ length a → put (a ++ x ∷ b) at (y ∷ []) ≡ a ++ y ∷ b
put_at a x b at y e =
    let front : List ℕ = a ++ x ∷ [] in
    let long : length front ≡ at + 1 = omega (arith, length_mid a x [], e) in
    let whole : a ++ x ∷ b ≡ front ++ b = sym (append_assoc a (x ∷ []) b) in
    let head : take at (a ++ x ∷ b) ≡ a = take_at a (x ∷ b) at (sym e) in
    let tail : drop (at + 1) (a ++ x ∷ b) ≡ b = ap (drop (at + 1)) whole ∙ drop_at front b (at + 1) long in
    rw (head, tail) (append_assoc a (y ∷ []) b)
