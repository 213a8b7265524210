use Rattle.std.proofs.Common.{◌≡◌, ℕ, ◌+◌, ◌-◌, suc, ◌≤◌, ◌⊎◌, List, [], ◌∷◌, ◌++◌, length, take, refl, ap, sym, ◌∙◌, inl, inr, arith, append_assoc, length-append}
use Rattle.std.proofs.lemmas.List.{ext_get_or, take_at}
use Rattle.scitt_disk.specs.Images.{Epoch, Held, IsImage, OneHas, moment, ImageNow, ImageSince, Continues}
use Rattle.scitt_disk.specs.SeenIsImage.{IsImage-fresh, IsImage-after_write}
use Rattle.scitt_disk.specs.Changes.{fresh, with_range, after_write, after_sync, AfterFailedWrite}

-- an image stays one with a range more
pub image_with_range : (at n : ℕ) (epoch : Epoch) (image : List ℕ) → IsImage epoch image → IsImage (with_range at n epoch) image
image_with_range at n epoch image was =
    record {
      least = was.least;
      most = omega (arith, was.most);
      same = λ i within outside. was.same i within outside.1;
    }

-- without a range there is one image
pub image_without_ranges : (bytes image : List ℕ) → IsImage (record { synced = bytes; written = [] }) image → image ≡ bytes
image_without_ranges bytes image is =
    ext_get_or 0 image bytes (omega (arith, is.least, is.most)) (λ i within. is.same i (omega (arith, is.least, is.most)) tt)

pub moment_later : (old new : Held) → Continues old new → moment old ≤ moment new
moment_later old new goes_on =
    omega (arith, ap length goes_on.earlier, length-append goes_on.closed old.earlier)

-- the epochs that were closed since a moment, split where a stretch of time began
one_of_two : (front back : List Epoch) (image : List ℕ) → OneHas (front ++ back) image → OneHas front image ⊎ OneHas back image
one_of_two [] back image has = inr has
one_of_two (epoch ∷ front) back image (inl is) = inl (inl is)
one_of_two (epoch ∷ front) back image (inr has) =
    elim (one_of_two front back image has) [ inl early ↦ inl (inr early) | inr late ↦ inr late ]

take_past : (front back : List Epoch) (n m : ℕ) → n ≡ length front + m → take n (front ++ back) ≡ front ++ take m back
take_past [] back n m e = let same : n ≡ m = omega arith in ap (λ k. take k back) same
take_past (epoch ∷ front) back n m e =
    let more : n ≡ suc (length front + m) = omega arith in
    rw more (ap (λ rest. epoch ∷ rest) (take_past front back (length front + m) m refl))

since_split : (old new : Held) (since : ℕ) (goes_on : Continues old new) → since ≤ moment old → take (moment new - since) new.earlier ≡ goes_on.closed ++ take (moment old - since) old.earlier
since_split old new since goes_on early =
    let long : length new.earlier ≡ length goes_on.closed + length old.earlier = ap length goes_on.earlier ∙ length-append goes_on.closed old.earlier in
    ap (take (length new.earlier - since)) goes_on.earlier ∙ take_past goes_on.closed old.earlier _ _ (omega arith)

since_own : (old new : Held) (goes_on : Continues old new) → take (moment new - moment old) new.earlier ≡ goes_on.closed
since_own old new goes_on =
    let long : length new.earlier ≡ length goes_on.closed + length old.earlier = ap length goes_on.earlier ∙ length-append goes_on.closed old.earlier in
    ap (take (length new.earlier - length old.earlier)) goes_on.earlier ∙ take_at goes_on.closed old.earlier _ (omega arith)

pub since_earlier : (old new : Held) (since : ℕ) (image : List ℕ) → Continues old new → since ≤ moment old → ImageSince new since image → ImageSince old since image ⊎ ImageSince new (moment old) image
since_earlier old new since image goes_on early (inl now) = inr (inl now)
since_earlier old new since image goes_on early (inr has) =
    elim (one_of_two goes_on.closed (take (moment old - since) old.earlier) image (rw (since_split old new since goes_on early) at has)) [
      | inl late ↦ inr (inr (rw (since_own old new goes_on) late))
      | inr before ↦ inl (inr before)
    ]

-- the other way round: what a crash might have left before a stretch, or in it, it might have left since then
all_of_one : (front back : List Epoch) (image : List ℕ) → OneHas back image → OneHas (front ++ back) image
all_of_one [] back image has = has
all_of_one (epoch ∷ front) back image has = inr (all_of_one front back image has)

all_of_other : (front back : List Epoch) (image : List ℕ) → OneHas front image → OneHas (front ++ back) image
all_of_other [] back image has = absurd has
all_of_other (epoch ∷ front) back image (inl is) = inl is
all_of_other (epoch ∷ front) back image (inr has) = inr (all_of_other front back image has)

since_stretch : (old new : Held) (since : ℕ) (image : List ℕ) → Continues old new → since ≤ moment old → ImageSince new (moment old) image → ImageSince new since image
since_stretch old new since image goes_on early (inl now) = inl now
since_stretch old new since image goes_on early (inr has) =
    inr (rw (since_split old new since goes_on early) (all_of_other goes_on.closed (take (moment old - since) old.earlier) image (rw (since_own old new goes_on) at has)))

since_before : (old new : Held) (since : ℕ) (image : List ℕ) → Continues old new → since ≤ moment old → ImageSince old since image → ImageSince new since image
since_before old new since image goes_on early (inl now) =
    since_stretch old new since image goes_on early (goes_on.kept image now)
since_before old new since image goes_on early (inr has) =
    inr (rw (since_split old new since goes_on early) (all_of_one goes_on.closed (take (moment old - since) old.earlier) image has))

pub continues_then : (first middle last : Held) → Continues first middle → Continues middle last → Continues first last
continues_then first middle last one two =
    record {
      closed = two.closed ++ one.closed;
      earlier = two.earlier ∙ ap (λ epochs. two.closed ++ epochs) one.earlier ∙ sym (append_assoc two.closed one.closed first.earlier);
      kept = λ image now.
          since_before middle last (moment first) image two (moment_later first middle one) (one.kept image now);
    }

-- within an epoch
none_since : (n : ℕ) (epochs : List Epoch) (image : List ℕ) → n ≡ 0 → OneHas (take n epochs) image → ⊥
none_since n epochs image e has = rw e at has

pub within_epoch : (old new : Held) (image : List ℕ) → new.earlier ≡ old.earlier → ImageSince new (moment old) image → ImageNow new image
within_epoch old new image same (inl now) = now
within_epoch old new image same (inr has) =
    absurd (none_since _ new.earlier image (omega (arith, ap length same)) has)

first_has : (n m : ℕ) (epoch : Epoch) (epochs : List Epoch) (image : List ℕ) → n ≡ suc m → IsImage epoch image → OneHas (take n (epoch ∷ epochs)) image
first_has n m epoch epochs image e is = rw e (inl is)

-- a state comes after itself, a write goes on, and so does one that failed
pub continues_self : (held : Held) → Continues held held
continues_self held = record { closed = []; earlier = refl; kept = λ image now. inl now }

pub continues_write : (at : ℕ) (bytes : List ℕ) (held : Held) → Continues held (after_write at bytes held)
continues_write at bytes held =
    record {
      closed = [];
      earlier = refl;
      kept = λ image now. inl (image_with_range at (length bytes) held.epoch image now);
    }

-- what a write leaves, one that failed may leave too
pub wrote_as_failed : (at : ℕ) (bytes : List ℕ) (old : Held) → AfterFailedWrite at (length bytes) old (after_write at bytes old)
wrote_as_failed at bytes old =
    record {
      epoch = inr refl;
      earlier = refl;
      seen = IsImage-after_write at bytes (fresh old.seen) (IsImage-fresh old.seen);
    }

image_kept : (at n : ℕ) (old new : Held) (image : List ℕ) → AfterFailedWrite at n old new → ImageNow old image → ImageNow new image
image_kept at n old new image failed now =
    elim failed.epoch [
      | inl same ↦ rw same now
      | inr more ↦ rw more (image_with_range at n old.epoch image now)
    ]

pub continues_failed : (at n : ℕ) (old new : Held) → AfterFailedWrite at n old new → Continues old new
continues_failed at n old new failed =
    record {
      closed = [];
      earlier = failed.earlier;
      kept = λ image now. inl (image_kept at n old new image failed now);
    }

pub continues_sync : (held : Held) → Continues held (after_sync held)
continues_sync held =
    record {
      closed = held.epoch ∷ [];
      earlier = refl;
      kept = λ image now. inr (first_has _ 0 held.epoch held.earlier image (omega arith) now);
    }

-- through a sync
one_more : (n m : ℕ) (epoch : Epoch) (epochs : List Epoch) (image : List ℕ) → n ≡ suc m → OneHas (take n (epoch ∷ epochs)) image → IsImage epoch image ⊎ OneHas (take m epochs) image
one_more n m epoch epochs image e has = rw e at has

pub through_sync : (held : Held) (image : List ℕ) → ImageSince (after_sync held) (moment held) image → ImageNow held image ⊎ (image ≡ held.seen)
through_sync held image (inl now) = inr (image_without_ranges held.seen image now)
through_sync held image (inr has) =
    elim (one_more _ 0 held.epoch held.earlier image (omega arith) has) [
      | inl before ↦ inl before
      | inr none ↦ absurd none
    ]

-- at a state between two others
pub inside_since : (first middle last : Held) (image : List ℕ) → Continues first middle → Continues middle last → ImageNow middle image → ImageSince last (moment first) image
inside_since first middle last image one two now =
    since_stretch middle last (moment first) image two (moment_later first middle one) (two.kept image now)
