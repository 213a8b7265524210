-- What a key file's records are after its calls.
use Rattle.std.proofs.Common.{◌≡◌, ℕ, ◌+◌, ◌<◌, min, List, [], ◌∷◌, ◌++◌, Option, Some, None, inl, inr, sym, ap, ◌∙◌, subst, arith}
use Rattle.std.specs.Prelude.{filter_map, fold, Ok, Err}
use Rattle.std.specs.List.{cons_option}
use Rattle.std.proofs.lemmas.List.Sums.{fold-append}
use Rattle.std.proofs.lemmas.List.Elements.{filter_map-append}
use Rattle.scitt_disk.specs.Images.{Held, ImageNow}
use Rattle.scitt_disk.specs.Changes.{after_sync}
use Rattle.scitt_journal.specs.Keeping.{Between}
use Rattle.scitt_journal.specs.Layout.{RecordsOf}
use Rattle.hss_keys.specs.Levels.{capacity}
use Rattle.key_store.specs.declared.records.KeyHead.{KeyHead}
use Rattle.key_store.specs.Records.{upto_of}
use Rattle.key_store.specs.Keys.{reserved_of, KeyStanding, IsSound, Takes, Reserves}
use Rattle.key_store.specs.declared.stops.TakeStop.TheVariants.{Exhausted}
use Rattle.scitt_tool.specs.Drafts.{TakesNext}
use Rattle.scitt_tool.specs.Outcome.{KeyAfter, Kept, Keyed, KeyIs, IsKey, LeavesRecords}

-- one reservation more
reserved_more : (records : List (List ℕ)) (body : List ℕ) (upto : ℕ) → upto_of body ≡ Some upto → reserved_of (records ++ body ∷ []) ≡ upto
reserved_more records body upto reads =
    ap (fold (λ (last next : ℕ). next) 0) (filter_map-append upto_of records (body ∷ []) ∙ ap (λ (o : Option ℕ). filter_map upto_of records ++ cons_option o []) reads)
    ∙ fold-append (λ (last next : ℕ). next) 0 (filter_map upto_of records) (upto ∷ [])

-- a key file at rest leaves its records
pub leaves_rest : (head : KeyHead) (S : KeyStanding) (held : Held) (reserved : ℕ) → IsSound head S → reserved_of S.records ≡ reserved → S.pending ≡ None
    → ((image : List ℕ) → ImageNow held image → Between S.records S.pending image) → LeavesRecords held head reserved
leaves_rest head S held reserved sound last settled images =
    record {
      records = S.records;
      tell = record { file = sound.file; key = sound.key; last = last };
      left = λ image now. subst (λ (p : Option (List ℕ)). Between S.records p image) settled (images image now);
    }

-- what is reserved once an index was taken
reserved_now : (head : KeyHead) (S : KeyStanding) (records : List (List ℕ)) → Reserves head S records → S.next ≡ reserved_of S.records → S.next < reserved_of records
    → reserved_of records ≡ min (S.next + head.block) (capacity head.levels)
reserved_now head S records (inl same) spent above = absurd (omega (arith, ap reserved_of same, spent, above))
reserved_now head S records (inr (body, is, more)) spent above = ap reserved_of more ∙ reserved_more S.records body (min (S.next + head.block) (capacity head.levels)) is.2

pub taken_leaves : (head : KeyHead) (S T : KeyStanding) (index : ℕ) (held : Held) → Takes head S (Ok index) T → S.next ≡ reserved_of S.records → IsSound head T
    → ((image : List ℕ) → ImageNow held image → Between T.records T.pending image) → LeavesRecords held head (min (S.next + head.block) (capacity head.levels))
taken_leaves head S T index held takes spent sound images =
    leaves_rest head T held (min (S.next + head.block) (capacity head.levels)) sound (reserved_now head S T.records takes.4 spent takes.3) takes.2 images

-- the bytes of a file that was loaded
pub is_key : (bytes : List ℕ) (head : KeyHead) (S : KeyStanding) (rest : ℕ) → RecordsOf bytes S.records rest → IsSound head S → S.next ≡ reserved_of S.records → IsKey bytes head S.next
is_key bytes head S rest are sound last =
    record { records = S.records; rest = rest; are = are; tell = record { file = sound.file; key = sound.key; last = sym last } }

-- a sync before doesn't matter
pub key_is_synced : (after : KeyAfter) (old mid new : Held) → mid ≡ after_sync old → KeyIs after mid new → KeyIs after old new
key_is_synced Kept old mid new synced kept = kept ∙ ap (λ (h : Held). h.seen) synced
key_is_synced (Keyed head reserved) old mid new synced leaves = leaves

-- the next index was taken
pub takes_next : (Tells : Type 0) (head : KeyHead) (S T : KeyStanding) (index : ℕ) (held : Held) → index ≡ S.next → S.next < capacity head.levels → (Tells → S.next ≡ reserved_of S.records)
    → (Tells → Takes head S (Ok index) T) → (Tells → IsSound head T) → (Tells → (image : List ℕ) → ImageNow held image → Between T.records T.pending image) → TakesNext Tells head S.next held (Some index)
takes_next Tells head S T index held is below spent takes sound images =
    (is, below, λ tells. taken_leaves head S T index held (takes tells) (spent tells) (sound tells) (images tells))

-- or none was left
pub takes_none : (Tells : Type 0) (head : KeyHead) (S T : KeyStanding) (next most : ℕ) (held : Held) → S.next ≡ capacity head.levels → (Tells → S.next ≡ reserved_of S.records)
    → (Tells → Takes head S (Err (Exhausted next most)) T) → (Tells → IsSound head T) → (Tells → (image : List ℕ) → ImageNow held image → Between T.records T.pending image) → TakesNext Tells head S.next held None
takes_none Tells head S T next most held full spent takes sound images =
    (full, λ tells. (let is = (takes tells).3 in leaves_rest head T held S.next (sound tells) (ap (λ (U : KeyStanding). reserved_of U.records) is ∙ sym (spent tells)) (ap (λ (U : KeyStanding). U.pending) is) (images tells)))
