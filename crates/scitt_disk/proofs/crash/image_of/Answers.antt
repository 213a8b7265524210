use Rattle.std.proofs.Common.{◌≡◌, ◌-◌, ◌^◌, min, length, sym, ◌∙◌, arith}
use Rattle.scitt_disk.specs.Images.{greatest, IsImage}
use Rattle.scitt_disk.specs.Mixed.{IsMixed}
use Rattle.scitt_disk.specs.Changes.{fresh}
use Rattle.scitt_disk.specs.Calls.{replay}
use Rattle.scitt_disk.specs.SeenIsImage.{IsImage-from_fresh}
use Rattle.scitt_disk.proofs.CrashLemmas.{if_ok, most_is, picked_of, IsImage-picked, mixed_old, mixed_new}
use Rattle.scitt_disk.proofs.crash.image_of.Goals as goal

pub returns-clause-picked : goal.returns-clause-picked
returns-clause-picked c =
    let held = replay (fresh c.args.first.now) c.args.changes.now in
    let synced : c.deref.result.now ≡ held.epoch.synced = c.deref.ensures.value ∙ c.in_ok-synced.ensures ∙ sym (c.last_sync-last.ensures.synced c.args.first.now) in
    let image : IsImage held.epoch c.args.bytes.now = rw c.requires (IsImage-from_fresh c.args.first.now c.args.changes.now) in
    let most : c.max-most.result ≡ min (greatest (length held.epoch.synced) held.epoch.written) (2 ^ 64 - 1) = most_is held.epoch c.args.bytes.now c.written_end.result c.max-most.result image (omega arith) (c.written_end.ensures c.args.first.now) c.max-most.ensures in
    if_ok (λ v. IsMixed c.args.pick c.max-most.result c.deref.result.now c.args.bytes.now v.items) _ c.mixed.result (λ v mixed. picked_of c.args.pick c.max-most.result held c.deref.result.now c.args.bytes.now v.items synced c.requires most mixed) c.mixed.ensures

pub returns-clause-image : goal.returns-clause-image
returns-clause-image c =
    let held = replay (fresh c.args.first.now) c.args.changes.now in
    let synced : c.deref.result.now ≡ held.epoch.synced = c.deref.ensures.value ∙ c.in_ok-synced.ensures ∙ sym (c.last_sync-last.ensures.synced c.args.first.now) in
    let image : IsImage held.epoch c.args.bytes.now = rw c.requires (IsImage-from_fresh c.args.first.now c.args.changes.now) in
    let most : c.max-most.result ≡ min (greatest (length held.epoch.synced) held.epoch.written) (2 ^ 64 - 1) = most_is held.epoch c.args.bytes.now c.written_end.result c.max-most.result image (omega arith) (c.written_end.ensures c.args.first.now) c.max-most.ensures in
    if_ok (λ v. IsMixed c.args.pick c.max-most.result c.deref.result.now c.args.bytes.now v.items) _ c.mixed.result (λ v mixed. IsImage-picked c.args.pick c.max-most.result held.epoch c.args.bytes.now v.items image most (omega arith) (rw synced at mixed)) c.mixed.ensures

pub returns-clause-oldest : goal.returns-clause-oldest
returns-clause-oldest c =
    let held = replay (fresh c.args.first.now) c.args.changes.now in
    let synced : c.deref.result.now ≡ held.epoch.synced = c.deref.ensures.value ∙ c.in_ok-synced.ensures ∙ sym (c.last_sync-last.ensures.synced c.args.first.now) in
    if_ok (λ v. IsMixed c.args.pick c.max-most.result c.deref.result.now c.args.bytes.now v.items) _ c.mixed.result (λ v mixed zero. mixed_old c.args.pick c.max-most.result c.deref.result.now c.args.bytes.now v.items zero mixed ∙ synced) c.mixed.ensures

pub returns-clause-newest : goal.returns-clause-newest
returns-clause-newest c =
    if_ok (λ v. IsMixed c.args.pick c.max-most.result c.deref.result.now c.args.bytes.now v.items) _ c.mixed.result (λ v mixed one. mixed_new c.args.pick c.max-most.result c.deref.result.now c.args.bytes.now v.items one mixed) c.mixed.ensures
