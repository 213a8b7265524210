-- The limits of a header, one by one.
use Rattle.std.proofs.Common.{◌≡◌, ◌⊎◌, ℕ, ◌≤◌, ◌<◌, true, false, Bool, ◌||◌, ◌==◌, List, Option, None, Some, All, inl, inr, refl, ap, length, get_or, arith}
use Rattle.std.specs.List.{list_all}
use Rattle.std.proofs.lemmas.Bool.{and_parts, leb-true, eqb-true}
use Rattle.std.proofs.lemmas.List.Sums.{AllPass-from_list_all}
use Rattle.lms_tree.specs.declared.types.Level.{Level}
use Rattle.lms_tree.specs.Types.{height}
use Rattle.hss_keys.specs.Levels.{CanSign, IsLevels, capacity}
use Rattle.log_replay.specs.declared.parts.Header.{Header}
use Rattle.log_replay.specs.Records.{Log, header_of}
use Rattle.log_replay.specs.WellMade.{is_within, is_within_limits, is_signing_level, header_holds}
use Rattle.log_replay.specs.Growth.{HeaderLimits, HeaderIsWithin, FewerRecords}
use Rattle.log_replay.proofs.Growing.{Standing, stands}

low_high : (low high n : ℕ) → is_within low high n ≡ true → (low ≤ n) × (n ≤ high)
low_high low high n e = let a = and_parts _ _ e in (leb-true low n a.0, leb-true n high a.1)

either : (a b : Bool) → (a || b) ≡ true → (a ≡ true) ⊎ (b ≡ true)
either true b e = inl refl
either false b e = inr e

can_sign : (level : Level) → is_signing_level level ≡ true → CanSign level
can_sign level e = elim (either (height level == 5) (height level == 10) e) [ inl a ↦ inl (eqb-true (height level) 5 a) | inr b ↦ inr (eqb-true (height level) 10 b) ]

each_signs : (levels : List Level) → list_all is_signing_level levels ≡ true → All CanSign levels
each_signs levels e = λ k d below. can_sign (get_or levels k d) (AllPass-from_list_all is_signing_level levels e k d below)

pub record Within (h : Header) : Type 0 where
  pub name : (1 ≤ length h.name) × (length h.name ≤ 128)
  pub iss : (1 ≤ length h.governor.iss) × (length h.governor.iss ≤ 1024)
  pub kid : (1 ≤ length h.governor.kid) × (length h.governor.kid ≤ 64)
  pub levels : IsLevels h.levels
  pub entries : (1 ≤ h.max_entries) × (h.max_entries ≤ 65536)
  pub block : (1 ≤ h.block) × (h.block ≤ 64)

pub within : (h : Header) → is_within_limits h ≡ true → Within h
within h e =
    let a = and_parts _ _ e in
    let b = and_parts _ _ a.0 in
    let c = and_parts _ _ b.0 in
    let d = and_parts _ _ c.0 in
    let f = and_parts _ _ d.0 in
    let g = and_parts _ _ f.0 in
    let levels = low_high 1 3 (length h.levels) d.1 in
    record {
      name = low_high 1 128 (length h.name) g.0;
      iss = low_high 1 1024 (length h.governor.iss) g.1;
      kid = low_high 1 64 (length h.governor.kid) f.1;
      levels = record { some = levels.0; most = levels.1; each = each_signs h.levels c.1 };
      entries = low_high 1 65536 h.max_entries b.1;
      block = low_high 1 64 h.block a.1;
    }

limits : (h : Header) → header_holds h ≡ true → HeaderLimits h
limits h e =
    let a = and_parts _ _ e in
    let w = within h a.0 in
    record {
      name_some = w.name.0;
      name_most = w.name.1;
      iss_some = w.iss.0;
      iss_most = w.iss.1;
      kid_some = w.kid.0;
      kid_most = w.kid.1;
      levels = w.levels;
      entries_some = w.entries.0;
      entries_most = w.entries.1;
      block_some = w.block.0;
      block_most = w.block.1;
      named = a.1;
    }

pub header_is_within : HeaderIsWithin
header_is_within R h w head = limits h ((stands R w).holds h head)

fewer : ((levels : List Level) → IsLevels levels → capacity levels ≤ 1073741824) → (R : Log) → Standing R → (k : Option Header) → header_of R ≡ k → length R < 2147483648
fewer small R was None head = let none = ap length (was.empty head) in omega (arith, none)
fewer small R was (Some h) head =
    let lim = limits h (was.holds h head) in
    let cap = small h.levels lim.levels in
    let reserved = was.reserved h head in
    let entries = was.entries h head in
    let most = lim.entries_most in
    let few = was.few in
    omega (arith, cap, reserved, entries, most, few)

pub fewer_records : ((levels : List Level) → IsLevels levels → capacity levels ≤ 1073741824) → FewerRecords
fewer_records small R w = fewer small R (stands R w) (header_of R) refl
