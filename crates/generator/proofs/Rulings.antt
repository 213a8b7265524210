-- What a registration's ruling says of the judgement, where the log has room.
use Rattle.std.proofs.Common.{◌≡◌, ℕ, ◌==◌, nat_lt, Bool, true, false, List, [], ◌∷◌, length, Option, Some, None, refl, sym, ap, ◌∙◌}
use Rattle.std.specs.Prelude.{option_map, unwrap_or}
use Rattle.cbor_core.specs.Rows.{first_row}
use Rattle.hss_keys.specs.Levels.{capacity}
use Rattle.statement.specs.Said.{Said}
use Rattle.log_replay.specs.declared.parts.Header.{Header}
use Rattle.log_replay.specs.declared.words.Judgement.{Judgement}
use Rattle.log_replay.specs.declared.words.Judgement.TheVariants.{Known, Admit, Deny}
use Rattle.log_replay.specs.Records.{header_of, entries_of}
use Rattle.log_replay.specs.Judging.{judge}
use Rattle.log_replay.specs.WellMade.{most_logged_bytes}
use Rattle.registrar.specs.Turns.{Standing, Ruling, knows, denies, full, spent, goes, ruling_on, ruling_of, bytes_with}

-- a log with a header that has room for a statement
pub record Roomy (S : Standing) (h : Header) (s : Said) : Type 0 where
  pub headed : header_of S.log ≡ Some h
  pub entries : (length (entries_of S.log) == h.max_entries) ≡ false
  pub bytes : nat_lt most_logged_bytes (bytes_with S s) ≡ false
  pub left : (S.next == capacity h.levels) ≡ false

-- a ruling by a judgement, where nothing stands in the way of what is admitted
abbrev Follows : Ruling → Judgement → Type 0
Follows (knows i) j = j ≡ Known i
Follows (denies rule) j = j ≡ Deny rule
Follows (goes rule) j = j ≡ Admit rule
Follows (full entries bytes) j = ⊥
Follows (spent next cap) j = ⊥

rows_go : (a b c : Bool) (entries bytes next cap rule : ℕ) → a ≡ false → b ≡ false → c ≡ false
    → unwrap_or (first_row ((a, full entries bytes) ∷ (b, full entries bytes) ∷ (c, spent next cap) ∷ [])) (goes rule) ≡ goes rule
rows_go true b c entries bytes next cap rule p q r = cc
rows_go false true c entries bytes next cap rule p q r = cc
rows_go false false true entries bytes next cap rule p q r = cc
rows_go false false false entries bytes next cap rule p q r = refl

follows_at : (x y : Ruling) (rule : ℕ) → x ≡ y → x ≡ goes rule → Follows y (Admit rule)
follows_at x (goes r) rule e f = cc
follows_at x (knows i) rule e f = cc
follows_at x (denies r) rule e f = cc
follows_at x (full a b) rule e f = cc
follows_at x (spent a b) rule e f = cc

knows_only : (i : ℕ) (y : Ruling) → knows i ≡ y → Follows y (Known i)
knows_only i (goes r) e = cc
knows_only i (knows k) e = cc
knows_only i (denies r) e = cc
knows_only i (full a b) e = cc
knows_only i (spent a b) e = cc

denies_only : (rule : ℕ) (y : Ruling) → denies rule ≡ y → Follows y (Deny rule)
denies_only i (goes r) e = cc
denies_only i (knows k) e = cc
denies_only i (denies r) e = cc
denies_only i (full a b) e = cc
denies_only i (spent a b) e = cc

on_follows : (S : Standing) (h : Header) (s : Said) (j : Judgement) (y : Ruling) → Roomy S h s → ruling_on h S s j ≡ y → Follows y j
on_follows S h s (Known i) y room e = knows_only i y e
on_follows S h s (Deny rule) y room e = denies_only rule y e
on_follows S h s (Admit rule) y room e =
    follows_at (ruling_on h S s (Admit rule)) y rule e (rows_go _ _ _ (length (entries_of S.log)) (bytes_with S s) S.next (capacity h.levels) rule room.entries room.bytes room.left)

same_ruling : (p q : Ruling) → ◌≡◌ {A = Option Ruling} (Some p) (Some q) → p ≡ q
same_ruling p q e = cc

pub follows : (S : Standing) (h : Header) (s : Said) (m : ℕ) (y : Ruling) → Roomy S h s → ruling_of S s m ≡ Some y → Follows y (judge h (entries_of S.log) s m)
follows S h s m y room ruling =
    on_follows S h s (judge h (entries_of S.log) s m) y room
    (same_ruling _ _ (sym (ap (λ (o : Option Header). option_map (λ k. ruling_on k S s (judge k (entries_of S.log) s m)) o) room.headed) ∙ ruling))
