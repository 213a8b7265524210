-- What a state keeps of a log, a clause for each thing.
use Rattle.std.specs.Prelude.{◌≡◌, ℕ, ◌+◌, List, [], ◌∷◌, ◌++◌, Option, Some, None, length, map, option_map}
use Rattle.merkle_tree.specs.Mth.{leaf_hash}
use Rattle.statement.specs.Said.{Said, id_of}
use Rattle.policy_rules.specs.declared.documents.Policy.{Policy}
use Rattle.policy_rules.specs.declared.facts.Facts.{Facts}
use Rattle.policy_rules.specs.Documents.{bootstrap_of}
use Rattle.log_replay.specs.declared.parts.Header.{Header}
use Rattle.log_replay.specs.Records.{Log, header_of, leaves_of, entries_of, reserved_of, used_of, homes_of, logged_bytes}
use Rattle.log_replay.specs.Judging.{in_force, policy_with, last_moment, facts_before, facts_of}
use Rattle.log_replay.specs.WellMade.{WellMade}

-- a state, as clauses see it
pub record Kept : Type 0 where
  pub records : ℕ
  pub header : Option Header
  pub policy : Option Policy
  pub reserved : ℕ
  pub used : ℕ
  pub ids : List (List ℕ)
  pub homes : List ℕ
  pub facts : List Facts
  pub leaves : List (List ℕ)
  pub last : ℕ
  pub logged : ℕ

-- of its parts
abbrev pub kept_from : Option Header → Option Policy → ℕ → ℕ → ℕ → List (List ℕ) → List ℕ → List Facts → List (List ℕ) → ℕ → ℕ → Kept
kept_from header policy records reserved used ids homes facts leaves last logged = record {
  records = records;
  header = header;
  policy = policy;
  reserved = reserved;
  used = used;
  ids = ids;
  homes = homes;
  facts = facts;
  leaves = leaves;
  last = last;
  logged = logged;
}

-- it stands for this log
pub record StateOf (K : Kept) (R : Log) : Type 0 where
  pub sound : WellMade R
  pub records : K.records ≡ length R
  pub header : K.header ≡ header_of R
  pub policy : K.policy ≡ option_map (λ h. in_force h (entries_of R)) (header_of R)
  pub reserved : K.reserved ≡ reserved_of R
  pub used : K.used ≡ used_of R
  pub ids : K.ids ≡ map (λ e. id_of e.statement) (entries_of R)
  pub homes : K.homes ≡ homes_of R
  pub facts : K.facts ≡ facts_before (entries_of R)
  pub leaves : K.leaves ≡ map leaf_hash (leaves_of R)
  pub last : K.last ≡ last_moment (entries_of R)
  pub logged : K.logged ≡ logged_bytes (entries_of R)

-- it stands for some log
abbrev pub Stands : Kept → Type 0
Stands K = (R : Log) × StateOf K R

-- no records
abbrev pub nothing_kept : Kept
nothing_kept = record {
  records = 0;
  header = None;
  policy = None;
  reserved = 0;
  used = 0;
  ids = [];
  homes = [];
  facts = [];
  leaves = [];
  last = 0;
  logged = 0;
}

-- a header alone
abbrev pub first_kept : Header → Kept
first_kept h = record nothing_kept { records = 1; header = Some h; policy = Some (bootstrap_of h.governor) }

-- one Reserve more
abbrev pub with_reserve : Kept → ℕ → Kept
with_reserve K upto = record K { records = K.records + 1; reserved = upto }

-- one Batch more, of one entry with this hash as its leaf
abbrev pub with_batch : Kept → ℕ → List ℕ → ℕ → Said → Kept
with_batch K index hash at s = record K {
  records = K.records + 1;
  policy = option_map (λ p. policy_with p s) K.policy;
  used = index + 1;
  ids = K.ids ++ id_of s ∷ [];
  homes = K.homes ++ K.records ∷ [];
  facts = K.facts ++ facts_of s ∷ [];
  leaves = K.leaves ++ hash ∷ [];
  last = at;
  logged = K.logged + length s.logged;
}
