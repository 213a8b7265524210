-- When conditions hold, and the first rule whose condition does.
use Rattle.std.specs.Prelude.{ℕ, Bool, true, false, not, ◌&&◌, nat_eq, nat_lt, nat_le, List, find, count_by}
use Rattle.std.specs.List.{list_any, list_all, starts_with}
use Rattle.std.specs.Str.{bytes_eq}
use Rattle.std.specs.Option.{option_map_or}
use Rattle.policy_rules.specs.declared.conditions.Cond.{Cond}
use Rattle.policy_rules.specs.declared.conditions.CondNode.{CondNode-F}
use Rattle.policy_rules.specs.declared.conditions.CondNode.TheFolds.{fold-Cond}
use Rattle.policy_rules.specs.declared.documents.Policy.{Policy}
use Rattle.policy_rules.specs.declared.facts.Facts.{Facts}
use Rattle.policy_rules.specs.declared.facts.ContentKind.{ContentKind}
use Rattle.policy_rules.specs.declared.facts.ContentKind.TheVariants.{Absent, Named, Number}
use Rattle.policy_eval.specs.Cases.{Case}

abbrev pub has_issuer : List ℕ → Facts → Bool
has_issuer issuer f = bytes_eq f.issuer issuer

abbrev pub has_subject : List ℕ → Facts → Bool
has_subject subject f = bytes_eq f.subject subject

abbrev pub is_named : List ℕ → ContentKind → Bool
is_named text (Named name) = bytes_eq name text
is_named text _ = false

-- what a condition says of a case
abbrev pub Told : Type 0
Told = Case → Bool

-- one condition, with what each part says in its place
abbrev pub holds_step : CondNode-F Told Told → Told
holds_step (CondNode-F.All parts) c = list_all (λ told. told c) parts
holds_step (CondNode-F.Any parts) c = list_any (λ told. told c) parts
holds_step (CondNode-F.Not part) c = not (part c)
holds_step (CondNode-F.Issuer text) c = has_issuer text c.facts
holds_step (CondNode-F.SubjectPrefix text) c = starts_with nat_eq c.facts.subject text
holds_step (CondNode-F.ContentType text) c = is_named text c.facts.content_type
holds_step (CondNode-F.PayloadAtMost n) c = nat_le c.facts.payload_len n
holds_step CondNode-F.FirstOfSubject c = not (list_any (has_subject c.facts.subject) c.earlier)
holds_step (CondNode-F.CountBelow n) c = nat_lt (count_by (has_issuer c.facts.issuer) c.earlier) n
holds_step (CondNode-F.Prior text) c = list_any (λ f. has_subject c.facts.subject f && has_issuer text f) c.earlier

abbrev pub holds : Cond → Case → Bool
holds = fold-Cond Told Told holds_step (λ cond. cond.node)

-- the effect and id of the first rule whose condition holds
abbrev pub verdict : Policy → Case → Bool × ℕ
verdict p c = option_map_or (λ r. (r.admit, r.id)) (find (λ r. holds r.cond c) p.rules) (false, 0)
