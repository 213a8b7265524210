-- Conditions of rules: a table of one key, which says what is to hold.
use Rattle.std.specs.Prelude.{ℕ, zero, suc, Bool, true, false, List, [], ◌∷◌, Option, Some, None, Result, Ok, Err, if◌then◌else◌}
use Rattle.std.specs.Str.{bytes_eq}
use Rattle.cbor_core.specs.declared.tree.Item.{Item}
use Rattle.policy_rules.specs.declared.conditions.CondNode.{CondNode-F}
use Rattle.policy_rules.specs.Spelling.{item_step}
use Rattle.toml.specs.Data.{Data, Items, Members, no_members, member, as_bool}
use Rattle.scitt_forms.specs.declared.refusal.Place.{Place}
use Rattle.scitt_forms.specs.declared.refusal.Word.{Word}
use Rattle.scitt_forms.specs.declared.refusal.Word.TheVariants as w
use Rattle.scitt_forms.specs.declared.refusal.Why.TheVariants.{Kind, Deep, Unknown}
use Rattle.scitt_forms.specs.Refusals.{Said, refusal, and_then, or_refuse}
use Rattle.scitt_forms.specs.Fields.{name_of, as_text, as_number, as_members, as_items, each_onto}

-- the only key of a table, with its value
abbrev pub only_member : Members → Option (List ℕ × Data)
only_member (member key d no_members) = Some (key, d)
only_member _ = None

-- what says a condition that is a part of another
abbrev pub Reader : Type 0
Reader = Data → Said Item

-- the parts of `all` and `any`
abbrev pub parts_said : Place → Word → Reader → Data → Said (List Item)
parts_said place word part d = and_then (as_items place word d) (each_onto (λ i. part) [])

-- only `true` says a condition without an operand
abbrev pub when_true : Place → Word → Option Bool → Said Item
when_true place word (Some true) = Ok (item_step CondNode-F.FirstOfSubject)
when_true place word (Some false) = Err (refusal place word Kind)
when_true place word None = Err (refusal place word Kind)

abbrev pub true_cond : Place → Word → Data → Said Item
true_cond place word d = when_true place word (as_bool d)

abbrev pub parts_cond : Place → Word → (List Item → Item) → Reader → Data → Said Item
parts_cond place word cond part d = and_then (parts_said place word part d) (λ parts. Ok (cond parts))

abbrev pub not_cond : Reader → Data → Said Item
not_cond part d = and_then (part d) (λ c. Ok (item_step (CondNode-F.Not c)))

abbrev pub text_cond : Place → Word → (List ℕ → Item) → Data → Said Item
text_cond place word cond d = and_then (as_text place word d) (λ text. Ok (cond text))

abbrev pub number_cond : Place → Word → (ℕ → Item) → Data → Said Item
number_cond place word cond d = and_then (as_number place word d) (λ n. Ok (cond n))

-- the condition of each key
abbrev pub cond_by : Place → Reader → List ℕ → Data → Said Item
cond_by place part key d =
    if bytes_eq key (name_of w.All) then parts_cond place w.All (λ parts. item_step (CondNode-F.All parts)) part d
    else (if bytes_eq key (name_of w.Any) then parts_cond place w.Any (λ parts. item_step (CondNode-F.Any parts)) part d
    else (if bytes_eq key (name_of w.Not) then not_cond part d
    else (if bytes_eq key (name_of w.Issuer) then text_cond place w.Issuer (λ text. item_step (CondNode-F.Issuer text)) d
    else (if bytes_eq key (name_of w.SubjectPrefix) then text_cond place w.SubjectPrefix (λ text. item_step (CondNode-F.SubjectPrefix text)) d
    else (if bytes_eq key (name_of w.ContentType) then text_cond place w.ContentType (λ text. item_step (CondNode-F.ContentType text)) d
    else (if bytes_eq key (name_of w.PayloadAtMost) then number_cond place w.PayloadAtMost (λ n. item_step (CondNode-F.PayloadAtMost n)) d
    else (if bytes_eq key (name_of w.FirstOfSubject) then true_cond place w.FirstOfSubject d
    else (if bytes_eq key (name_of w.CountBelow) then number_cond place w.CountBelow (λ n. item_step (CondNode-F.CountBelow n)) d
    else (if bytes_eq key (name_of w.Prior) then text_cond place w.Prior (λ text. item_step (CondNode-F.Prior text)) d
    else Err (refusal place w.Condition Unknown))))))))))

abbrev pub cond_of_member : Place → Reader → List ℕ × Data → Said Item
cond_of_member place part m = cond_by place part m.0 m.1

abbrev pub cond_of_table : Place → Reader → Members → Said Item
cond_of_table place part table = and_then (or_refuse (refusal place w.Condition Kind) (only_member table)) (cond_of_member place part)

abbrev pub cond_of : Place → Reader → Data → Said Item
cond_of place part d = and_then (as_members place w.Condition d) (cond_of_table place part)

-- the condition that a value says, at most so many deep
unfoldable pub cond_said : Place → ℕ → Reader
cond_said place zero d = Err (refusal place w.Condition Deep)
cond_said place (suc depth) d = cond_of place (cond_said place depth) d
