-- Lists of a form, one value longer.
use Rattle.std.proofs.Common.{◌≡◌, ℕ, ◌+◌, ◌<◌, ◌*◌, Bool, true, false, List, [], ◌∷◌, ◌++◌, length, map, take, get_or, Ok, refl, ap, sym, ◌∙◌, arith}
use Rattle.std.specs.Prelude.{◌&&◌}
use Rattle.std.specs.List.{list_all}
use Rattle.std.proofs.lemmas.List.{map_push, take_more}
use Rattle.policy_rules.specs.declared.conditions.Cond.{Cond}
use Rattle.policy_rules.specs.declared.documents.Holder.{Holder}
use Rattle.policy_rules.specs.declared.documents.Rule.{Rule}
use Rattle.policy_rules.specs.Spelling.{cond_item, holder_item, rule_item}
use Rattle.relying_party.specs.declared.trust.Issuer.{Issuer}
use Rattle.relying_party.specs.Parties.{ServiceKey}
use Rattle.toml.specs.Data.{Data, table, Items, no_items, push_item, Members}
use Rattle.toml.specs.View.{view, items_view}
use Rattle.toml.specs.declared.value.Value.{Value}
use Rattle.toml.proofs.Views.{items_view-push}
use Rattle.scitt_forms.specs.declared.refusal.Word.TheVariants as w
use Rattle.scitt_forms.specs.Fields.{placed}
use Rattle.scitt_forms.specs.Holders.{holder_at}
use Rattle.scitt_forms.specs.Policies.{rule_at}
use Rattle.scitt_forms.specs.Trusts.{service_at}
use Rattle.scitt_forms.specs.Conditions.{cond_said}
use Rattle.shown_forms.specs.Conditions.{cond_fits, CondValue, PartValues}
use Rattle.shown_forms.specs.Policies.{HolderTable, HolderTables, rule_fits, RuleTable, RuleTables}
use Rattle.shown_forms.specs.Trusts.{holder_of, service_item, ServiceTable, ServiceTables}
use Rattle.shown_forms.proofs.Each.{each_push, depth_push}

all_both : (a b c : Bool) → (a && b) ≡ true → (b ≡ true → c ≡ true) → (a && c) ≡ true
all_both true b c both more = more both
all_both false b c both more = both

all_push : {X : Type 0} (f : X → Bool) (xs : List X) (x : X) → list_all f xs ≡ true → f x ≡ true → list_all f (xs ++ x ∷ []) ≡ true
all_push f [] x all one = rw one
all_push f (y ∷ xs) x all one = all_both (f y) (list_all f xs) (list_all f (xs ++ x ∷ [])) all (λ h. all_push f xs x h one)

pub parts_none : (deep : ℕ) → PartValues deep [] no_items
parts_none deep = record { fit = refl; say = λ place. refl; shallow = omega arith }

parts_push : (deep : ℕ) (parts : List Cond) (ds : Items) (c : Cond) (d : Data) → PartValues deep parts ds → CondValue deep c d
    → PartValues deep (parts ++ c ∷ []) (push_item ds d)
parts_push deep parts ds c d v x = record {
  fit = all_push (λ y. cond_fits y deep) parts c v.fit x.fits;
  say = λ place. each_push (λ i. cond_said place deep) [] ds d (map cond_item parts) (cond_item c) (v.say place) (x.says place) ∙ ap Ok (sym (map_push cond_item parts c));
  shallow = depth_push ds d (2 * deep) v.shallow x.shallow;
}

pub parts_more : (deep : ℕ) (parts : List Cond) (i : ℕ) (c : Cond) (vs : List Value) (v : Value) → i < length parts
    → PartValues deep (take i parts) (items_view vs) → CondValue deep (get_or parts i c) (view v) → PartValues deep (take (i + 1) parts) (items_view (vs ++ v ∷ []))
parts_more deep parts i c vs v within all one =
    rw (take_more parts i c within, items_view-push vs v) (parts_push deep (take i parts) (items_view vs) (get_or parts i c) (view v) all one)

pub holders_none : HolderTables [] no_items
holders_none = record { say = λ list. refl; shallow = omega arith }

holders_push : (hs : List Holder) (ds : Items) (h : Holder) (ms : Members) → HolderTables hs ds → HolderTable h ms
    → HolderTables (hs ++ h ∷ []) (push_item ds (table ms))
holders_push hs ds h ms v x = record {
  say = λ list.
      each_push (holder_at list) [] ds (table ms) (map holder_item hs) (holder_item h) (v.say list) (x.says (placed list (length (map holder_item hs))))
      ∙ ap Ok (sym (map_push holder_item hs h));
  shallow = depth_push ds (table ms) 1 v.shallow (omega (arith, x.shallow));
}

pub holders_more : (hs : List Holder) (i : ℕ) (h : Holder) (vs : List Value) (v : Value) (ms : Members) → i < length hs → view v ≡ table ms
    → HolderTables (take i hs) (items_view vs) → HolderTable (get_or hs i h) ms → HolderTables (take (i + 1) hs) (items_view (vs ++ v ∷ []))
holders_more hs i h vs v ms within is all one =
    rw (take_more hs i h within, items_view-push vs v, is) (holders_push (take i hs) (items_view vs) (get_or hs i h) ms all one)

pub rules_none : RuleTables [] no_items
rules_none = record { fit = refl; say = refl; shallow = omega arith }

rules_push : (rs : List Rule) (ds : Items) (r : Rule) (ms : Members) → RuleTables rs ds → RuleTable r ms → RuleTables (rs ++ r ∷ []) (push_item ds (table ms))
rules_push rs ds r ms v x = record {
  fit = all_push rule_fits rs r v.fit x.fits;
  say = each_push rule_at [] ds (table ms) (map rule_item rs) (rule_item r) v.say (x.says (placed w.Rule (length (map rule_item rs)))) ∙ ap Ok (sym (map_push rule_item rs r));
  shallow = depth_push ds (table ms) 17 v.shallow (omega (arith, x.shallow));
}

pub rules_more : (rs : List Rule) (i : ℕ) (r : Rule) (vs : List Value) (v : Value) (ms : Members) → i < length rs → view v ≡ table ms
    → RuleTables (take i rs) (items_view vs) → RuleTable (get_or rs i r) ms → RuleTables (take (i + 1) rs) (items_view (vs ++ v ∷ []))
rules_more rs i r vs v ms within is all one =
    rw (take_more rs i r within, items_view-push vs v, is) (rules_push (take i rs) (items_view vs) (get_or rs i r) ms all one)

pub issuers_more : (xs : List Issuer) (i : ℕ) (x : Issuer) (vs : List Value) (v : Value) (ms : Members) → i < length xs → view v ≡ table ms
    → HolderTables (map holder_of (take i xs)) (items_view vs) → HolderTable (holder_of (get_or xs i x)) ms
    → HolderTables (map holder_of (take (i + 1) xs)) (items_view (vs ++ v ∷ []))
issuers_more xs i x vs v ms within is all one =
    rw (take_more xs i x within, map_push holder_of (take i xs) (get_or xs i x), items_view-push vs v, is)
    (holders_push (map holder_of (take i xs)) (items_view vs) (holder_of (get_or xs i x)) ms all one)

services_push : (ss : List ServiceKey) (ds : Items) (s : ServiceKey) (ms : Members) → ServiceTables ss ds → ServiceTable s ms
    → ServiceTables (ss ++ s ∷ []) (push_item ds (table ms))
services_push ss ds s ms v x = record {
  say =
      each_push service_at [] ds (table ms) (map service_item ss) (service_item s) v.say (x.says (placed w.Service (length (map service_item ss))))
      ∙ ap Ok (sym (map_push service_item ss s));
  shallow = depth_push ds (table ms) 1 v.shallow (omega (arith, x.shallow));
}

pub services_more : (ss : List ServiceKey) (i : ℕ) (s : ServiceKey) (vs : List Value) (v : Value) (ms : Members) → i < length ss → view v ≡ table ms
    → ServiceTables (take i ss) (items_view vs) → ServiceTable (get_or ss i s) ms → ServiceTables (take (i + 1) ss) (items_view (vs ++ v ∷ []))
services_more ss i s vs v ms within is all one =
    rw (take_more ss i s within, items_view-push vs v, is) (services_push (take i ss) (items_view vs) (get_or ss i s) ms all one)
