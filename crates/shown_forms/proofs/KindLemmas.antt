-- The value of each kind of condition.
use Rattle.std.proofs.Common.{◌≡◌, ℕ, suc, ◌≤◌, ◌*◌, max, Bool, true, false, List, [], ◌∷◌, map, Ok, refl, ap, sym, subst, ◌∙◌, arith}
use Rattle.std.specs.Prelude.{◌&&◌, nat_le, pos}
use Rattle.std.specs.List.{list_all}
use Rattle.cbor_core.specs.declared.tree.Item.{Item}
use Rattle.policy_rules.specs.declared.conditions.Cond.{Cond}
use Rattle.policy_rules.specs.declared.conditions.CondNode.{CondNode, CondNode-F, roll-CondNode}
use Rattle.policy_rules.specs.declared.conditions.CondNode.TheVariants.{All, Any, Not, Issuer, SubjectPrefix, ContentType, PayloadAtMost, FirstOfSubject, CountBelow, Prior, rolls-All, rolls-Any, rolls-Not, rolls-Issuer, rolls-SubjectPrefix, rolls-ContentType, rolls-PayloadAtMost, rolls-FirstOfSubject, rolls-CountBelow, rolls-Prior}
use Rattle.policy_rules.specs.declared.conditions.CondNode.TheFolds.{fold-Cond, fold-CondNode, fold_out-Cond, fold-roll-CondNode}
use Rattle.policy_rules.specs.Spelling.{uint_item, text_item, coded, item_step, cond_item}
use Rattle.toml.specs.Data.{Data, Items, array, boolean, integer, string, depth, items_depth}
use Rattle.scitt_forms.specs.declared.refusal.Word.TheVariants as w
use Rattle.scitt_forms.specs.Refusals.{and_then}
use Rattle.scitt_forms.specs.Conditions.{cond_said}
use Rattle.shown_forms.specs.Tables.{most_number, one_key}
use Rattle.shown_forms.specs.Conditions.{fits_step, parts_fit, part_fits, number_fits, is_deep, cond_fits, CondValue, PartValues}

module _ (node : CondNode) (l : CondNode-F CondNode Cond) (is : roll-CondNode l ≡ node) where
  -- a fold's answer at a kind
  at_kind : {X : Type 0} (step : CondNode-F X X → X)
      → fold-Cond X X step (λ c. c.node) (record { node = node }) ≡ fold-CondNode X X step (λ c. c.node) (roll-CondNode l)
  at_kind {X} step = fold_out-Cond X X step (λ c. c.node) (record { node = node }) ∙ ap (fold-CondNode X X step (λ c. c.node)) (sym is)

all_map : (parts : List Cond) (deep : ℕ) → list_all (λ part. part deep) (map cond_fits parts) ≡ list_all (λ c. cond_fits c deep) parts
all_map [] deep = refl
all_map (c ∷ parts) deep = ap (λ b. cond_fits c deep && b) (all_map parts deep)

-- the value at the place where the code has it
moved : (deep : ℕ) (c : Cond) (node : CondNode) (d e : Data) → c.node ≡ node → d ≡ e → CondValue deep (record { node = node }) e → CondValue deep c d
moved deep c node d e is same v =
    subst (λ (n : CondNode). CondValue deep (record { node = n }) d) (sym is) (subst (λ (x : Data). CondValue deep (record { node = node }) x) (sym same) v)

moved_none : (deep : ℕ) (c : Cond) (node : CondNode) → c.node ≡ node → cond_fits (record { node = node }) deep ≡ false → cond_fits c deep ≡ false
moved_none deep c node is none = subst (λ (n : CondNode). cond_fits (record { node = n }) deep ≡ false) (sym is) none

under_array : (a n : ℕ) → a ≤ 2 * n → suc (max (suc a) 0) ≤ 2 * suc n
under_array a n h = omega arith

under_table : (a n : ℕ) → a ≤ 2 * n → suc (max a 0) ≤ 2 * suc n
under_table a n h = omega arith

fits-All : (parts : List Cond) → cond_fits (record { node = All parts }) ≡ parts_fit (map cond_fits parts)
fits-All parts =
    at_kind (All parts) (CondNode-F.All parts) (rolls-All parts) fits_step ∙ fold-roll-CondNode (ℕ → Bool) (ℕ → Bool) fits_step (λ c. c.node) (CondNode-F.All parts)

item-All : (parts : List Cond) → cond_item (record { node = All parts }) ≡ coded 0 (map cond_item parts)
item-All parts = at_kind (All parts) (CondNode-F.All parts) (rolls-All parts) item_step ∙ fold-roll-CondNode Item Item item_step (λ c. c.node) (CondNode-F.All parts)

pub value-All : (deep : ℕ) (c : Cond) (parts : List Cond) (ds : Items) (d : Data) → c.node ≡ All parts → d ≡ one_key w.All (array ds)
    → PartValues deep parts ds → CondValue (suc deep) c d
unfolding cond_said
value-All deep c parts ds d is same v =
    let here : CondValue (suc deep) (record { node = All parts }) (one_key w.All (array ds)) = record {
      fits = ap (λ f. f (suc deep)) (fits-All parts) ∙ all_map parts deep ∙ v.fit;
      says = λ place. ap (λ s. and_then s (λ xs. Ok (coded 0 xs))) (v.say place) ∙ ap Ok (sym (item-All parts));
      shallow = under_array (items_depth ds) deep v.shallow;
    } in
    moved (suc deep) c (All parts) d (one_key w.All (array ds)) is same here

pub none-All : (deep : ℕ) (c : Cond) (parts : List Cond) → c.node ≡ All parts → list_all (λ x. cond_fits x deep) parts ≡ false → cond_fits c (suc deep) ≡ false
none-All deep c parts is none = moved_none (suc deep) c (All parts) is (ap (λ f. f (suc deep)) (fits-All parts) ∙ all_map parts deep ∙ none)

fits-Any : (parts : List Cond) → cond_fits (record { node = Any parts }) ≡ parts_fit (map cond_fits parts)
fits-Any parts =
    at_kind (Any parts) (CondNode-F.Any parts) (rolls-Any parts) fits_step ∙ fold-roll-CondNode (ℕ → Bool) (ℕ → Bool) fits_step (λ c. c.node) (CondNode-F.Any parts)

item-Any : (parts : List Cond) → cond_item (record { node = Any parts }) ≡ coded 1 (map cond_item parts)
item-Any parts = at_kind (Any parts) (CondNode-F.Any parts) (rolls-Any parts) item_step ∙ fold-roll-CondNode Item Item item_step (λ c. c.node) (CondNode-F.Any parts)

pub value-Any : (deep : ℕ) (c : Cond) (parts : List Cond) (ds : Items) (d : Data) → c.node ≡ Any parts → d ≡ one_key w.Any (array ds)
    → PartValues deep parts ds → CondValue (suc deep) c d
unfolding cond_said
value-Any deep c parts ds d is same v =
    let here : CondValue (suc deep) (record { node = Any parts }) (one_key w.Any (array ds)) = record {
      fits = ap (λ f. f (suc deep)) (fits-Any parts) ∙ all_map parts deep ∙ v.fit;
      says = λ place. ap (λ s. and_then s (λ xs. Ok (coded 1 xs))) (v.say place) ∙ ap Ok (sym (item-Any parts));
      shallow = under_array (items_depth ds) deep v.shallow;
    } in
    moved (suc deep) c (Any parts) d (one_key w.Any (array ds)) is same here

pub none-Any : (deep : ℕ) (c : Cond) (parts : List Cond) → c.node ≡ Any parts → list_all (λ x. cond_fits x deep) parts ≡ false → cond_fits c (suc deep) ≡ false
none-Any deep c parts is none = moved_none (suc deep) c (Any parts) is (ap (λ f. f (suc deep)) (fits-Any parts) ∙ all_map parts deep ∙ none)

fits-Not : (part : Cond) → cond_fits (record { node = Not part }) ≡ part_fits (cond_fits part)
fits-Not part =
    at_kind (Not part) (CondNode-F.Not part) (rolls-Not part) fits_step ∙ fold-roll-CondNode (ℕ → Bool) (ℕ → Bool) fits_step (λ c. c.node) (CondNode-F.Not part)

item-Not : (part : Cond) → cond_item (record { node = Not part }) ≡ coded 2 (cond_item part ∷ [])
item-Not part = at_kind (Not part) (CondNode-F.Not part) (rolls-Not part) item_step ∙ fold-roll-CondNode Item Item item_step (λ c. c.node) (CondNode-F.Not part)

pub value-Not : (deep : ℕ) (c part : Cond) (e d : Data) → c.node ≡ Not part → d ≡ one_key w.Not e → CondValue deep part e → CondValue (suc deep) c d
unfolding cond_said
value-Not deep c part e d is same v =
    let here : CondValue (suc deep) (record { node = Not part }) (one_key w.Not e) = record {
      fits = ap (λ f. f (suc deep)) (fits-Not part) ∙ v.fits;
      says = λ place. ap (λ s. and_then s (λ x. Ok (coded 2 (x ∷ [])))) (v.says place) ∙ ap Ok (sym (item-Not part));
      shallow = under_table (depth e) deep v.shallow;
    } in
    moved (suc deep) c (Not part) d (one_key w.Not e) is same here

pub none-Not : (deep : ℕ) (c part : Cond) → c.node ≡ Not part → cond_fits part deep ≡ false → cond_fits c (suc deep) ≡ false
none-Not deep c part is none = moved_none (suc deep) c (Not part) is (ap (λ f. f (suc deep)) (fits-Not part) ∙ none)

fits-Issuer : (text : List ℕ) → cond_fits (record { node = Issuer text }) ≡ is_deep
fits-Issuer text =
    at_kind (Issuer text) (CondNode-F.Issuer text) (rolls-Issuer text) fits_step ∙ fold-roll-CondNode (ℕ → Bool) (ℕ → Bool) fits_step (λ c. c.node) (CondNode-F.Issuer text)

item-Issuer : (text : List ℕ) → cond_item (record { node = Issuer text }) ≡ coded 3 (text_item text ∷ [])
item-Issuer text = at_kind (Issuer text) (CondNode-F.Issuer text) (rolls-Issuer text) item_step ∙ fold-roll-CondNode Item Item item_step (λ c. c.node) (CondNode-F.Issuer text)

pub value-Issuer : (deep : ℕ) (c : Cond) (text : List ℕ) (d : Data) → c.node ≡ Issuer text → d ≡ one_key w.Issuer (string text) → CondValue (suc deep) c d
unfolding cond_said
value-Issuer deep c text d is same =
    let here : CondValue (suc deep) (record { node = Issuer text }) (one_key w.Issuer (string text)) = record {
      fits = ap (λ f. f (suc deep)) (fits-Issuer text);
      says = λ place. ap Ok (sym (item-Issuer text));
      shallow = under_table 0 deep (omega arith);
    } in
    moved (suc deep) c (Issuer text) d (one_key w.Issuer (string text)) is same here

fits-SubjectPrefix : (text : List ℕ) → cond_fits (record { node = SubjectPrefix text }) ≡ is_deep
fits-SubjectPrefix text =
    at_kind (SubjectPrefix text) (CondNode-F.SubjectPrefix text) (rolls-SubjectPrefix text) fits_step ∙ fold-roll-CondNode (ℕ → Bool) (ℕ → Bool) fits_step (λ c. c.node) (CondNode-F.SubjectPrefix text)

item-SubjectPrefix : (text : List ℕ) → cond_item (record { node = SubjectPrefix text }) ≡ coded 4 (text_item text ∷ [])
item-SubjectPrefix text = at_kind (SubjectPrefix text) (CondNode-F.SubjectPrefix text) (rolls-SubjectPrefix text) item_step ∙ fold-roll-CondNode Item Item item_step (λ c. c.node) (CondNode-F.SubjectPrefix text)

pub value-SubjectPrefix : (deep : ℕ) (c : Cond) (text : List ℕ) (d : Data) → c.node ≡ SubjectPrefix text → d ≡ one_key w.SubjectPrefix (string text) → CondValue (suc deep) c d
unfolding cond_said
value-SubjectPrefix deep c text d is same =
    let here : CondValue (suc deep) (record { node = SubjectPrefix text }) (one_key w.SubjectPrefix (string text)) = record {
      fits = ap (λ f. f (suc deep)) (fits-SubjectPrefix text);
      says = λ place. ap Ok (sym (item-SubjectPrefix text));
      shallow = under_table 0 deep (omega arith);
    } in
    moved (suc deep) c (SubjectPrefix text) d (one_key w.SubjectPrefix (string text)) is same here

fits-ContentType : (text : List ℕ) → cond_fits (record { node = ContentType text }) ≡ is_deep
fits-ContentType text =
    at_kind (ContentType text) (CondNode-F.ContentType text) (rolls-ContentType text) fits_step ∙ fold-roll-CondNode (ℕ → Bool) (ℕ → Bool) fits_step (λ c. c.node) (CondNode-F.ContentType text)

item-ContentType : (text : List ℕ) → cond_item (record { node = ContentType text }) ≡ coded 5 (text_item text ∷ [])
item-ContentType text = at_kind (ContentType text) (CondNode-F.ContentType text) (rolls-ContentType text) item_step ∙ fold-roll-CondNode Item Item item_step (λ c. c.node) (CondNode-F.ContentType text)

pub value-ContentType : (deep : ℕ) (c : Cond) (text : List ℕ) (d : Data) → c.node ≡ ContentType text → d ≡ one_key w.ContentType (string text) → CondValue (suc deep) c d
unfolding cond_said
value-ContentType deep c text d is same =
    let here : CondValue (suc deep) (record { node = ContentType text }) (one_key w.ContentType (string text)) = record {
      fits = ap (λ f. f (suc deep)) (fits-ContentType text);
      says = λ place. ap Ok (sym (item-ContentType text));
      shallow = under_table 0 deep (omega arith);
    } in
    moved (suc deep) c (ContentType text) d (one_key w.ContentType (string text)) is same here

fits-Prior : (text : List ℕ) → cond_fits (record { node = Prior text }) ≡ is_deep
fits-Prior text =
    at_kind (Prior text) (CondNode-F.Prior text) (rolls-Prior text) fits_step ∙ fold-roll-CondNode (ℕ → Bool) (ℕ → Bool) fits_step (λ c. c.node) (CondNode-F.Prior text)

item-Prior : (text : List ℕ) → cond_item (record { node = Prior text }) ≡ coded 9 (text_item text ∷ [])
item-Prior text = at_kind (Prior text) (CondNode-F.Prior text) (rolls-Prior text) item_step ∙ fold-roll-CondNode Item Item item_step (λ c. c.node) (CondNode-F.Prior text)

pub value-Prior : (deep : ℕ) (c : Cond) (text : List ℕ) (d : Data) → c.node ≡ Prior text → d ≡ one_key w.Prior (string text) → CondValue (suc deep) c d
unfolding cond_said
value-Prior deep c text d is same =
    let here : CondValue (suc deep) (record { node = Prior text }) (one_key w.Prior (string text)) = record {
      fits = ap (λ f. f (suc deep)) (fits-Prior text);
      says = λ place. ap Ok (sym (item-Prior text));
      shallow = under_table 0 deep (omega arith);
    } in
    moved (suc deep) c (Prior text) d (one_key w.Prior (string text)) is same here

fits-PayloadAtMost : (n : ℕ) → cond_fits (record { node = PayloadAtMost n }) ≡ number_fits n
fits-PayloadAtMost n =
    at_kind (PayloadAtMost n) (CondNode-F.PayloadAtMost n) (rolls-PayloadAtMost n) fits_step ∙ fold-roll-CondNode (ℕ → Bool) (ℕ → Bool) fits_step (λ c. c.node) (CondNode-F.PayloadAtMost n)

item-PayloadAtMost : (n : ℕ) → cond_item (record { node = PayloadAtMost n }) ≡ coded 6 (uint_item n ∷ [])
item-PayloadAtMost n = at_kind (PayloadAtMost n) (CondNode-F.PayloadAtMost n) (rolls-PayloadAtMost n) item_step ∙ fold-roll-CondNode Item Item item_step (λ c. c.node) (CondNode-F.PayloadAtMost n)

pub value-PayloadAtMost : (deep : ℕ) (c : Cond) (n : ℕ) (d : Data) → c.node ≡ PayloadAtMost n → nat_le n most_number ≡ true → d ≡ one_key w.PayloadAtMost (integer (pos n)) → CondValue (suc deep) c d
unfolding cond_said
value-PayloadAtMost deep c n d is within same =
    let here : CondValue (suc deep) (record { node = PayloadAtMost n }) (one_key w.PayloadAtMost (integer (pos n))) = record {
      fits = ap (λ f. f (suc deep)) (fits-PayloadAtMost n) ∙ within;
      says = λ place. ap Ok (sym (item-PayloadAtMost n));
      shallow = under_table 0 deep (omega arith);
    } in
    moved (suc deep) c (PayloadAtMost n) d (one_key w.PayloadAtMost (integer (pos n))) is same here

pub none-PayloadAtMost : (deep : ℕ) (c : Cond) (n : ℕ) → c.node ≡ PayloadAtMost n → nat_le n most_number ≡ false → cond_fits c (suc deep) ≡ false
none-PayloadAtMost deep c n is past = moved_none (suc deep) c (PayloadAtMost n) is (ap (λ f. f (suc deep)) (fits-PayloadAtMost n) ∙ past)

fits-CountBelow : (n : ℕ) → cond_fits (record { node = CountBelow n }) ≡ number_fits n
fits-CountBelow n =
    at_kind (CountBelow n) (CondNode-F.CountBelow n) (rolls-CountBelow n) fits_step ∙ fold-roll-CondNode (ℕ → Bool) (ℕ → Bool) fits_step (λ c. c.node) (CondNode-F.CountBelow n)

item-CountBelow : (n : ℕ) → cond_item (record { node = CountBelow n }) ≡ coded 8 (uint_item n ∷ [])
item-CountBelow n = at_kind (CountBelow n) (CondNode-F.CountBelow n) (rolls-CountBelow n) item_step ∙ fold-roll-CondNode Item Item item_step (λ c. c.node) (CondNode-F.CountBelow n)

pub value-CountBelow : (deep : ℕ) (c : Cond) (n : ℕ) (d : Data) → c.node ≡ CountBelow n → nat_le n most_number ≡ true → d ≡ one_key w.CountBelow (integer (pos n)) → CondValue (suc deep) c d
unfolding cond_said
value-CountBelow deep c n d is within same =
    let here : CondValue (suc deep) (record { node = CountBelow n }) (one_key w.CountBelow (integer (pos n))) = record {
      fits = ap (λ f. f (suc deep)) (fits-CountBelow n) ∙ within;
      says = λ place. ap Ok (sym (item-CountBelow n));
      shallow = under_table 0 deep (omega arith);
    } in
    moved (suc deep) c (CountBelow n) d (one_key w.CountBelow (integer (pos n))) is same here

pub none-CountBelow : (deep : ℕ) (c : Cond) (n : ℕ) → c.node ≡ CountBelow n → nat_le n most_number ≡ false → cond_fits c (suc deep) ≡ false
none-CountBelow deep c n is past = moved_none (suc deep) c (CountBelow n) is (ap (λ f. f (suc deep)) (fits-CountBelow n) ∙ past)

fits-FirstOfSubject : cond_fits (record { node = FirstOfSubject }) ≡ is_deep
fits-FirstOfSubject =
    at_kind FirstOfSubject CondNode-F.FirstOfSubject rolls-FirstOfSubject fits_step ∙ fold-roll-CondNode (ℕ → Bool) (ℕ → Bool) fits_step (λ c. c.node) CondNode-F.FirstOfSubject

item-FirstOfSubject : cond_item (record { node = FirstOfSubject }) ≡ coded 7 []
item-FirstOfSubject = at_kind FirstOfSubject CondNode-F.FirstOfSubject rolls-FirstOfSubject item_step ∙ fold-roll-CondNode Item Item item_step (λ c. c.node) CondNode-F.FirstOfSubject

pub value-FirstOfSubject : (deep : ℕ) (c : Cond) (d : Data) → c.node ≡ FirstOfSubject → d ≡ one_key w.FirstOfSubject (boolean true) → CondValue (suc deep) c d
unfolding cond_said
value-FirstOfSubject deep c d is same =
    let here : CondValue (suc deep) (record { node = FirstOfSubject }) (one_key w.FirstOfSubject (boolean true)) = record {
      fits = ap (λ f. f (suc deep)) fits-FirstOfSubject;
      says = λ place. ap Ok (sym item-FirstOfSubject);
      shallow = under_table 0 deep (omega arith);
    } in
    moved (suc deep) c FirstOfSubject d (one_key w.FirstOfSubject (boolean true)) is same here
