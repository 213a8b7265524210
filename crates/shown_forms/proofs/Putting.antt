-- A key that comes behind all of a table's, and how deep the table is then.
use Rattle.std.proofs.Common.{◌≡◌, ℕ, true, List, [], ◌∷◌, String, Global, Ordering, Less, Equal, Greater, string_bytes, nat_cmp, refl, ap, ◌∙◌}
use Rattle.std.proofs.lemmas.Bool.{and_parts, false≢true}
use Rattle.std.specs.Cmp.Lexicographic.{slice_cmp}
use Rattle.std.specs.String.{string_cmp}
use Rattle.std.specs.Ordering.{match_ordering}
use Rattle.std.specs.BTreeMap.{insert_entry}
use Rattle.toml.specs.Data.{no_members, member}
use Rattle.toml.specs.View.{view, members_view}
use Rattle.toml.specs.declared.value.Value.{Value}
use Rattle.toml.proofs.Views.{Entry}
use Rattle.shown_forms.specs.Tables.{is_greater, comes_last, put_last}

greater : (o : Ordering) → is_greater o ≡ true → o ≡ Greater
greater Less h = absurd (false≢true h)
greater Equal h = absurd (false≢true h)
greater Greater h = refl

behind : (o : Ordering) (k : String Global) (v : Value) (e : Entry) (es : List Entry) → o ≡ Greater
    → members_view (match_ordering o ((k, v) ∷ e ∷ es) ((e.0, v) ∷ es) (e ∷ insert_entry string_cmp es k v))
    ≡ member (string_bytes e.0) (view e.1) (members_view (insert_entry string_cmp es k v))
behind Less k v e es h = cc
behind Equal k v e es h = cc
behind Greater k v e es h = refl

pub insert_last : (k : String Global) (name : List ℕ) (v : Value) (es : List Entry) → string_bytes k ≡ name → comes_last name (members_view es) ≡ true
    → members_view (insert_entry string_cmp es k v) ≡ put_last (members_view es) name (view v)
insert_last k name v [] same last = ap (λ n. member n (view v) no_members) same
insert_last k name v (e ∷ es) same last =
    let (here, rest) = and_parts (is_greater (slice_cmp nat_cmp name (string_bytes e.0))) (comes_last name (members_view es)) last in
    let after : string_cmp k e.0 ≡ Greater = ap (λ n. slice_cmp nat_cmp n (string_bytes e.0)) same ∙ greater (slice_cmp nat_cmp name (string_bytes e.0)) here in
    behind (string_cmp k e.0) k v e es after ∙ ap (member (string_bytes e.0) (view e.1)) (insert_last k name v es same rest)
