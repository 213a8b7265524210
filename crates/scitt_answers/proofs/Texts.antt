-- The parts that a route's parameters take of an ASCII path are texts.
use Rattle.std.proofs.Common.{◌≡◌, ℕ, ◌-◌, List, [], ◌∷◌, length, take, drop, Bool, true, false, cond, ◌&&◌, leb, inl, inr, refl, subst, ltb-true}
use Rattle.std.specs.Prelude.{Some}
use Rattle.std.specs.Char.{is_ascii}
use Rattle.std.specs.Str.{IsAscii}
use Rattle.std.proofs.lemmas.Bool.{and_parts}
use Rattle.std.proofs.lemmas.Str.{IsUtf8-from_ascii, IsAscii-take, IsAscii-drop}
use Rattle.std.proofs.lemmas.Str.Ascii.{IsAscii-nil, IsAscii-cons}
use Rattle.matchit.proofs.OnLiterals.{matchit_on_literals}
use Rattle.matchit.specs.Rows.{RowsOf}
use Rattle.matchit.specs.Seek.{first}
use Rattle.matchit.specs.Router.{RouteOf}
use Rattle.matchit.specs.Params.{part_of, after_token, wild_from, wild_stop, walk, AllText}
use Rattle.scitt_answers.specs.declared.routes.Row.{Row}
use Rattle.scitt_answers.specs.RouteLaws.{IsRow}
use Rattle.scitt_answers.specs.Routes.{is_plain, table}
use Rattle.scitt_answers.proofs.Fitting.{seek_fits}

pub plain_ascii : (bytes : List ℕ) → is_plain bytes ≡ true → IsAscii bytes
plain_ascii [] e = IsAscii-nil
plain_ascii (b ∷ bs) e =
    let p = and_parts (is_ascii b) (is_plain bs) e in
    IsAscii-cons b bs (ltb-true b 128 p.0) (plain_ascii bs p.1)

-- the text of each route is ASCII
abbrev texts_plain : RowsOf (RouteOf Row) → Bool
texts_plain [] = true
texts_plain ((t, r) ∷ rows) = is_plain r.text && texts_plain rows

row_plain : (rows : RowsOf (RouteOf Row)) (t : List ℕ) (r : RouteOf Row) → texts_plain rows ≡ true → IsRow rows t r → is_plain r.text ≡ true
row_plain [] t r e h = absurd h
row_plain ((u, j) ∷ rows) t r e (inl (same, is)) = subst (λ (x : RouteOf Row). is_plain x.text ≡ true) is (and_parts (is_plain j.text) (texts_plain rows) e).0
row_plain ((u, j) ∷ rows) t r e (inr h) = row_plain rows t r (and_parts (is_plain j.text) (texts_plain rows) e).1 h

table_plain : texts_plain table ≡ true
unfolding matchit_on_literals table
table_plain = refl

pub route_ascii : (path : List ℕ) (r : RouteOf Row) → first table path ≡ Some r → IsAscii r.text
route_ascii path r e =
    let f = seek_fits path 0 table r e in
    plain_ascii r.text (row_plain table f.0 r table_plain f.1)

part_by : (bytes : List ℕ) (start end : ℕ) (fits : Bool) → IsAscii bytes → IsAscii (cond fits (take (end - start) (drop start bytes)) [])
part_by bytes start end true h = IsAscii-take (drop start bytes) (end - start) (IsAscii-drop bytes start h)
part_by bytes start end false h = IsAscii-nil

part_ascii : (bytes : List ℕ) (start end : ℕ) → IsAscii bytes → IsAscii (part_of bytes start end)
part_ascii bytes start end h = part_by bytes start end (leb start end && leb end (length bytes)) h

pub parts_text : (pattern text path : List ℕ) (names : List (ℕ × ℕ)) (token at : ℕ) → IsAscii text → IsAscii path → AllText (walk pattern text path names token at)
parts_text pattern text path [] token at t p = tt
parts_text pattern text path (name ∷ names) token at t p =
    let from = wild_from (drop token pattern) (length path) token at in
    let stop = wild_stop pattern from.0 path from.1 in
    (IsUtf8-from_ascii (part_of text name.0 name.1) (part_ascii text name.0 name.1 t), IsUtf8-from_ascii (part_of path from.1 stop) (part_ascii path from.1 stop p), parts_text pattern text path names (after_token from.0) stop t p)
