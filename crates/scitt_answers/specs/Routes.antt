-- The targets of requests, by the definition of a match that the router has.
use Rattle.std.specs.Prelude.{ℕ, List, [], ◌∷◌, length, Bool, ◌&&◌, ◌==◌, nat_le, nat_lt, if◌then◌else◌, Option, None, Some, Result, Ok, Err, codes, slice_index, option_and_then}
use Rattle.std.specs.List.{list_all}
use Rattle.std.specs.Char.{is_ascii}
use Rattle.std.specs.Str.Parse.{digits_value}
use Rattle.matchit.specs.Rows.{RowsOf}
use Rattle.matchit.specs.Seek.{first}
use Rattle.matchit.specs.Order.{placed}
use Rattle.matchit.specs.Route.{Scan, parse_route}
use Rattle.matchit.specs.Router.{RouteOf, route_from}
use Rattle.matchit.specs.Params.{walk, named}
use Rattle.matchit.specs.declared.error.InsertError.{InsertError}
use Rattle.http_wire.specs.Heads.{are_digits}
use Rattle.scitt_answers.specs.declared.routes.Row.{Row}
use Rattle.scitt_answers.specs.declared.routes.Row.TheVariants as row
use Rattle.scitt_answers.specs.declared.routes.Target.{Target}
use Rattle.scitt_answers.specs.declared.routes.Target.TheVariants as target

-- the path up to its first question mark
abbrev pub path_of : List ℕ → List ℕ
path_of [] = []
path_of (b ∷ bs) = if b == 63 then [] else b ∷ path_of bs

-- each byte is ASCII
abbrev pub is_plain : List ℕ → Bool
is_plain bytes = list_all is_ascii bytes

-- a zero with more behind it
abbrev pub leads_with_zero : List ℕ → Bool
leads_with_zero text = nat_lt 1 (length text) && slice_index text 0 == 48

-- `0`, or 1 to 10 digits without a leading zero, at most 4,294,967,295
abbrev pub number_in : List ℕ → Option ℕ
number_in text =
    if are_digits text then (if leads_with_zero text then None else (if nat_le (digits_value 10 text) 4294967295 then Some (digits_value 10 text) else None)) else None

abbrev pub read_route : Result Scan InsertError → Row → RowsOf (RouteOf Row) → RowsOf (RouteOf Row)
read_route (Ok s) value rows = placed (s.pattern, route_from s value) rows
read_route (Err e) value rows = rows

abbrev pub add_route : RowsOf (RouteOf Row) → List ℕ → Row → RowsOf (RouteOf Row)
add_route rows text value = read_route (parse_route text) value rows

-- the six routes
unfoldable pub table : RowsOf (RouteOf Row)
table =
    add_route (add_route (add_route (add_route (add_route (add_route []
    (codes "/entries") row.Entries)
    (codes "/entries/{index}") row.Entry)
    (codes "/entries/{index}/statement") row.Statement)
    (codes "/consistency/{old}") row.Consistency)
    (codes "/.well-known/scitt-keys") row.Keys)
    (codes "/policy") row.Policy

-- a target with the number that stands in a parameter's place
abbrev pub numbered : (ℕ → Target) → Option ℕ → Target
numbered make None = target.Nowhere
numbered make (Some n) = make n

-- the number that stands in the place of this name
abbrev pub number_at : List ℕ → List (List ℕ × List ℕ) → Option ℕ
number_at name parts = option_and_then number_in (named name parts)

-- what a row leads to, by the parts that its parameters took
abbrev pub target_at : Row → List (List ℕ × List ℕ) → Target
target_at row.Entries parts = target.Entries
target_at row.Entry parts = numbered target.Entry (number_at (codes "index") parts)
target_at row.Statement parts = numbered target.Statement (number_at (codes "index") parts)
target_at row.Consistency parts = numbered target.Consistency (number_at (codes "old") parts)
target_at row.Keys parts = target.Keys
target_at row.Policy parts = target.Policy

-- what a route's parameters took from a path
abbrev pub parts_by : RouteOf Row → List ℕ → List (List ℕ × List ℕ)
parts_by r path = walk r.pattern r.text path r.names 0 0

abbrev pub target_on : Option (RouteOf Row) → List ℕ → Target
target_on None path = target.Nowhere
target_on (Some r) path = target_at r.value (parts_by r path)

-- the target that a path has; a path with a byte beyond ASCII has none
abbrev pub target_of : List ℕ → Target
target_of path = if is_plain path then target_on (first table path) path else target.Nowhere
