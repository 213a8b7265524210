use Rattle.std.proofs.Common.{◌≡◌, true, sym, ap, subst, ◌∙◌}
use Rattle.std.specs.Str.{IsAscii}
use Rattle.scitt_answers.specs.Routes.{is_plain}
use Rattle.scitt_answers.proofs.Texts.{plain_ascii, route_ascii, parts_text}
use Rattle.scitt_answers.proofs.routes.find.Goals as goal

pub at_row-requires : goal.at_row-requires
at_row-requires c =
    let route = rw c.requires at c.in-Ok.ensures.found in
    let test : c.is_plain.result ≡ true = c.if-not-is_plain.false in
    let plain : is_plain c.args.path.now ≡ true = ap is_plain (sym c.as_bytes.ensures.value) ∙ sym c.is_plain.ensures ∙ test in
    let ascii : IsAscii c.in-Ok.found.params.path.now = subst IsAscii (sym c.in-Ok.ensures.path) (plain_ascii c.args.path.now plain) in
    parts_text c.in-Ok.found.params.pattern.now c.in-Ok.found.params.text.now c.in-Ok.found.params.path.now c.in-Ok.found.params.names.now 0 0 (route_ascii c.args.path.now _ route) ascii
