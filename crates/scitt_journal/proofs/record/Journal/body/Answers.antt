use Rattle.std.proofs.Common.{◌≡◌, ◌∷◌, ◌++◌, ◌-◌, IsTrue, take, drop, length, ap, ◌∙◌, arith}
use Rattle.scitt_journal.specs.Layout.{sized}
use Rattle.scitt_journal.proofs.Seen.{rest_inside, doubt_inside, count_inside, strays_outside}
use Rattle.scitt_journal.proofs.Bodies.{body_at, body_within, if_ok_map}
use Rattle.scitt_journal.proofs.record.Journal.body.Goals as goal

pub returns-clause-body : goal.returns-clause-body
returns-clause-body g c =
    let held = g.D.Disk.held in
    if_ok_map c.read_body.result (λ bytes. IsTrue g.D.Disk.tells → bytes.items ≡ take (c.bounds-start.result.1 - c.saturating_add.result) (drop c.saturating_add.result (held c.self.inside.disk).seen)) _ c.read_body.ensures.body (λ bytes read bodies tells was.
    let inside = rest_inside held _ _ bodies c.self.view_is was in
    let seen = inside.closed.seen in
    read tells ∙ body_at bodies c.deref.result.now (held c.self.inside.disk).seen (seen.gate ∷ seen.behind) c.self.inside.gate c.args.number c.bounds-start.result.0 c.bounds-start.result.1 c.saturating_add.result (c.deref.ensures.value ∙ inside.offsets) inside.closed.place seen.is (omega (arith, c.requires, ap length c.deref.ensures.value, count_inside _ _ c.self.view_is)) c.bounds-start.ensures.start c.bounds-start.ensures.end c.bounds-start.ensures.range c.saturating_add.ensures)

pub returns-clause-in_doubt : goal.returns-clause-in_doubt
returns-clause-in_doubt g c =
    let held = g.D.Disk.held in
    if_ok_map c.read_body.result (λ bytes. IsTrue g.D.Disk.tells → bytes.items ≡ take (c.bounds-start.result.1 - c.saturating_add.result) (drop c.saturating_add.result (held c.self.inside.disk).seen)) _ c.read_body.ensures.body (λ bytes read bodies body tells was.
    let inside = doubt_inside held _ _ bodies body c.self.view_is was in
    let seen = inside.pending.seen in
    read tells ∙ body_at bodies c.deref.result.now (held c.self.inside.disk).seen (seen.gate ∷ (sized body ++ 0 ∷ seen.behind)) c.self.inside.gate c.args.number c.bounds-start.result.0 c.bounds-start.result.1 c.saturating_add.result (c.deref.ensures.value ∙ inside.offsets) inside.pending.place seen.is (omega (arith, c.requires, ap length c.deref.ensures.value, count_inside _ _ c.self.view_is)) c.bounds-start.ensures.start c.bounds-start.ensures.end c.bounds-start.ensures.range c.saturating_add.ensures)

pub returns-clause-strays : goal.returns-clause-strays
returns-clause-strays g c = λ bodies tells was.
    let held = g.D.Disk.held in
    let inside = rest_inside held _ _ bodies c.self.view_is was in
    let seen = inside.closed.seen in
    strays_outside g.D.Disk.strays _ _ _ c.self.view_is (c.read_body.ensures.in_range tells (body_within bodies c.deref.result.now (held c.self.inside.disk).seen (seen.gate ∷ seen.behind) c.self.inside.gate c.args.number c.bounds-start.result.0 c.bounds-start.result.1 c.saturating_add.result (c.deref.ensures.value ∙ inside.offsets) inside.closed.place seen.is (omega (arith, c.requires, ap length c.deref.ensures.value, count_inside _ _ c.self.view_is)) c.bounds-start.ensures.start c.bounds-start.ensures.end c.bounds-start.ensures.range c.saturating_add.ensures))

pub returns-clause-strays_in_doubt : goal.returns-clause-strays_in_doubt
returns-clause-strays_in_doubt g c = λ bodies body tells was.
    let held = g.D.Disk.held in
    let inside = doubt_inside held _ _ bodies body c.self.view_is was in
    let seen = inside.pending.seen in
    strays_outside g.D.Disk.strays _ _ _ c.self.view_is (c.read_body.ensures.in_range tells (body_within bodies c.deref.result.now (held c.self.inside.disk).seen (seen.gate ∷ (sized body ++ 0 ∷ seen.behind)) c.self.inside.gate c.args.number c.bounds-start.result.0 c.bounds-start.result.1 c.saturating_add.result (c.deref.ensures.value ∙ inside.offsets) inside.pending.place seen.is (omega (arith, c.requires, ap length c.deref.ensures.value, count_inside _ _ c.self.view_is)) c.bounds-start.ensures.start c.bounds-start.ensures.end c.bounds-start.ensures.range c.saturating_add.ensures))
