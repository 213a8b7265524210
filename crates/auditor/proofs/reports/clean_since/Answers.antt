use Rattle.std.proofs.Common.{◌≤◌, length, arith, ◌∙◌}
use Rattle.auditor.proofs.Bad.{stands_of}
use Rattle.auditor.proofs.Saying.{front_has, count_is, same_hash, other_hash}
use Rattle.auditor.proofs.reports.clean_since.Goals as goal

pub returns-then-ne : goal.returns-then-ne
returns-then-ne c = λ bytes R knows holds.
    let stands = stands_of c.args.walk.now.state c.args.walk.now.bad R c.requires knows.judged in
    let table = c.tree-table.result.now in
    let within : c.args.size ≤ length table.leaves = omega (arith, c.if-size-entries.false, c.size-entries.ensures) in
    (R, c.args.rest, record { holds = holds; sound = stands.sound }, front_has R c.args.size c.root_at-found.result table.leaves c.growth_laws.ensures.leaves stands.sound (c.tree-table.ensures R stands) within c.root_at-found.ensures.of_entries, other_hash c.root_at-found.result c.args.root.now c.if-ne.ensures)

pub returns : goal.returns
returns c = λ bytes R knows holds.
    let stands = stands_of c.args.walk.now.state c.args.walk.now.bad R c.requires knows.judged in
    let table = c.tree-table.result.now in
    let within : c.args.size ≤ length table.leaves = omega (arith, c.if-size-entries.false, c.size-entries.ensures) in
    let front = front_has R c.args.size c.root_at-found.result table.leaves c.growth_laws.ensures.leaves stands.sound (c.tree-table.ensures R stands) within c.root_at-found.ensures.of_entries in (
      R,
      record { holds = holds; sound = stands.sound },
      record {
        count = knows.number;
        entry_count = count_is R c.size-entries.result table.leaves c.growth_laws.ensures.leaves stands.sound (c.tree-table.ensures R stands) c.size-entries.ensures;
        mth_is = c.root.ensures R stands;
      },
      record { within = front.within; front = front.front ∙ same_hash c.root_at-found.result c.args.root.now c.if-ne.ensures },
    )
