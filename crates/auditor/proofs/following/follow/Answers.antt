use Rattle.std.proofs.Common.{◌∙◌, ◌<◌, ◌≤◌, length, arith}
use Rattle.std.proofs.lemmas.Result.{err_from_is_err_and}
use Rattle.auditor.specs.Streams.{seen}
use Rattle.auditor.proofs.Audited.{few_records, audits_too_long, audits_refused, audits_found, audits_stopped, taken_more, within_more, longer, fault_not_long, memory_not_long}
use Rattle.auditor.proofs.following.follow.Goals as goal

pub take-requires : goal.take-requires
take-requires g c = few_records c.args.limit c.records.reader c.records.walk c.ranges.limit.fits c.records.invariant.within c.records.invariant.knows

pub returns-in_err-take-in-Record-clause-audits : goal.returns-in_err-take-in-Record-clause-audits
returns-in_err-take-in-Record-clause-audits g c =
    let p = err_from_is_err_and c.from_residual.result c.from_residual.ensures.1 in
    rw (p.1, p.2) (audits_stopped c.args.limit c.records.reader c.next.new.self _ _ _ c.in-Record.body _ c.records.invariant.limit c.in-Record.ensures.records c.records.invariant.taken (c.in-Record.ensures.takes c.records.invariant.on) (λ e. absurd (cc)))

pub records-preserved : goal.records-preserved
records-preserved g c = record {
  limit = c.in-Record.ensures.limit ∙ c.records.invariant.limit;
  held = omega (arith, c.in-Record.ensures.held);
  on = c.in-Record.ensures.last;
  taken = taken_more c.records.reader c.next.new.self _ _ _ c.in-Record.body c.in-Record.ensures.records c.records.invariant.taken (c.in-Record.ensures.takes c.records.invariant.on);
  within = within_more c.args.limit c.records.reader c.next.new.self _ _ c.in-Record.body c.records.invariant.limit c.in-Record.ensures.records (c.in-Record.ensures.takes c.records.invariant.on);
  knows = rw (c.in-Record.ensures.records, ← c.as_slice.ensures) (c.in_ok-take-in-Record.ensures c.records.reader.records c.records.invariant.knows);
  telling = c.in-Record.ensures.telling ∙ c.records.invariant.telling;
  no_fault = (c.in-Record.ensures.cause c.records.invariant.on).kept (λ e. absurd (cc)) ∙ c.records.invariant.no_fault;
  keeps = g.met.S.Source.read_keeps_then _ _ _ c.records.invariant.keeps c.in-Record.ensures.keeps;
}

pub records-smaller : goal.records-smaller
records-smaller g c =
    let more : length (seen c.records.reader) < length (seen c.next.new.self) = longer c.records.reader c.next.new.self c.in-Record.body c.in-Record.ensures.records c.records.invariant.held in
    let within : length (seen c.next.new.self) ≤ c.args.limit = within_more c.args.limit c.records.reader c.next.new.self _ _ c.in-Record.body c.records.invariant.limit c.in-Record.ensures.records (c.in-Record.ensures.takes c.records.invariant.on) in
    omega (arith, more, within)

pub returns-in-ReadFault-clause-audits : goal.returns-in-ReadFault-clause-audits
returns-in-ReadFault-clause-audits g c =
    audits_refused c.args.limit c.records.reader _ _ _ _ _ _ c.records.invariant.limit c.records.invariant.taken (c.in-ReadFault.ensures.takes c.records.invariant.on) fault_not_long.0 fault_not_long.1

pub returns-in-OutOfMemory-clause-audits : goal.returns-in-OutOfMemory-clause-audits
returns-in-OutOfMemory-clause-audits g c =
    audits_refused c.args.limit c.records.reader _ _ _ _ _ _ c.records.invariant.limit c.records.invariant.taken (c.in-OutOfMemory.ensures.takes c.records.invariant.on) memory_not_long.0 memory_not_long.1

pub returns-in-TooLong-clause-audits : goal.returns-in-TooLong-clause-audits
returns-in-TooLong-clause-audits g c =
    audits_too_long c.args.limit c.records.reader _ _ _ _ c.records.invariant.limit c.records.invariant.taken (c.in-TooLong.ensures.takes c.records.invariant.on)

pub returns-in-End-clause-audits : goal.returns-in-End-clause-audits
returns-in-End-clause-audits g c =
    let t = c.in-End.ensures.takes c.records.invariant.on in
    audits_found c.args.limit c.records.reader _ _ _ _ _ _ c.records.invariant.limit c.records.invariant.taken t (λ e. absurd (cc)) (c.records.reader.records, c.records.invariant.knows, t.says.0)

pub returns-in-NoLog-clause-audits : goal.returns-in-NoLog-clause-audits
returns-in-NoLog-clause-audits g c =
    let t = c.in-NoLog.ensures.takes c.records.invariant.on in
    audits_found c.args.limit c.records.reader _ _ _ _ _ _ c.records.invariant.limit c.records.invariant.taken t (λ e. absurd (cc)) (c.records.reader.records, c.records.invariant.knows, t.says.0)

pub returns-in-Short-clause-audits : goal.returns-in-Short-clause-audits
returns-in-Short-clause-audits g c =
    let t = c.in-Short.ensures.takes c.records.invariant.on in
    audits_found c.args.limit c.records.reader _ _ _ _ _ _ c.records.invariant.limit c.records.invariant.taken t (λ e. absurd (cc)) (c.records.reader.records, c.records.invariant.knows, t.says.0)

pub returns-in_err-take-in-Record-clause-keeps : goal.returns-in_err-take-in-Record-clause-keeps
returns-in_err-take-in-Record-clause-keeps g c =
    g.met.S.Source.read_keeps_then _ _ _ c.records.invariant.keeps c.in-Record.ensures.keeps

pub returns-in-ReadFault-clause-keeps : goal.returns-in-ReadFault-clause-keeps
returns-in-ReadFault-clause-keeps g c =
    g.met.S.Source.read_keeps_then _ _ _ c.records.invariant.keeps c.in-ReadFault.ensures.keeps

pub returns-in-TooLong-clause-keeps : goal.returns-in-TooLong-clause-keeps
returns-in-TooLong-clause-keeps g c =
    g.met.S.Source.read_keeps_then _ _ _ c.records.invariant.keeps c.in-TooLong.ensures.keeps

pub returns-in-OutOfMemory-clause-keeps : goal.returns-in-OutOfMemory-clause-keeps
returns-in-OutOfMemory-clause-keeps g c =
    g.met.S.Source.read_keeps_then _ _ _ c.records.invariant.keeps c.in-OutOfMemory.ensures.keeps
