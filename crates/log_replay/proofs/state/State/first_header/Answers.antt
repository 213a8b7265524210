use Rattle.std.proofs.Common.{refl, ◌∙◌, ap, sym, Some}
use Rattle.log_replay.specs.Records.{header_record}
use Rattle.log_replay.specs.Kept.{first_kept}
use Rattle.log_replay.specs.KeptRows.{with_record}
use Rattle.log_replay.specs.Seen.{heading_seen}
use Rattle.log_replay.specs.StateSeen.{kept_of}
use Rattle.log_replay.proofs.Making.{bad_header, good_header, still_stands, same_made}
use Rattle.log_replay.proofs.state.State.first_header.Goals as goal

pub returns-in-None-clause-ok : goal.returns-in-None-clause-ok
returns-in-None-clause-ok c =
    let K = kept_of c.args.self.now in
    (bad_header K.header K.policy K (heading_seen c.args.heading) c.requires.none c.in-None.ensures.none ∙ ap Some (sym c.by.ensures), refl)

pub begin-requires-clause-made : goal.begin-requires-clause-made
unfolding with_record
begin-requires-clause-made c =
    let K = kept_of c.args.self.now in
    let h = heading_seen c.args.heading in
    same_made (first_kept h) (first_kept c.in-Some.header) (ap first_kept (sym c.in-Some.ensures.same))
    (still_stands c.state_laws.ensures.failing c.state_laws.ensures.added K c.args.body.now (Some (header_record h)) c.requires.reads
    (good_header K.header K.policy K h c.requires.none c.in-Some.ensures.holds) c.args.self.now.made)

pub returns-in_ok-begin-in-Some-clause-ok : goal.returns-in_ok-begin-in-Some-clause-ok
unfolding with_record
returns-in_ok-begin-in-Some-clause-ok c =
    let K = kept_of c.args.self.now in
    (good_header K.header K.policy K (heading_seen c.args.heading) c.requires.none c.in-Some.ensures.holds, c.in_ok-begin-in-Some.ensures.ok ∙ ap first_kept c.in-Some.ensures.same)
