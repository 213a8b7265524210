use Rattle.log_replay.proofs.state.State.step.Goals as goal

pub returns-in-Ok-Some : goal.returns-in-Ok-Some
returns-in-Ok-Some c = record {
  steps = λ R was. (let told = rw c.in-Ok-Some.field-0-is at c.in-Ok-Some.ensures.log in
      let t = told R was in
      (t.1.records, (c.in-Ok-Some.failing.recorded, c.in-Ok-Some.failing.found, t.0), t.1));
}
