use Rattle.std.proofs.Common.{◌≡◌, ◌∙◌, ◌-◌, length, take, drop, arith, length-drop}
use Rattle.std.proofs.Math.Seq.{take-add, take_all}
use Rattle.std.proofs.KnownBytes.{Appends-trans}
use Rattle.scitt_io.proofs.sink.write_all.Goals as goal

pub loop-done-preserved : goal.loop-done-preserved
loop-done-preserved g c =
    let done = c.loop-done.done in
    let bytes = c.args.bytes.now in
    let more = c.in_ok-done.ensures in
    let count = c.in_ok-done.field-0 in
    let rest : take (length bytes - done) (drop done bytes) ≡ drop done bytes = take_all _ _ (omega (arith, length-drop done bytes)) in
    let both = Appends-trans _ _ _ _ _ c.loop-done.invariant.taken (rw rest at more.appends) in
    record {
      within = omega (arith, rw rest at more.bound, length-drop done bytes);
      taken = rw (take-add done count bytes) both;
      telling = more.telling ∙ c.loop-done.invariant.telling;
      no_fault = more.cause.kept ∙ c.loop-done.invariant.no_fault;
      keeps = g.met.K.Sink.write_keeps_then _ _ _ c.loop-done.invariant.keeps more.keeps;
    }
