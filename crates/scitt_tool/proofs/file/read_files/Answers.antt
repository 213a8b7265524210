use Rattle.std.proofs.Common.{◌≡◌, ◌+◌, ◌++◌, ◌∷◌, [], length, Some, Err, sym, ap, ◌∙◌, inr, arith, length-append}
use Rattle.std.specs.List.{slice_get}
use Rattle.std.proofs.lemmas.Option.{slice_get_within}
use Rattle.std.proofs.lemmas.Result.{err_from_is_err_and}
use Rattle.scitt_io.specs.declared.source.ReadStop.TheVariants.{TooLong}
use Rattle.scitt_tool.specs.Command.{files_of, limit_of}
use Rattle.scitt_tool.specs.Meaning.{meaning, all_read}
use Rattle.scitt_tool.proofs.Contents.{asked_more, asks_more, stops_long, reads_more}
use Rattle.scitt_tool.proofs.file.read_files.Goals as goal

pub returns-in_err-bytes-clause-stops : goal.returns-in_err-bytes-clause-stops
returns-in_err-bytes-clause-stops g c = λ long.
    let names = files_of (meaning c.args.command.now) in
    let place : length c.loop-name.read.items ≡ c.len.result = omega (arith, c.len.ensures) in
    let here : slice_get names (length c.loop-name.read.items) ≡ Some c.in-Some.name.now = ap (slice_get names) place ∙ sym c.in-Some.ensures in
    let stop = err_from_is_err_and c.from_residual.result c.from_residual.ensures.1 in
    let is : c.read_file.result ≡ Err TooLong = cc (stop.1, stop.2, long, c.in_err-bytes.was) in
    stops_long (limit_of (meaning c.args.command.now)) _ names (length c.loop-name.read.items) c.in-Some.name.now (all_read c.loop-name.read.items) c.read_file.result c.loop-name.invariant.told c.loop-name.invariant.short here (rw (c.loop-name.invariant.kept, c.limit.ensures) at c.read_file.ensures.reads) is

pub returns-in_err-bytes-clause-some : goal.returns-in_err-bytes-clause-some
returns-in_err-bytes-clause-some g c = λ long empty.
    let names = files_of (meaning c.args.command.now) in
    let place : length c.loop-name.read.items ≡ c.len.result = omega (arith, c.len.ensures) in
    let here : slice_get names (length c.loop-name.read.items) ≡ Some c.in-Some.name.now = ap (slice_get names) place ∙ sym c.in-Some.ensures in
    absurd (omega (arith, slice_get_within names (length c.loop-name.read.items) c.in-Some.name.now here, ap length empty))

pub returns-in_err-bytes-clause-asked_front : goal.returns-in_err-bytes-clause-asked_front
returns-in_err-bytes-clause-asked_front g c =
    let names = files_of (meaning c.args.command.now) in
    let place : length c.loop-name.read.items ≡ c.len.result = omega (arith, c.len.ensures) in
    let here : slice_get names (length c.loop-name.read.items) ≡ Some c.in-Some.name.now = ap (slice_get names) place ∙ sym c.in-Some.ensures in
    asks_more _ _ _ names (length c.loop-name.read.items) c.in-Some.name.now c.loop-name.invariant.asked c.read_file.ensures.asked here

pub returns-in_default-push-clause-asked_front : goal.returns-in_default-push-clause-asked_front
returns-in_default-push-clause-asked_front g c =
    let names = files_of (meaning c.args.command.now) in
    let place : length c.loop-name.read.items ≡ c.len.result = omega (arith, c.len.ensures) in
    let here : slice_get names (length c.loop-name.read.items) ≡ Some c.in-Some.name.now = ap (slice_get names) place ∙ sym c.in-Some.ensures in
    asks_more _ _ _ names (length c.loop-name.read.items) c.in-Some.name.now c.loop-name.invariant.asked c.read_file.ensures.asked here

pub loop-name-preserved : goal.loop-name-preserved
loop-name-preserved g c =
    let names = files_of (meaning c.args.command.now) in
    let place : length c.loop-name.read.items ≡ c.len.result = omega (arith, c.len.ensures) in
    let here : slice_get names (length c.loop-name.read.items) ≡ Some c.in-Some.name.now = ap (slice_get names) place ∙ sym c.in-Some.ensures in
    let pushed : c.push.new.self.items ≡ c.loop-name.read.items ++ c.in_ok-bytes.bytes ∷ [] = c.in-Ok.ensures.items in
    let more = reads_more (limit_of (meaning c.args.command.now)) _ names c.loop-name.read.items c.in_ok-bytes.bytes c.in-Some.name.now c.push.new.self.items c.loop-name.invariant.told c.loop-name.invariant.short here (rw (c.loop-name.invariant.kept, c.limit.ensures) at c.in_ok-bytes.ensures.reads) pushed in
    let grown : length c.push.new.self.items ≡ length c.loop-name.read.items + 1 = omega (arith, ap length pushed, length-append c.loop-name.read.items (c.in_ok-bytes.bytes ∷ [])) in
    record {
      within = more.within;
      told = more.told;
      short = more.short;
      asked = rw grown (asked_more _ _ _ names (length c.loop-name.read.items) c.in-Some.name.now c.loop-name.invariant.asked c.read_file.ensures.asked here);
      end = inr c.in_ok-bytes.ensures.end;
      calm = c.in_ok-bytes.ensures.no_fault (λ e. cc) ∙ c.loop-name.invariant.calm;
      kept = c.read_file.ensures.kept ∙ c.loop-name.invariant.kept;
      telling = c.read_file.ensures.telling ∙ c.loop-name.invariant.telling;
    }
