use Rattle.std.proofs.Common.{◌∙◌, ap, sym, inl, Bool}
use Rattle.scitt_tool.specs.Answer.{done}
use Rattle.scitt_tool.specs.Show.{show_lines}
use Rattle.scitt_tool.proofs.show.show.Goals as goal

pub returns-in_ok-text-in-Ok : goal.returns-in_ok-text-in-Ok
returns-in_ok-text-in-Ok c =
    let read = c.in-Ok.ensures.0 in
    let tagged = c.is_tagged.ensures ∙ sym (c.tag_stands_first.ensures c.args.bytes.now read.0 read.1) in
    inl (record {
      message = read.0;
      decoded = read.1;
      statement = c.in-Ok.statement;
      parsed = c.in-Ok.ensures;
      is = c.made.ensures ∙ ap done (c.in_ok-text-in-Ok.ensures ∙ ap (λ (t : Bool). show_lines t c.in-Ok.statement) tagged);
    })
