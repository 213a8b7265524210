use Rattle.cbor_feed.proofs.HeadSteps.{head-one, head-two, head-four, head-eight}
use Rattle.cbor_feed.proofs.heads.argument_of.Goals as goal

pub returns-then-information-eq24 : goal.returns-then-information-eq24
returns-then-information-eq24 c = rw (head-one c.args.bytes.now c.in-len1-up.len_at_least c.if-information-eq24.true) (c.one_byte.ensures _ c.requires)

pub returns-then-information-eq25 : goal.returns-then-information-eq25
returns-then-information-eq25 c = rw (head-two c.args.bytes.now c.in-len1-up.len_at_least c.if-information-eq25.true) (c.two_bytes.ensures _ c.requires)

pub returns-then-information-eq26 : goal.returns-then-information-eq26
returns-then-information-eq26 c = rw (head-four c.args.bytes.now c.in-len1-up.len_at_least c.if-information-eq26.true) (c.four_bytes.ensures _ c.requires)

pub returns-then-information-eq27 : goal.returns-then-information-eq27
returns-then-information-eq27 c = rw (head-eight c.args.bytes.now c.in-len1-up.len_at_least c.if-information-eq27.true) (c.eight_bytes.ensures _ c.requires)
