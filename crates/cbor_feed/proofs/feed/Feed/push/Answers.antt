use Rattle.std.proofs.Common.{◌≡◌, ℕ, ◌-◌, List, ◌++◌, length, take, reverse, Some, sym, ap, subst, ◌∙◌, arith}
use Rattle.std.specs.Option.{option_map}
use Rattle.cbor_core.specs.declared.words.Why.TheVariants.{Truncated}
use Rattle.cbor_core.specs.Bytes.{IsBytes}
use Rattle.cbor_core.specs.Faults.{FaultIn}
use Rattle.cbor_feed.specs.declared.words.Fed.TheVariants.{Done, Fault}
use Rattle.cbor_feed.specs.Feeding.{Feeding}
use Rattle.cbor_feed.specs.Keeping.{said}
use Rattle.cbor_feed.specs.Chains.{start_of}
use Rattle.cbor_feed.proofs.FeedSteps.{none_left, cut-kept, fed-is, bytes-fed, chain-fed, cut-fault, stuck-fault, item-spelled, ends-in}
use Rattle.cbor_feed.proofs.feed.Feed.push.Goals as goal

pub walk-requires-clause-chain : goal.walk-requires-clause-chain
walk-requires-clause-chain c =
    let old = c.self.inside in
    let cut = cut-kept old.grammar old.held.items old.frames.items old.ended c.self.invariant (none_left old.ended c.in_default.not-Some) in
    let all : c.extend_from_slice.new.self.items ≡ old.held.items ++ c.args.piece.now = fed-is c.extend_from_slice.result c.extend_from_slice.new.self.items old.held.items c.args.piece.now c.extend_from_slice.ensures.items (sym c.is_err.ensures.value ∙ c.if-is_err.false) in
    rw c.as_slice.ensures.value (chain-fed old.grammar (reverse old.frames.items) old.held.items c.args.piece.now c.extend_from_slice.new.self.items cut all)

pub invariant_of-self-in-Ok-Whole : goal.invariant_of-self-in-Ok-Whole
invariant_of-self-in-Ok-Whole c =
    let old = c.self.inside in
    let cut = cut-kept old.grammar old.held.items old.frames.items old.ended c.self.invariant (none_left old.ended c.in_default.not-Some) in
    let all : c.extend_from_slice.new.self.items ≡ old.held.items ++ c.args.piece.now = fed-is c.extend_from_slice.result c.extend_from_slice.new.self.items old.held.items c.args.piece.now c.extend_from_slice.ensures.items (sym c.is_err.ensures.value ∙ c.if-is_err.false) in
    let fits : IsBytes c.extend_from_slice.new.self.items = bytes-fed old.grammar (reverse old.frames.items) old.held.items c.args.piece.now c.extend_from_slice.new.self.items cut (λ i. omega (arith, c.type_inv.piece i)) all in
    let read = rw (c.in-Ok-Whole.field-0-is, c.as_slice.ensures.value) at c.in-Ok-Whole.ensures in
    rw c.truncate.ensures.items (item-spelled old.grammar c.extend_from_slice.new.self.items c.in-Ok-Whole.item c.in-Ok-Whole.end fits read)

pub returns-in-Ok-Cut-clause-answer : goal.returns-in-Ok-Cut-clause-answer
returns-in-Ok-Cut-clause-answer c =
    let old = c.self.inside in
    let none = none_left old.ended c.in_default.not-Some in
    let all : c.extend_from_slice.new.self.items ≡ old.held.items ++ c.args.piece.now = fed-is c.extend_from_slice.result c.extend_from_slice.new.self.items old.held.items c.args.piece.now c.extend_from_slice.ensures.items (sym c.is_err.ensures.value ∙ c.if-is_err.false) in
    let cut = rw (c.in-Ok-Cut.field-0-is, c.as_slice.ensures.value) at c.in-Ok-Cut.ensures in
    let frames = reverse c.walk.new.frames.items in
    let fault = cut-fault old.grammar frames c.extend_from_slice.new.self.items cut in
    rw (← c.self.view_is) (λ last. ((start_of frames, subst (λ (b : List ℕ). FaultIn old.grammar 0 b (start_of frames) Truncated) all fault), λ i. record { grammar = old.grammar; fed = all i; last = option_map said (none i) }))

pub returns-in-Ok-Whole-clause-answer : goal.returns-in-Ok-Whole-clause-answer
returns-in-Ok-Whole-clause-answer c =
    let old = c.self.inside in
    let cut = cut-kept old.grammar old.held.items old.frames.items old.ended c.self.invariant (none_left old.ended c.in_default.not-Some) in
    let all : c.extend_from_slice.new.self.items ≡ old.held.items ++ c.args.piece.now = fed-is c.extend_from_slice.result c.extend_from_slice.new.self.items old.held.items c.args.piece.now c.extend_from_slice.ensures.items (sym c.is_err.ensures.value ∙ c.if-is_err.false) in
    let fits : IsBytes c.extend_from_slice.new.self.items = bytes-fed old.grammar (reverse old.frames.items) old.held.items c.args.piece.now c.extend_from_slice.new.self.items cut (λ i. omega (arith, c.type_inv.piece i)) all in
    let read = rw (c.in-Ok-Whole.field-0-is, c.as_slice.ensures.value) at c.in-Ok-Whole.ensures in
    let ends = ends-in old.grammar (reverse old.frames.items) old.held.items c.args.piece.now c.extend_from_slice.new.self.items c.in-Ok-Whole.item c.in-Ok-Whole.end fits cut all read in
    let used : c.saturating_sub.result ≡ c.in-Ok-Whole.end - length old.held.items = c.saturating_sub.ensures ∙ ap (λ (n : ℕ). c.in-Ok-Whole.end - n) (c.len-before.ensures ∙ old.held.ok.0) in
    let held : c.truncate.new.self.items ≡ old.held.items ++ take (c.in-Ok-Whole.end - length old.held.items) c.args.piece.now = c.truncate.ensures.items ∙ ap (λ (b : List ℕ). take c.in-Ok-Whole.end b) all ∙ ends.cut in
    let made : List ℕ → Feeding = λ fed. record { grammar = old.grammar; fed = fed; last = Some (Done 0) } in
    rw (← c.self.view_is, used) (λ last. (ends.some, ends.within, (c.in-Ok-Whole.item, ends.spelled), ap made held))

pub returns-in-Ok-Stuck-clause-answer : goal.returns-in-Ok-Stuck-clause-answer
returns-in-Ok-Stuck-clause-answer c =
    let old = c.self.inside in
    let cut = cut-kept old.grammar old.held.items old.frames.items old.ended c.self.invariant (none_left old.ended c.in_default.not-Some) in
    let all : c.extend_from_slice.new.self.items ≡ old.held.items ++ c.args.piece.now = fed-is c.extend_from_slice.result c.extend_from_slice.new.self.items old.held.items c.args.piece.now c.extend_from_slice.ensures.items (sym c.is_err.ensures.value ∙ c.if-is_err.false) in
    let fits : IsBytes c.extend_from_slice.new.self.items = bytes-fed old.grammar (reverse old.frames.items) old.held.items c.args.piece.now c.extend_from_slice.new.self.items cut (λ i. omega (arith, c.type_inv.piece i)) all in
    let stuck = rw (c.in-Ok-Stuck.field-0-is, c.as_slice.ensures.value) at c.in-Ok-Stuck.ensures in
    let fault = stuck-fault old.grammar c.extend_from_slice.new.self.items c.in-Ok-Stuck.fault fits stuck in
    let made : List ℕ → Feeding = λ fed. record { grammar = old.grammar; fed = fed; last = Some (Fault c.in-Ok-Stuck.fault) } in
    rw (← c.self.view_is) (λ last. (stuck.other, subst (λ (b : List ℕ). FaultIn old.grammar 0 b c.in-Ok-Stuck.fault.at c.in-Ok-Stuck.fault.why) all fault, ap made all))
