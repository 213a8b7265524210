use Rattle.std.proofs.Common.{◌≡◌, ◌≤◌, [], ◌∷◌, ◌++◌, None, Some, IsTrue, sym, ap, ◌∙◌, subst, arith}
use Rattle.std.specs.Prelude.{IfSome}
use Rattle.log_replay.specs.Records.{Log, reserve_record, record_of, reserved_of, used_of}
use Rattle.log_replay.specs.WellMade.{WellMade}
use Rattle.registrar.specs.Turns.{ready_log, log_with}
use Rattle.registrar.specs.Seen.{log_of}
use Rattle.registrar.specs.Writing.{body_needed}
use Rattle.registrar.specs.Fits.{Registered}
use Rattle.registrar.proofs.Adding.{fits_all, fits_more, reserve_images}
use Rattle.registrar.proofs.registrar.Registrar.add_reserve.Goals as goal

pub returns-in_err-write-clause-images : goal.returns-in_err-write-clause-images
returns-in_err-write-clause-images g c = λ tells.
    reserve_images g.D.Disk.held _ c.args.self.now _ c.self.inside.ledger.records (body_needed c.args.needed) c.in-Some.needed.body.items c.self.view_is (c.self.invariant.told tells) c.requires.is (ap body_needed c.in-Some.is) (c.write.ensures.images tells)

pub accept_reserve-requires : goal.accept_reserve-requires
accept_reserve-requires g c = λ R there.
    let body = c.in-Some.needed.body.items in
    let ready : ready_log c.args.self.now.standing ≡ c.args.self.now.standing.log ++ body ∷ [] = ap (λ o. log_with o c.args.self.now.standing.log) (sym c.requires.is ∙ ap body_needed c.in-Some.is) in
    let here : WellMade (c.args.self.now.standing.log ++ body ∷ []) = subst WellMade ready c.requires.well in
    let well : WellMade (log_of c.self.inside.log.value ++ body ∷ []) = subst (λ (v : Registered g.row.D.Denot). WellMade (v.standing.log ++ body ∷ [])) (sym c.self.view_is) here in
    let reads = subst (λ o. IfSome o (λ n. record_of n.body.items ≡ Some (reserve_record n.upto))) c.in-Some.is c.requires.reads in
    fits_all c.state_laws.ensures.failing c.log_laws.ensures.one_more c.log_laws.ensures.one_less c.self.inside.state (log_of c.self.inside.log.value) R body (reserve_record c.in-Some.needed.upto) c.self.invariant.state well reads there

pub invariant_of-self-2 : goal.invariant_of-self-2
invariant_of-self-2 g c =
    let body = c.in-Some.needed.body.items in
    let back = sym c.self.view_is in
    let ready : ready_log c.args.self.now.standing ≡ c.args.self.now.standing.log ++ body ∷ [] = ap (λ o. log_with o c.args.self.now.standing.log) (sym c.requires.is ∙ ap body_needed c.in-Some.is) in
    let here : WellMade (c.args.self.now.standing.log ++ body ∷ []) = subst WellMade ready c.requires.well in
    let well : WellMade (log_of c.self.inside.log.value ++ body ∷ []) = subst (λ (v : Registered g.row.D.Denot). WellMade (v.standing.log ++ body ∷ [])) back here in
    let near : c.args.self.now.standing.next ≤ reserved_of (c.args.self.now.standing.log ++ body ∷ []) = subst (λ (L : Log). c.args.self.now.standing.next ≤ reserved_of L) ready c.requires.ahead in
    let next : c.self.inside.next ≤ reserved_of (log_of c.self.inside.log.value ++ body ∷ []) = subst (λ (v : Registered g.row.D.Denot). v.standing.next ≤ reserved_of (v.standing.log ++ body ∷ [])) back near in
    let reads = subst (λ o. IfSome o (λ n. record_of n.body.items ≡ Some (reserve_record n.upto))) c.in-Some.is c.requires.reads in
    let same = (c.more_laws.ensures.reserve (log_of c.self.inside.log.value) body c.in-Some.needed.upto reads).used in
    let above = c.self.invariant.above in
    let used : used_of (log_of c.self.inside.log.value ++ body ∷ []) ≤ c.self.inside.next = omega (arith, same, above) in
    let none : c.self.inside.ledger.pending ≡ None = ap (λ (v : Registered g.row.D.Denot). v.standing.pending) c.self.view_is ∙ c.requires.settled in
    fits_more (IsTrue g.D.Disk.tells) c.self.inside.state c.accept_reserve.new.self c.self.inside.signer c.self.inside.ledger.records c.write.new.self.records _ _ body
    c.growth_laws.ensures.header c.self.invariant well
    (c.accept_reserve.ensures.log (log_of c.self.inside.log.value) body c.self.invariant.state reads)
    (ap (λ l. l.records) c.in_ok-write.ensures.added)
    (c.with_record.ensures ∙ ap (λ b. log_of b.value ++ body ∷ []) c.replace-before.ensures.value)
    next used
    (ap (λ l. l.pending) c.in_ok-write.ensures.added ∙ none)

pub returns-clause-images : goal.returns-clause-images
returns-clause-images g c = λ tells.
    reserve_images g.D.Disk.held _ c.args.self.now _ c.self.inside.ledger.records (body_needed c.args.needed) c.in-Some.needed.body.items c.self.view_is (c.self.invariant.told tells) c.requires.is (ap body_needed c.in-Some.is) (c.write.ensures.images tells)
