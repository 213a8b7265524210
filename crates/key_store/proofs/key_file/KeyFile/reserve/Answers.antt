use Rattle.std.proofs.Common.{◌≡◌, ℕ, ◌+◌, ◌<◌, ◌∷◌, ◌++◌, [], List, IsTrue, None, Some, min, refl, sym, ap, ◌∙◌, arith}
use Rattle.hss_keys.specs.Levels.{capacity}
use Rattle.scitt_journal.specs.Keeping.{Kept}
use Rattle.key_store.specs.Keys.{KeyStanding, Keyed, IsReservation}
use Rattle.key_store.proofs.KeyLemmas.{still_leaves, written_leaves, kept_more}
use Rattle.key_store.proofs.key_file.KeyFile.reserve.Goals as goal

pub overflow_add-self-inside : goal.overflow_add-self-inside
overflow_add-self-inside g c =
    let within = c.self.invariant.within in
    let below = c.self.invariant.below in
    let most = c.self.invariant.limits.most in
    omega (arith, within, below, most, c.capacity-capacity.ensures.value, c.capacity-capacity.ensures.bound, c.from.ensures)

pub returns-in_err-body-clause-images : goal.returns-in_err-body-clause-images
returns-in_err-body-clause-images g c = λ tells.
    rw (← c.self.view_is) (still_leaves c.self.inside.head (record { records = c.self.inside.ledger.records; pending = c.self.inside.ledger.pending; next = c.self.inside.next }) _ _ c.moment_laws.ensures.still c.moment_laws.ensures.epoch refl (ap (λ (k : Keyed g.row.D.Denot). k.standing.pending) c.self.view_is ∙ c.requires.settled) (c.images.ensures tells))

pub returns-in_err-reserve_buffer-clause-images : goal.returns-in_err-reserve_buffer-clause-images
returns-in_err-reserve_buffer-clause-images g c = λ tells.
    rw (← c.self.view_is) (still_leaves c.self.inside.head (record { records = c.self.inside.ledger.records; pending = c.self.inside.ledger.pending; next = c.self.inside.next }) _ _ c.moment_laws.ensures.still c.moment_laws.ensures.epoch (ap (λ (l : Kept g.row.D.Denot). g.D.Disk.held l.disk) c.reserve_buffer.ensures.others) (ap (λ (k : Keyed g.row.D.Denot). k.standing.pending) c.self.view_is ∙ c.requires.settled) (c.images.ensures tells))

pub returns-in_err-write-clause-images : goal.returns-in_err-write-clause-images
returns-in_err-write-clause-images g c = λ tells.
    let S : KeyStanding = record {
      records = c.self.inside.ledger.records;
      pending = c.self.inside.ledger.pending;
      next = c.self.inside.next;
    } in
    let spent : c.self.inside.next ≡ c.self.inside.reserved = ap (λ (k : Keyed g.row.D.Denot). k.standing.next) c.self.view_is ∙ c.requires.spent ∙ sym (ap (λ (k : Keyed g.row.D.Denot). k.reserved) c.self.view_is) in
    let left : c.self.inside.next < capacity c.self.inside.head.levels = rw (← c.self.view_is) at c.requires.left in
    let upto : c.min-upto.result ≡ min (c.self.inside.next + c.self.inside.head.block) (capacity c.self.inside.head.levels) = omega (arith, c.min-upto.ensures, c.from.ensures, c.capacity-capacity.ensures.value) in
    let is : IsReservation c.self.inside.head S c.in_ok-body.body.items = (spent ∙ c.self.invariant.reserved_is tells, left, c.in_ok-body.ensures.reads ∙ ap Some upto) in
    rw (← c.self.view_is) (written_leaves c.self.inside.head S c.in_ok-body.body.items _ _ _ _ (ap (λ (l : Kept g.row.D.Denot). l.records) c.reserve_buffer.ensures.others) (ap (λ (l : Kept g.row.D.Denot). g.D.Disk.held l.disk) c.reserve_buffer.ensures.others) is (c.write.ensures.images tells))

pub invariant_of-self-2 : goal.invariant_of-self-2
invariant_of-self-2 g c =
    let S : KeyStanding = record {
      records = c.self.inside.ledger.records;
      pending = c.self.inside.ledger.pending;
      next = c.self.inside.next;
    } in
    let spent : c.self.inside.next ≡ c.self.inside.reserved = ap (λ (k : Keyed g.row.D.Denot). k.standing.next) c.self.view_is ∙ c.requires.spent ∙ sym (ap (λ (k : Keyed g.row.D.Denot). k.reserved) c.self.view_is) in
    let left : c.self.inside.next < capacity c.self.inside.head.levels = rw (← c.self.view_is) at c.requires.left in
    let upto : c.min-upto.result ≡ min (c.self.inside.next + c.self.inside.head.block) (capacity c.self.inside.head.levels) = omega (arith, c.min-upto.ensures, c.from.ensures, c.capacity-capacity.ensures.value) in
    let settled : c.self.inside.ledger.pending ≡ None = ap (λ (k : Keyed g.row.D.Denot). k.standing.pending) c.self.view_is ∙ c.requires.settled in
    let body : List ℕ = c.in_ok-body.body.items in
    let added = c.in_ok-write.ensures.added in
    let others = c.reserve_buffer.ensures.others in
    kept_more (IsTrue g.D.Disk.tells) c.self.inside.head S c.self.inside.reserved c.min-upto.result c.write.new.self.records c.write.new.self.pending body c.self.invariant spent left upto c.in_ok-body.ensures.reads (ap (λ (l : Kept g.row.D.Denot). l.records) added ∙ ap (λ (l : Kept g.row.D.Denot). l.records ++ body ∷ []) others) (ap (λ (l : Kept g.row.D.Denot). l.pending) added ∙ ap (λ (l : Kept g.row.D.Denot). l.pending) others ∙ settled)

pub returns-clause-images : goal.returns-clause-images
returns-clause-images g c = λ tells.
    let S : KeyStanding = record {
      records = c.self.inside.ledger.records;
      pending = c.self.inside.ledger.pending;
      next = c.self.inside.next;
    } in
    let spent : c.self.inside.next ≡ c.self.inside.reserved = ap (λ (k : Keyed g.row.D.Denot). k.standing.next) c.self.view_is ∙ c.requires.spent ∙ sym (ap (λ (k : Keyed g.row.D.Denot). k.reserved) c.self.view_is) in
    let left : c.self.inside.next < capacity c.self.inside.head.levels = rw (← c.self.view_is) at c.requires.left in
    let upto : c.min-upto.result ≡ min (c.self.inside.next + c.self.inside.head.block) (capacity c.self.inside.head.levels) = omega (arith, c.min-upto.ensures, c.from.ensures, c.capacity-capacity.ensures.value) in
    let is : IsReservation c.self.inside.head S c.in_ok-body.body.items = (spent ∙ c.self.invariant.reserved_is tells, left, c.in_ok-body.ensures.reads ∙ ap Some upto) in
    rw (← c.self.view_is) (written_leaves c.self.inside.head S c.in_ok-body.body.items _ _ _ _ (ap (λ (l : Kept g.row.D.Denot). l.records) c.reserve_buffer.ensures.others) (ap (λ (l : Kept g.row.D.Denot). g.D.Disk.held l.disk) c.reserve_buffer.ensures.others) is (c.write.ensures.images tells))
