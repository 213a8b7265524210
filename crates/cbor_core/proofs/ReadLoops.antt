-- Reading so many parts one after the other, as a loop does.
use Rattle.std.proofs.Common.{◌≡◌, ℕ, zero, suc, ◌-◌, ◌+◌, ◌≤◌, ◌<◌, List, [], ◌∷◌, ◌++◌, Result, Ok, Err, refl, sym, subst, arith}
use Rattle.std.specs.Result.{IsErrAnd}
use Rattle.cbor_core.specs.declared.words.Grammar.{Grammar}
use Rattle.cbor_core.specs.declared.heads.Stop.{Stop}
use Rattle.cbor_core.specs.declared.heads.ReadStop.{ReadStop}
use Rattle.cbor_core.specs.declared.heads.ReadStop.TheVariants.{Memory, At}
use Rattle.cbor_core.specs.declared.tree.Item.{Item}
use Rattle.cbor_core.specs.Reading.{and_then, Reader, StopsAs, ReadsAs, opened, read_body, part_in, read_each, read_pair, read_pairs, read_in}

pub read_in-is : (g : Grammar) (room : ℕ) (bytes : List ℕ) → read_in g room bytes ≡ and_then (opened g room bytes) (λ x. read_body g (part_in g room) x.0 x.1)
unfolding read_in
read_in-is g zero bytes = refl
read_in-is g (suc room) bytes = refl

-- a stop that a part gave, and that is handed on, is the stop of reading
pub handed_on : {X Y : Type 0} (view : X → Y) (result : Result X ReadStop) (stop : ReadStop) (reading : Result Y Stop) → IsErrAnd result (λ e. e ≡ stop) → StopsAs stop reading → ReadsAs view result reading
handed_on view (Ok given) stop reading is stops = absurd is
handed_on view (Err own) stop reading is stops = subst (λ (e : ReadStop). StopsAs e reading) (sym is) stops

-- one more of so many is still to read, or none is
to_read : (count i : ℕ) → i < count → count - i ≡ suc (count - (i + 1))
to_read count i more = omega arith

none_to_read : (count i : ℕ) → count ≤ i → count - i ≡ 0
none_to_read count i past = omega arith

module _ (part : Reader) where
  pub each_goes : (count i : ℕ) (front : List Item) (bytes : List ℕ) (item : Item) (after : List ℕ) (total : Result (List Item × List ℕ) Stop) → i < count → part bytes ≡ Ok (item, after)
      → read_each part (count - i) front bytes ≡ total → read_each part (count - (i + 1)) (front ++ item ∷ []) after ≡ total
  unfolding read_each
  each_goes count i front bytes item after total more read whole = rw (to_read count i more, read) at whole

  pub each_ends : (e : ReadStop) (count i : ℕ) (front : List Item) (bytes : List ℕ) (total : Result (List Item × List ℕ) Stop) → i < count → StopsAs e (part bytes)
      → read_each part (count - i) front bytes ≡ total → StopsAs e total
  unfolding read_each
  each_ends (At stop) count i front bytes total more stops whole = sym (rw (to_read count i more, stops) at whole)
  each_ends Memory count i front bytes total more stops whole = tt

  pub each_done : (count i : ℕ) (front : List Item) (bytes : List ℕ) (total : Result (List Item × List ℕ) Stop) → count ≤ i → read_each part (count - i) front bytes ≡ total → total ≡ Ok (front, bytes)
  unfolding read_each
  each_done count i front bytes total past whole = sym (rw (none_to_read count i past) at whole)

module _ (g : Grammar) (part : Reader) where
  pub pairs_go : (count i : ℕ) (earlier : List (Item × Item)) (last bytes : List ℕ) (pair : Item × Item) (key after : List ℕ) (total : Result (List (Item × Item) × List ℕ) Stop) → i < count
      → read_pair g part earlier last bytes ≡ Ok (pair, (key, after)) → read_pairs g part (count - i) earlier last bytes ≡ total → read_pairs g part (count - (i + 1)) (earlier ++ pair ∷ []) key after ≡ total
  unfolding read_pairs
  pairs_go count i earlier last bytes pair key after total more read whole = rw (to_read count i more, read) at whole

  pub pairs_end : (e : ReadStop) (count i : ℕ) (earlier : List (Item × Item)) (last bytes : List ℕ) (total : Result (List (Item × Item) × List ℕ) Stop) → i < count
      → StopsAs e (read_pair g part earlier last bytes) → read_pairs g part (count - i) earlier last bytes ≡ total → StopsAs e total
  unfolding read_pairs
  pairs_end (At stop) count i earlier last bytes total more stops whole = sym (rw (to_read count i more, stops) at whole)
  pairs_end Memory count i earlier last bytes total more stops whole = tt

  pub pairs_done : (count i : ℕ) (earlier : List (Item × Item)) (last bytes : List ℕ) (total : Result (List (Item × Item) × List ℕ) Stop) → count ≤ i → read_pairs g part (count - i) earlier last bytes ≡ total → total ≡ Ok (earlier, bytes)
  unfolding read_pairs
  pairs_done count i earlier last bytes total past whole = sym (rw (none_to_read count i past) at whole)
