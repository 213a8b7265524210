-- Bytes that are read behind others.
use Rattle.std.proofs.Common.{◌≡◌, ◌∙◌, ℕ, ◌+◌, ◌<◌, ◌≤◌, List, ◌++◌, length, take, drop, sym, ap, arith, append_assoc, length-take}
use Rattle.std.proofs.Math.Seq.{take-add}
use Rattle.std.proofs.lemmas.List.{take_all, take_at}
use Rattle.std.specs.declared.option.Option.{Option}
use Rattle.std.specs.Io.KnownBytes.{Consumes, IsAtEnd}
use Rattle.std.proofs.KnownBytes.{Consumes-trans}
use Rattle.http_wire.specs.Taking.{Gathers, FillsShort}

-- room was made behind the old bytes, and filled in part
pub read_front : (old pad room now after : List ℕ) (start n count : ℕ) (left left' : Option (List ℕ)) → length old ≡ start → start ≤ n
    → room ≡ take n old ++ pad → take start now ≡ take start room → after ≡ take (start + count) now → Consumes left left' (take count (drop start now))
    → Gathers old after left left'
read_front old pad room now after start n count left left' sized fits room_is front is taken =
    let whole : take n old ≡ old = take_all n old (omega (arith, sized, fits)) in
    let kept : take start room ≡ old = ap (take start) (room_is ∙ ap (λ (xs : List ℕ). xs ++ pad) whole) ∙ take_at old pad start sized in
    record {
      bytes = take count (drop start now);
      taken = taken;
      held = is ∙ take-add start count now ∙ ap (λ (xs : List ℕ). xs ++ take count (drop start now)) (front ∙ kept);
    }

-- more were read behind those that were gathered
pub gathers_more : (old a b c : List ℕ) (done count : ℕ) (left mid new : Option (List ℕ)) → Gathers old (take done a) left mid → take done b ≡ take done a
    → take done c ≡ take done b → Consumes mid new (take count (drop done c)) → Gathers old (take (done + count) c) left new
gathers_more old a b c done count left mid new g room same more = record {
  bytes = g.bytes ++ take count (drop done c);
  taken = Consumes-trans left mid new g.bytes (take count (drop done c)) g.taken more;
  held =
      take-add done count c ∙ ap (λ (xs : List ℕ). xs ++ take count (drop done c)) (same ∙ room ∙ g.held)
      ∙ append_assoc old g.bytes (take count (drop done c));
}

pub gathers_whole : (old new : List ℕ) (done : ℕ) (left left' : Option (List ℕ)) → length new ≤ done → Gathers old (take done new) left left' → Gathers old new left left'
gathers_whole old new done left left' all g = record { bytes = g.bytes; taken = g.taken; held = sym (take_all done new all) ∙ g.held }

-- the input ended before there were so many bytes
pub fills_short : (old a b c : List ℕ) (done size : ℕ) (left mid new : Option (List ℕ)) → Gathers old (take done a) left mid → take done b ≡ take done a
    → take done c ≡ take done b → Consumes mid new (take 0 (drop done c)) → done < size → done ≤ length c → IsAtEnd new → FillsShort old size left new
fills_short old a b c done size left mid new g room same more less within end =
    let all = gathers_more old a b c done 0 left mid new g room same more in
    let sized : length (old ++ all.bytes) ≡ done = sym (ap length all.held) ∙ (let e : length (take (done + 0) c) ≡ done = omega (arith, length-take (done + 0) c, within) in e) in
    record { bytes = all.bytes; taken = all.taken; short = omega (arith, sized, less); end = end }
