-- Every list of bytes has no log, or is a list of records, or is short: by going over its records from the front.
use Rattle.std.proofs.Common.{◌≡◌, ◌≢◌, ℕ, ◌+◌, ◌^◌, ◌<◌, ◌≤◌, ◌⊎◌, suc, zero, List, [], ◌∷◌, ◌++◌, length, take, drop, get_or, refl, ap, sym, ◌∙◌, inl, inr, arith, append_assoc, length-append, length-drop}
use Rattle.std.specs.Int.{w32, from_be_bytes}
use Rattle.std.proofs.lemmas.Bool.{cases_lt, cases_eq}
use Rattle.std.proofs.lemmas.Nat.{be_bytes_4}
use Rattle.std.proofs.lemmas.List.{take-append-drop, length-take-le, get_or-take, get_or-drop, get_or_past}
use Rattle.scitt_journal.specs.Layout.{size_bytes, size_in, sized, spelled, AllFit, NoLog, RecordsOf, Short, Cut}
use Rattle.scitt_journal.specs.Laws.{AreBytes}
use Rattle.scitt_journal.proofs.Gates.{length-sized}
use Rattle.scitt_journal.proofs.Unique.{opened_as}

are_bytes-drop : (n : ℕ) (bytes : List ℕ) → AreBytes bytes → AreBytes (drop n bytes)
are_bytes-drop n bytes are i = rw (get_or-drop n bytes i 0) (are (n + i))

are_bytes-four : (bytes : List ℕ) → 4 ≤ length bytes → AreBytes bytes → AreBytes (take 4 bytes)
are_bytes-four bytes four are i =
    elim (cases_lt i 4) [
      | inl within ↦ rw (get_or-take 4 bytes i 0 within) (are i)
      | inr past ↦ rw (get_or_past (take 4 bytes) i 0 (omega (arith, past, length-take-le 4 bytes four))) (omega arith)
    ]

-- four bytes spell a number below 2 ^ 32, and that number is spelled by them
size_fits : (four : List ℕ) → AreBytes four → size_in four < 2 ^ 32
unfolding size_in
size_fits four are = omega (arith, are 0, are 1, are 2, are 3)

size_again : (four : List ℕ) → length four ≡ 4 → AreBytes four → size_bytes (size_in four) ≡ four
unfolding size_bytes size_in
size_again four long are = be_bytes_4 four (from_be_bytes w32 four) long are refl

-- what follows an open gate is cut, or a record and at least one byte more
record Whole (tail : List ℕ) : Type 0 where
  body : List ℕ
  fits : length body < 2 ^ 32
  more : List ℕ
  some : 0 < length more
  are : AreBytes more
  is : tail ≡ sized body ++ more

whole : (tail : List ℕ) → AreBytes tail → 4 ≤ length tail → 4 + size_in (take 4 tail) < length tail → Whole tail
whole tail are four enough =
    let size : ℕ = size_in (take 4 tail) in
    let front : AreBytes (take 4 tail) = are_bytes-four tail four are in
    let left : length (drop 4 tail) + 4 ≡ length tail = omega (arith, four, length-drop 4 tail) in
    let body : List ℕ = take size (drop 4 tail) in
    let more : List ℕ = drop size (drop 4 tail) in
    let long : length body ≡ size = length-take-le size (drop 4 tail) (omega (arith, enough, left)) in
    let spells : size_bytes (length body) ≡ take 4 tail = ap size_bytes long ∙ size_again (take 4 tail) (length-take-le 4 tail four) front in
    record {
      body = body;
      fits = omega (arith, long, size_fits (take 4 tail) front);
      more = more;
      some = omega (arith, enough, left, length-drop size (drop 4 tail));
      are = are_bytes-drop size (drop 4 tail) (are_bytes-drop 4 tail are);
      is = sym (append_assoc (size_bytes (length body)) body more ∙ ap (λ four. four ++ (body ++ more)) spells ∙ ap (λ back. take 4 tail ++ back) (take-append-drop size (drop 4 tail)) ∙ take-append-drop 4 tail);
    }

cut_or_whole : (tail : List ℕ) → AreBytes tail → Cut tail ⊎ Whole tail
cut_or_whole tail are =
    elim (cases_lt (length tail) 4) [
      | inl few ↦ inl (inl few)
      | inr four ↦ elim (cases_lt (4 + size_in (take 4 tail)) (length tail)) [
        | inl enough ↦ inr (whole tail are four enough)
        | inr passes ↦ inl (inr passes)
      ]
    ]

-- where the walk over the records ends: at a gate that isn't open, or at an open one with a record that is cut
record Shut (bytes : List ℕ) : Type 0 where
  bodies : List (List ℕ)
  fit : AllFit bodies
  gate : ℕ
  shut : gate ≢ 1
  behind : List ℕ
  is : bytes ≡ spelled bodies ++ gate ∷ behind

record Open (bytes : List ℕ) : Type 0 where
  bodies : List (List ℕ)
  fit : AllFit bodies
  tail : List ℕ
  cut : Cut tail
  is : bytes ≡ spelled bodies ++ 1 ∷ tail

shut_behind : (body more bytes : List ℕ) → length body < 2 ^ 32 → bytes ≡ 1 ∷ (sized body ++ more) → Shut more → Shut bytes
shut_behind body more bytes fits e was =
    record {
      bodies = body ∷ was.bodies;
      fit = (fits, was.fit);
      gate = was.gate;
      shut = was.shut;
      behind = was.behind;
      is = e ∙ ap (λ list. 1 ∷ (sized body ++ list)) was.is ∙ sym (opened_as body was.bodies (was.gate ∷ was.behind));
    }

open_behind : (body more bytes : List ℕ) → length body < 2 ^ 32 → bytes ≡ 1 ∷ (sized body ++ more) → Open more → Open bytes
open_behind body more bytes fits e was =
    record {
      bodies = body ∷ was.bodies;
      fit = (fits, was.fit);
      tail = was.tail;
      cut = was.cut;
      is = e ∙ ap (λ list. 1 ∷ (sized body ++ list)) was.is ∙ sym (opened_as body was.bodies (1 ∷ was.tail));
    }

-- the walk ends, in a list no longer than n
ends : (n : ℕ) (bytes : List ℕ) → AreBytes bytes → length bytes ≤ n → 0 < length bytes → Shut bytes ⊎ Open bytes
ends n [] are most some = absurd (omega (arith, some))
ends zero (gate ∷ tail) are most some = absurd (omega (arith, most))
ends (suc n) (gate ∷ tail) are most some =
    elim (cases_eq gate 1) [
      | inr shut ↦ inl (record { bodies = []; fit = tt; gate = gate; shut = shut; behind = tail; is = refl })
      | inl opened ↦ elim (cut_or_whole tail (λ i. are (suc i))) [
        | inl cut ↦ inr (record { bodies = []; fit = tt; tail = tail; cut = cut; is = ap (λ first. first ∷ tail) opened })
        | inr next ↦
            let e : gate ∷ tail ≡ 1 ∷ (sized next.body ++ next.more) = ap (λ first. first ∷ tail) opened ∙ ap (λ list. 1 ∷ list) next.is in
            elim (ends n next.more next.are (omega (arith, most, ap length next.is, length-append (sized next.body) next.more, length-sized next.body)) next.some) [
              | inl at ↦ inl (shut_behind next.body next.more (gate ∷ tail) next.fits e at)
              | inr at ↦ inr (open_behind next.body next.more (gate ∷ tail) next.fits e at)
            ]
      ]
    ]

-- a file of six bytes with an open first gate has a record before a gate that isn't open
has_some : (bodies : List (List ℕ)) (gate : ℕ) (behind : List ℕ) → gate ≢ 1 → get_or (spelled bodies ++ gate ∷ behind) 0 0 ≡ 1 → 0 < length bodies
has_some [] gate behind shut opened = absurd (shut opened)
has_some (body ∷ bodies) gate behind shut opened = omega arith

has_record : (bytes : List ℕ) → get_or bytes 0 0 ≡ 1 → (at : Shut bytes) → 0 < length at.bodies
has_record bytes opened at = has_some at.bodies at.gate at.behind at.shut (sym (ap (λ list. get_or list 0 0) at.is) ∙ opened)

pub one_of_three : (bytes : List ℕ) → AreBytes bytes → NoLog bytes ⊎ (((bodies : List (List ℕ)) × ((rest : ℕ) × RecordsOf bytes bodies rest)) ⊎ ((at : ℕ) × Short bytes at))
one_of_three bytes are =
    elim (cases_lt (length bytes) 6) [
      | inl few ↦ inl (inl few)
      | inr six ↦ elim (cases_eq (get_or bytes 0 0) 1) [
        | inr shut ↦ inl (inr shut)
        | inl opened ↦ elim (ends (length bytes) bytes are (omega arith) (omega (arith, six))) [
          | inl at ↦ inr (inl (
            at.bodies,
            (
              length at.behind,
              record {
                some = has_record bytes opened at;
                fit = at.fit;
                gate = at.gate;
                shut = at.shut;
                behind = at.behind;
                is = at.is;
                left = refl;
              },
            ),
          ))
          | inr at ↦ inr (inr (
            length (spelled at.bodies),
            record {
              bodies = at.bodies;
              after = record {
                six = six;
                fit = at.fit;
                tail = at.tail;
                cut = at.cut;
                is = at.is;
                place = refl;
              };
            },
          ))
        ]
      ]
    ]
