-- Two pieces written one after the other.
use Rattle.std.proofs.Common.{◌≡◌, ℕ, suc, ◌+◌, List, [], ◌∷◌, ◌++◌, length, take, Result, Ok, Err, Option, refl, ap, ◌∙◌, subst, arith, append-nil, append_assoc, length-append, Bool, true, false}
use Rattle.http_wire.specs.declared.answer.Answer.{Answer}
use Rattle.http_wire.specs.Answering.{answer_bytes, head_bytes, sent_body}
use Rattle.std.proofs.lemmas.List.{take-append-le, take_all}
use Rattle.std.proofs.KnownBytes.{Appends-trans}
use Rattle.std.specs.Io.KnownBytes.{Appends}
use Rattle.scitt_io.specs.Sink.{WritesFront}

take_past : (xs ys : List ℕ) (n : ℕ) → take (length xs + n) (xs ++ ys) ≡ xs ++ take n ys
take_past [] ys n = ap (λ (k : ℕ). take k ys) (omega arith)
take_past (x ∷ xs) ys n =
    ap (λ (k : ℕ). take k (x ∷ (xs ++ ys))) (let e : length (x ∷ xs) + n ≡ suc (length xs + n) = omega arith in e)
    ∙ ap (λ (zs : List ℕ). x ∷ zs) (take_past xs ys n)

-- the first piece failed
pub front_err : {E F : Type 0} (xs ys : List ℕ) (old new : Option (List ℕ)) (e : E) (d : F)
    → WritesFront xs old new (Err e) → WritesFront (xs ++ ys) old new (Err d)
front_err xs ys old new e d w =
    let some : w.count ≡ length xs → ⊥ = λ same. cc (w.all.1 same) in
    record {
      count = w.count;
      within = omega (arith, length-append xs ys, w.within);
      taken = rw (take-append-le w.count xs ys w.within) w.taken;
      all = (λ ok. cc ok, λ same. absurd (omega (arith, some, length-append xs ys, w.within)));
    }

pub front_then : {E F : Type 0} (xs ys : List ℕ) (old mid new : Option (List ℕ)) (r : Result Unit E)
    → WritesFront {E = F} xs old mid (Ok tt) → WritesFront ys mid new r → WritesFront (xs ++ ys) old new r
front_then xs ys old mid new r v w =
    let whole : v.count ≡ length xs = v.all.0 refl in
    let taken : Appends old mid xs = subst (Appends old mid) (take_all v.count xs (omega (arith, whole))) v.taken in
    record {
      count = length xs + w.count;
      within = omega (arith, length-append xs ys, w.within);
      taken = rw take_past (Appends-trans old mid new xs (take w.count ys) taken w.taken);
      all = (
        λ ok. (let e : w.count ≡ length ys = w.all.0 ok in omega (arith, length-append xs ys, e)),
        λ same. w.all.1 (omega (arith, length-append xs ys, same)),
      );
    }

pub whole_head_only : (a : Answer) → a.head_only ≡ true → answer_bytes a ≡ head_bytes a
unfolding answer_bytes sent_body
whole_head_only a e = ap (λ (b : Bool). head_bytes a ++ sent_body b a.body) e ∙ append-nil (head_bytes a)

pub whole_with_body : (a : Answer) → a.head_only ≡ false → answer_bytes a ≡ head_bytes a ++ a.body
unfolding answer_bytes sent_body
whole_with_body a e = ap (λ (b : Bool). head_bytes a ++ sent_body b a.body) e

pub five_pieces : (h a b c d e : List ℕ) → ((((h ++ a) ++ b) ++ c) ++ d) ++ e ≡ h ++ ((((a ++ b) ++ c) ++ d) ++ e)
five_pieces h a b c d e = simp append_assoc
