use Rattle.std.proofs.Common.{◌≡◌, ℕ, ◌+◌, ◌-◌, List, ◌++◌, take, drop, sym, ap, subst, ◌∙◌, arith}
use Rattle.std.proofs.lemmas.List.{take-append-drop, drop-take, take-take}
use Rattle.cbor_core.proofs.comparing.equal_front.Goals as goal

-- a front is a shorter one and what follows that
front_in_two : (i n : ℕ) (a : List ℕ) → take (i + n) a ≡ take i a ++ take n (drop i a)
front_in_two i n a =
    sym (take-append-drop i (take (i + n) a)) ∙ (λ k. take-take i (i + n) a (omega arith) k ++ drop-take i n a k)

more : (i j n : ℕ) (a b : List ℕ) → j - i ≡ n → j ≡ i + n → take i a ≡ take i b → take (j - i) (drop i a) ≡ take (j - i) (drop i b) → take j a ≡ take j b
more i j n a b len e same block =
    let block' = subst (λ (m : ℕ). take m (drop i a) ≡ take m (drop i b)) len block in
    ap (λ (m : ℕ). take m a) e ∙ front_in_two i n a ∙ (λ k. same k ++ block' k) ∙ sym (front_in_two i n b) ∙ ap (λ (m : ℕ). take m b) (sym e)

pub loop-at-preserved : goal.loop-at-preserved
loop-at-preserved c =
    let at = c.loop-at.at in
    record {
      within = omega arith;
      same = more at (at + 64) 64 c.args.a.now c.args.b.now (omega arith) (omega arith) c.loop-at.invariant.same (c.is_same.ensures.0 c.if-not-is_same.false);
    }
