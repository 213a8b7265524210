-- Heads: what the parser's answers say of them.
use Rattle.std.proofs.Common.{◌≡◌, ℕ, ◌<◌, ◌≤◌, List, ◌++◌, length, drop, ap, ◌∙◌, arith, append_assoc, length-take}
use Rattle.std.proofs.lemmas.List.{length-map}
use Rattle.httparse.specs.Grammar.{RequestHead, print_request}
use Rattle.httparse.specs.Spans.{RequestOverflows, IsRequestAt, AreFieldsAt}
use Rattle.httparse.specs.declared.spans.HeaderSpan.{HeaderSpan}
use Rattle.httparse.specs.declared.spans.RequestSpans.{RequestSpans}
use Rattle.http_wire.specs.Heads.{IsHead, Hopeless}

-- an error of the parser: no continuation has a head
pub hopeless : (buf : List ℕ) → RequestOverflows 32 buf → Hopeless buf
hopeless buf h more head rest is =
    let over : 32 < length head.fields = h more head rest is.reads in omega (arith, is.fields)

-- at most as many fields as there is room for
pub few_fields : (buf : List ℕ) (headers : List HeaderSpan) (count : ℕ) (h : RequestHead)
    → length headers ≡ 32 → AreFieldsAt buf headers count h.fields → length h.fields ≤ 32
few_fields buf headers count h room e =
    omega (arith, simp (length-map, length-take) at (ap length e), room)

-- what the parser found is a head, whatever follows
pub found_head : (buf : List ℕ) (headers : List HeaderSpan) (r : RequestSpans) (h : RequestHead) (more : List ℕ)
    → length headers ≡ 32 → length buf ≤ 8192 → r.len ≤ length buf → IsRequestAt buf headers r h → IsHead (buf ++ more) h (drop r.len buf ++ more)
found_head buf headers r h more room short within at = record {
  reads = (at.reads.0, ap (λ (xs : List ℕ). xs ++ more) at.reads.1 ∙ append_assoc (print_request h) (drop r.len buf) more);
  fields = few_fields buf headers r.headers h room at.fields;
  size = let e = at.len in omega (arith, e);
}
