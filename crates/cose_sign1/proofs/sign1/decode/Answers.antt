use Rattle.std.proofs.Common.{ℕ, List, Err, subst}
use Rattle.std.proofs.lemmas.Result.{err_from_is_err_and}
use Rattle.cose_sign1.specs.Sign1Of.{ReadsEntries, HasEntries}
use Rattle.cose_sign1.proofs.DecodeLemmas.{entries_fail, headers_fail}
use Rattle.cose_sign1.proofs.sign1.decode.Goals as goal

pub returns-in_err-entries : goal.returns-in_err-entries
returns-in_err-entries c =
    let p = err_from_is_err_and c.from_residual-in_err-entries.result c.from_residual-in_err-entries.ensures.1 in
    let stop = c.in_err-entries.field-0.0 in
    let fails = subst (λ (s : List ℕ). ReadsEntries s (Err stop)) c.as_slice.ensures c.in_err-entries.ensures in
    rw (p.1, p.2) (entries_fail c.args.bytes.now c.in_ok-parts.parts c.in_ok-parts.ensures stop fails)

pub returns-in_err-check_headers : goal.returns-in_err-check_headers
returns-in_err-check_headers c =
    let p = err_from_is_err_and c.from_residual-in_err-check_headers.result c.from_residual-in_err-check_headers.ensures.1 in
    let stop = c.in_err-check_headers.field-0.0 in
    let parts = c.in_ok-parts.parts in
    let has = subst (λ (s : List ℕ). HasEntries s c.in_ok-entries.entries) c.as_slice.ensures c.in_ok-entries.ensures in
    let fails = rw (c.as_slice-2.ensures, c.as_slice-3.ensures) at c.in_err-check_headers.ensures in
    rw (p.1, p.2) (headers_fail c.args.bytes.now parts c.in_ok-parts.ensures c.in_ok-entries.entries stop has fails)

pub returns : goal.returns
returns c =
    let has = subst (λ (s : List ℕ). HasEntries s c.in_ok-entries.entries) c.as_slice.ensures c.in_ok-entries.ensures in
    let none = rw (c.as_slice-2.ensures, c.as_slice-3.ensures) at c.in_ok-check_headers.ensures in
    (c.in_ok-parts.parts, c.in_ok-entries.entries, c.in_ok-parts.ensures, has, none, c.message.ensures)
