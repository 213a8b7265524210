use Rattle.std.proofs.Common.{◌≡◌, ℕ, List, Result, Ok, Err, sym, ◌∙◌}
use Rattle.std.specs.Result.{MatchResult, is_ok}
use Rattle.std.specs.Str.{IsUtf8, IsValidUpTo, is_utf8, valid_up_to}
use Rattle.std.proofs.lemmas.Bool.{false_from_ne_true}
use Rattle.std.proofs.lemmas.Str.{IsUtf8-from_is_utf8, is_utf8-from_IsUtf8}
use Rattle.cbor_core.proofs.reading.is_text.Goals as goal

tells : {X E : Type 0} (r : Result X E) (bytes : List ℕ) (P : X → Type 0) (Q : E → Type 0) → MatchResult r (λ x. P x × IsUtf8 bytes) (λ e. (IsUtf8 bytes → ⊥) × Q e) → is_ok r ≡ is_utf8 bytes
tells (Ok x) bytes P Q h = sym (is_utf8-from_IsUtf8 bytes h.1)
tells (Err e) bytes P Q h = sym (false_from_ne_true (is_utf8 bytes) (λ t. h.0 (IsUtf8-from_is_utf8 bytes t)))

pub returns : goal.returns
returns c = c.is_ok.ensures.value ∙ tells c.from_utf8.result c.args.bytes.now (λ s. s.now ≡ c.args.bytes.now) (λ e. IsValidUpTo c.args.bytes.now (valid_up_to e)) c.from_utf8.ensures.cases
