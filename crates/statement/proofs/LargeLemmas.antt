-- A message's logged form, and how long it is.
use Rattle.std.proofs.Common.{◌≡◌, ℕ, List, length, ap, ◌∙◌, arith}
use Rattle.cbor_core.specs.declared.words.Grammar.TheVariants.{Strict}
use Rattle.cbor_core.specs.Decoding.{OneStrictSpelling}
use Rattle.cose_sign1.specs.Message.{bare_item, bare_len, bare_text, BareIsSpelled}
use Rattle.cose_sign1.specs.Short.{StringsAreShort}
use Rattle.statement.specs.declared.stops.ParseStop.TheVariants.{TooLarge}
use Rattle.statement.specs.Statements.{ParseFault}
use Rattle.statement.specs.Large.{HasLargeForm, TooLargeIsLogged}

module _ (unique : OneStrictSpelling) (spelled : BareIsSpelled) (short : StringsAreShort) where
  has_large : (bytes : List ℕ) → ParseFault bytes TooLarge → HasLargeForm bytes
  has_large bytes (v, payload, names, is, content, named, large) =
      let fits = short bytes v is in
      let form = spelled Strict v.protected payload v.signature fits.0 (fits.1 payload content) fits.2 in
      (v, payload, names, bare_text v.protected payload v.signature, is, content, named, form.0, omega (arith, form.1, large))

  too_large : (bytes : List ℕ) → HasLargeForm bytes → ParseFault bytes TooLarge
  too_large bytes (v, payload, names, logged, is, content, named, form, large) =
      let fits = short bytes v is in
      let own = spelled Strict v.protected payload v.signature fits.0 (fits.1 payload content) fits.2 in
      let same : logged ≡ bare_text v.protected payload v.signature = unique (bare_item v.protected payload v.signature) logged (bare_text v.protected payload v.signature) form own.0 in
      let len : length logged ≡ bare_len v.protected payload v.signature = ap length same ∙ own.1 in
      (v, payload, names, is, content, named, omega (arith, len, large))

  pub too_large_is_logged : TooLargeIsLogged
  too_large_is_logged bytes = (has_large bytes, too_large bytes)
