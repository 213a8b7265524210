-- What the words give, by the parse of them and its matches.
use Rattle.std.proofs.Common.{◌≡◌, ◌≢◌, List, [], ◌∷◌, Option, None, refl, sym, ap, ◌∙◌}
use Rattle.clap.specs.Kinds.{Kinds}
use Rattle.clap.specs.Words.{Row, Text, fault_of, matches_of}
use Rattle.scittd.specs.Words.{Names, app, given_in, names_among, when_none}

when_faulty : (kinds : Kinds) (names : Option Names) → kinds ≢ [] → when_none kinds names ≡ None
when_faulty [] names differs = absurd (differs refl)
when_faulty (kind ∷ kinds) names differs = refl

pub given_none : (words : List Text) → fault_of app words ≢ [] → given_in words ≡ None
unfolding given_in
given_none words differs = when_faulty (fault_of app words) (names_among (matches_of app words)) differs

pub given_is : (words : List Text) (rows : List Row) (names : Option Names)
    → fault_of app words ≡ [] → rows ≡ matches_of app words → names ≡ names_among rows → given_in words ≡ names
unfolding given_in
given_is words rows names fits is read =
    ap (λ (kinds : Kinds). when_none kinds (names_among (matches_of app words))) fits ∙ sym (read ∙ ap names_among is)
