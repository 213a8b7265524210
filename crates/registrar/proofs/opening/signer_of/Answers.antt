use Rattle.std.proofs.Common.{ap}
use Rattle.std.specs.Option.{option_copied}
use Rattle.registrar.specs.Seen.{log_of}
use Rattle.registrar.proofs.Walking.{no_header}
use Rattle.registrar.proofs.opening.signer_of.Goals as goal

pub unreachable-requires : goal.unreachable-requires
unreachable-requires c =
    let R = log_of c.args.found.now.log.value in
    no_header c.growth_laws.ensures.first R (option_copied c.header.result) c.requires.some c.requires.stands.sound (c.header.ensures.header R c.requires.stands) (ap option_copied c.in_default.is)
