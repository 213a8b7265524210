use Rattle.std.proofs.Common.{◌≡◌, drop}
use Rattle.scitt_io.specs.Shelf.{contents}
use Rattle.scitt_io.specs.Files.{file_named}
use Rattle.scitt_io.proofs.shelf.place_of.Given as goal

abbrev pub invariant-loop-place : goal.invariant-loop-place
invariant-loop-place l = file_named (contents (drop l.place l.files)) l.name ≡ file_named (contents l.files) l.name
