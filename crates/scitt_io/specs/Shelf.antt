-- Files in a row, of which one may be chosen.
use Rattle.std.specs.Prelude.{ℕ, List, [], Some, None, String, map, slice_get}
use Rattle.std.specs.declared.option.Option.{Option}
use Rattle.std.specs.String.{string_bytes}
use Rattle.std.specs.Global.{Global, Vec}

abbrev pub File : Type 0
File = String Global × Vec ℕ

-- the names and bytes
abbrev pub contents : List File → List (List ℕ × List ℕ)
contents files = map (λ file. (string_bytes file.0, file.1.items)) files

abbrev pub bytes_of : Option File → List ℕ
bytes_of None = []
bytes_of (Some file) = file.1.items

-- the bytes of the chosen file, and none where no file is chosen
abbrev pub chosen_bytes : List File → Option ℕ → List ℕ
chosen_bytes files None = []
chosen_bytes files (Some place) = bytes_of (slice_get files place)
