-- Files in a row: the first of a name, and what a read gives of one.
use Rattle.std.proofs.Common.{◌≡◌, ℕ, ◌+◌, ◌-◌, ◌<◌, ◌≤◌, List, ◌++◌, length, take, drop, get_or, true, Some, slice_get, refl, sym, arith, length-drop, length-take}
use Rattle.std.specs.String.{string_bytes}
use Rattle.std.specs.Str.{bytes_eq}
use Rattle.std.proofs.lemmas.List.{drop_more, drop-drop, take_all, take_at, take-append-drop}
use Rattle.std.proofs.lemmas.Option.{slice_get_read}
use Rattle.scitt_io.specs.Shelf.{File, contents, bytes_of}
use Rattle.scitt_io.specs.Files.{file_named}

-- it is the one at this place, where that one has the name
pub named_here : (files : List File) (place : ℕ) (file : File) (name : List ℕ) → place < length files → file ≡ get_or files place file
    → bytes_eq (string_bytes file.0) name ≡ true → file_named (contents (drop place files)) name ≡ Some (bytes_of (slice_get files place))
named_here files place file name within is hit =
    let found : slice_get files place ≡ Some file = slice_get_read files (length files) place file refl within is in
    rw (drop_more files place file within, ← is, hit, found) refl

-- the next n bytes, copied to the front of a buffer
pub given_front : (bytes front buf : List ℕ) (at n : ℕ) → at ≤ length bytes → n ≤ length bytes - at → front ≡ take n (take (length bytes - at) (drop at bytes))
    → drop at bytes ≡ take n (front ++ drop n buf) ++ drop (at + n) bytes
given_front bytes front buf at n begins fits is =
    let whole : take (length bytes - at) (drop at bytes) ≡ drop at bytes = take_all _ _ (omega (arith, length-drop at bytes)) in
    let front_is : front ≡ take n (drop at bytes) = rw whole at is in
    let sized : length front ≡ n = rw front_is (omega (arith, length-take n (drop at bytes), length-drop at bytes)) in
    rw (take_at front (drop n buf) n sized, front_is, ← drop-drop n at bytes) (sym (take-append-drop n (drop at bytes)))
