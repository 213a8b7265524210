-- What a chosen file gives, told or not.
use Rattle.std.proofs.Common.{◌≡◌, ◌≤◌, ◌+◌, ℕ, List, length, Some, None, Ok, Err, IfOk, IfSome, Result, refl, sym, ◌∙◌, ap, arith, length-append}
use Rattle.std.specs.Global.{Vec}
use Rattle.std.specs.declared.option.Option.{Option}
use Rattle.std.specs.Io.KnownBytes.{Consumes}
use Rattle.scitt_io.specs.Files.{ReadsFile}
use Rattle.scitt_io.specs.Source.{TakesAll}
use Rattle.scitt_io.specs.declared.source.ReadStop.{ReadStop}
use Rattle.scitt_io.specs.declared.source.ReadStop.TheVariants.{TooLong, ReadFault, OutOfMemory}
use Rattle.command_line.specs.Reads.{FileOf, TellsFile, ReadOf}

-- some content is the one that is told, where files are told
pub some_content : (told : Option FileOf) (name : List ℕ) → (content : Option (List ℕ)) × TellsFile told name content
some_content None name = (None, tt)
some_content (Some file_of) name = (file_of name, refl)

-- an answer's bytes are within the limit
within_limit : (limit : ℕ) (old new : Option (List ℕ)) (v : Vec ℕ) → TakesAll limit old new (Ok v) → length v.items ≤ limit
within_limit limit old new v takes =
    let apart : length takes.bytes ≡ limit + 1 → ⊥ = λ e. let same : Ok v ≡ Err TooLong = takes.too_long.1 e in cc in
    rw takes.all (omega (arith, takes.within, apart))

-- the file's bytes were taken in part
longer : (bytes taken : List ℕ) (new : Option (List ℕ)) → Consumes (Some bytes) new taken → length taken ≤ length bytes
longer bytes taken None gone = absurd gone
longer bytes taken (Some rest) is = rw is (omega (arith, length-append taken rest))

read_told : (limit : ℕ) (file left new : Option (List ℕ)) (result : Result (Vec ℕ) ReadStop) → ReadsFile file left → TakesAll limit left new result
    → IfOk result (λ v. IfSome left (λ bytes. v.items ≡ bytes)) → ReadOf limit file result
read_told limit file left new (Ok v) chosen takes all =
    let whole : v.items ≡ chosen.bytes = rw chosen.opened at all in
    (chosen.found ∙ ap Some (sym whole), within_limit limit left new v takes)
read_told limit file left new (Err TooLong) chosen takes all =
    let past : length takes.bytes ≡ limit + 1 = takes.too_long.0 refl in
    let more = longer chosen.bytes takes.bytes new (rw chosen.opened at takes.taken) in
    (chosen.bytes, chosen.found, omega (arith, past, more))
read_told limit file left new (Err ReadFault) chosen takes all = tt
read_told limit file left new (Err OutOfMemory) chosen takes all = tt

read_untold : (limit : ℕ) (left new : Option (List ℕ)) (result : Result (Vec ℕ) ReadStop) (takes : TakesAll limit left new result) → ReadOf limit (Some takes.bytes) result
read_untold limit left new (Ok v) takes = (ap Some (sym takes.all), within_limit limit left new v takes)
read_untold limit left new (Err TooLong) takes = (takes.bytes, refl, omega (arith, takes.too_long.0 refl))
read_untold limit left new (Err ReadFault) takes = tt
read_untold limit left new (Err OutOfMemory) takes = tt

pub read_chosen : (limit : ℕ) (told : Option FileOf) (name : List ℕ) (left new : Option (List ℕ)) (result : Result (Vec ℕ) ReadStop)
    → IfSome told (λ file_of. ReadsFile (file_of name) left) → TakesAll limit left new result → IfOk result (λ v. IfSome left (λ bytes. v.items ≡ bytes))
    → (content : Option (List ℕ)) × TellsFile told name content × ReadOf limit content result
read_chosen limit None name left new result chosen takes all = (Some takes.bytes, tt, read_untold limit left new result takes)
read_chosen limit (Some files) name left new result chosen takes all = (files name, refl, read_told limit (files name) left new result chosen takes all)
