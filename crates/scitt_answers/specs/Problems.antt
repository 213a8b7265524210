-- What a problem says, and the bytes of its body (RFC 9290, 2 and 3.3: the title has the key -1, and the service's own numbers the key 1).
use Rattle.std.specs.Prelude.{ℕ, List, [], ◌∷◌, ◌++◌, length, codes}
use Rattle.cbor_core.specs.declared.tree.Item.{Item}
use Rattle.cbor_core.specs.Head.{head}
use Rattle.cbor_core.specs.Encoding.{size_of}
use Rattle.cbor_core.specs.Items.{uint_item, nint_item, text_item, array_item, map_item}
use Rattle.cbor_core.specs.Exact.{strict_text}
use Rattle.http_wire.specs.declared.answer.Allow.{Allow}
use Rattle.http_wire.specs.declared.answer.Allow.TheVariants as allow
use Rattle.http_wire.specs.declared.request.HeadFault.{HeadFault}
use Rattle.http_wire.specs.declared.request.HeadFault.TheVariants as fault
use Rattle.scitt_answers.specs.declared.problem.Problem.{Problem}
use Rattle.scitt_answers.specs.declared.problem.Problem.TheVariants as problem

-- a row of the table of problems
pub record Kind : Type 0 where
  pub code : ℕ
  pub title : List ℕ
  pub status : ℕ

abbrev pub kind : ℕ → List ℕ → ℕ → Kind
kind code title status = record { code = code; title = title; status = status }

abbrev pub kind_of : Problem → Kind
kind_of problem.BadHead = kind 1 (codes "BadHead") 400
kind_of (problem.BadStatement number place) = kind 2 (codes "BadStatement") 400
kind_of (problem.Denied rule moment) = kind 3 (codes "Denied") 403
kind_of problem.NoRoute = kind 4 (codes "NoRoute") 404
kind_of (problem.NoEntry index) = kind 5 (codes "NoEntry") 404
kind_of (problem.NoSuchSize old) = kind 6 (codes "NoSuchSize") 404
kind_of (problem.BadMethod allowed) = kind 7 (codes "BadMethod") 405
kind_of problem.NoLength = kind 8 (codes "NoLength") 411
kind_of problem.TooLarge = kind 9 (codes "TooLarge") 413
kind_of problem.BadType = kind 10 (codes "BadType") 415
kind_of problem.HeadTooLong = kind 11 (codes "HeadTooLong") 431
kind_of (problem.LogFull entries bytes) = kind 12 (codes "LogFull") 503
kind_of (problem.KeyExhausted next capacity) = kind 13 (codes "KeyExhausted") 503
kind_of problem.DiskFault = kind 14 (codes "DiskFault") 503
kind_of problem.ClockFault = kind 15 (codes "ClockFault") 503
kind_of problem.OutOfMemory = kind 16 (codes "OutOfMemory") 503
kind_of (problem.DiskChanged number) = kind 19 (codes "DiskChanged") 503

-- the numbers that it names: the moment that was judged, and two more; those that it doesn't name are 0
pub record Numbers : Type 0 where
  pub moment : ℕ
  pub a : ℕ
  pub b : ℕ

abbrev pub numbers : ℕ → ℕ → ℕ → Numbers
numbers moment a b = record { moment = moment; a = a; b = b }

abbrev pub numbers_of : Problem → Numbers
numbers_of (problem.BadStatement number place) = numbers 0 number place
numbers_of (problem.Denied rule moment) = numbers moment rule 0
numbers_of (problem.NoEntry index) = numbers 0 index 0
numbers_of (problem.NoSuchSize old) = numbers 0 old 0
numbers_of (problem.LogFull entries bytes) = numbers 0 entries bytes
numbers_of (problem.KeyExhausted next capacity) = numbers 0 next capacity
numbers_of (problem.DiskChanged number) = numbers 0 number 0
numbers_of _ = numbers 0 0 0

-- the method that is allowed in the place of another
abbrev pub allow_of : Problem → Allow
allow_of (problem.BadMethod allowed) = allowed
allow_of _ = allow.Absent

abbrev pub fields_item : Kind → ℕ → Numbers → Item
fields_item k size n = array_item (uint_item k.code ∷ uint_item size ∷ uint_item n.moment ∷ uint_item n.a ∷ uint_item n.b ∷ [])

-- the problem on a log of this size
abbrev pub problem_item : Problem → ℕ → Item
problem_item p size =
    map_item ((uint_item 1, fields_item (kind_of p) size (numbers_of p)) ∷ (nint_item 0, text_item (kind_of p).title) ∷ [])

-- a number's strict bytes (RFC 8949, 3 and 4.2.1)
abbrev pub number_text : ℕ → List ℕ
number_text n = head 0 (size_of n) n

-- what stands in a body before its title's key: the head of a map of two, the key 1, and an array of five numbers
abbrev pub fields_text : ℕ → ℕ → ℕ → ℕ → ℕ → List ℕ
fields_text code size moment a b =
    (162 ∷ 1 ∷ 133 ∷ []) ++ (number_text code ++ (number_text size ++ (number_text moment ++ (number_text a ++ number_text b))))

-- the key -1, and a title
abbrev pub title_text : List ℕ → List ℕ
title_text title = (32 ∷ []) ++ (head 3 (size_of (length title)) (length title) ++ title)

unfoldable pub problem_bytes : Problem → ℕ → List ℕ
problem_bytes p size = strict_text (problem_item p size)

-- the problem of a head that is refused
abbrev pub head_problem : HeadFault → Problem
head_problem fault.BadHead = problem.BadHead
head_problem fault.NoLength = problem.NoLength
head_problem fault.TooLarge = problem.TooLarge
head_problem fault.HeadTooLong = problem.HeadTooLong
