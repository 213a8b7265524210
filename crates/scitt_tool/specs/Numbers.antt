-- Numbers as words: decimal digits without a sign or a leading zero, at most 19 of them.
use Rattle.std.specs.Prelude.{ℕ, ◌&&◌, ◌||◌, ◌==◌, Bool, not, List, length, Option, Some, None, nat_le, slice_index, if◌then◌else◌}
use Rattle.std.specs.List.{list_all}
use Rattle.std.specs.Char.{is_ascii_digit}
use Rattle.std.specs.Str.Parse.{digits_value}

abbrev pub is_number : List ℕ → Bool
is_number text =
    nat_le 1 (length text) && (nat_le (length text) 19 && (list_all is_ascii_digit text && (length text == 1 || not (slice_index text 0 == 48))))

-- such a number that isn't above the most
abbrev pub number_upto : ℕ → List ℕ → Option ℕ
number_upto most text = if is_number text && nat_le (digits_value 10 text) most then Some (digits_value 10 text) else None
