-- Decimal words: an optional sign and digits, within signed 32 bits.
use Rattle.std.specs.Prelude.{ℕ, ◌+◌, ◌^◌, Bool, if◌then◌else◌, ◌&&◌, List, [], ◌∷◌, length, drop, ℤ, pos, neg_ℤ, Some, None, Ok, Err, Option, Result, nat_le, nat_lt}
use Rattle.std.specs.Option.{ok_or}
use Rattle.std.specs.Str.Parse.{digits_value, starts_with_minus, without_leading_plus}
use Rattle.std.specs.Str.{all_ascii_digits}
use Rattle.console.specs.declared.problem.Problem.{Problem}
use Rattle.console.specs.declared.problem.Problem.TheVariants.{NotANumber}

-- One digit or more, and nothing else.
abbrev pub numeral : List ℕ → Bool
numeral ds = all_ascii_digits ds && nat_lt 0 (length ds)

-- After a minus a numeral of at most 2^31; else, after an optional plus, one below 2^31.
abbrev pub decimal_in : List ℕ → Option ℤ
decimal_in w =
    if starts_with_minus w
    then (if numeral (drop 1 w) && nat_le (digits_value 10 (drop 1 w)) (2 ^ 31) then Some (neg_ℤ (pos (digits_value 10 (drop 1 w)))) else None)
    else (if numeral (without_leading_plus w) && nat_lt (digits_value 10 (without_leading_plus w)) (2 ^ 31) then Some (pos (digits_value 10 (without_leading_plus w))) else None)

-- The number of the word at a place in its line.
abbrev pub number_at : ℕ → List ℕ → Result ℤ Problem
number_at place w = ok_or (decimal_in w) (NotANumber place)

-- A number before others; the first problem counts.
abbrev pub number_before : Result ℤ Problem → Result (List ℤ) Problem → Result (List ℤ) Problem
number_before (Err e) ns = Err e
number_before (Ok n) (Err e) = Err e
number_before (Ok n) (Ok ns) = Ok (n ∷ ns)

-- The numbers of words, the first at that place in the line.
abbrev pub numbers_from : ℕ → List (List ℕ) → Result (List ℤ) Problem
numbers_from place [] = Ok []
numbers_from place (w ∷ ws) = number_before (number_at place w) (numbers_from (place + 1) ws)
