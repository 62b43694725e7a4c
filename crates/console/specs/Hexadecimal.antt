-- Hexadecimal words: pairs of digits, the high digit of a byte first.
use Rattle.std.specs.Prelude.{ℕ, ◌+◌, ◌-◌, ◌*◌, if◌then◌else◌, ◌&&◌, List, [], ◌∷◌, Some, None, Ok, codes, Option, Result, nat_le}
use Rattle.std.specs.Option.{ok_or}
use Rattle.std.specs.Str.{bytes_eq}
use Rattle.console.specs.declared.problem.Problem.{Problem}
use Rattle.console.specs.declared.problem.Problem.TheVariants.{NotHexadecimal}

-- The characters 0 to 9, a to f and A to F stand for 0 to 15; no other is a digit.
abbrev pub digit_value : ℕ → Option ℕ
digit_value c =
    if nat_le 48 c && nat_le c 57 then Some (c - 48)
    else (if nat_le 97 c && nat_le c 102 then Some (c - 87) else (if nat_le 65 c && nat_le c 70 then Some (c - 55) else None))

-- Two digits stand for sixteen times the first and the second.
abbrev pub pair_value : Option ℕ → Option ℕ → Option ℕ
pair_value None low = None
pair_value (Some h) None = None
pair_value (Some h) (Some l) = Some (h * 16 + l)

-- A byte before others, if all could be read.
abbrev pub byte_before : Option ℕ → Option (List ℕ) → Option (List ℕ)
byte_before None bs = None
byte_before (Some b) None = None
byte_before (Some b) (Some bs) = Some (b ∷ bs)

-- The bytes of pairs of digits; an odd character, or one that is no digit, spoils the word.
abbrev pub bytes_in : List ℕ → Option (List ℕ)
bytes_in [] = Some []
bytes_in (c ∷ []) = None
bytes_in (h ∷ l ∷ cs) = byte_before (pair_value (digit_value h) (digit_value l)) (bytes_in cs)

-- The bytes of the word at a place in its line.
abbrev pub bytes_at : ℕ → List ℕ → Result (List ℕ) Problem
bytes_at place w = ok_or (bytes_in w) (NotHexadecimal place)

-- The bytes of an expression; the word `-` stands for no bytes.
abbrev pub expression_at : ℕ → List ℕ → Result (List ℕ) Problem
expression_at place w = if bytes_eq w (codes "-") then Ok [] else bytes_at place w
