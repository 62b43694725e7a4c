-- The parts of a statement, as the code holds them.
use Rattle.std.specs.Prelude.{ℕ, List}
use Rattle.std.specs.Borrow.{Bor}
use Rattle.rules.specs.Reading.{Parts as Parted}
use Rattle.reader.specs.Readers.{left_of}
use Rattle.reader.specs.declared.parts.Parts.{Parts}

-- The parts that the code points to, with the bytes left after them.
abbrev pub pieces : List ℕ → Parts → Parted
pieces l p = record { byte = p.byte; code = p.code.now; first = left_of p.first; second = left_of p.second; after = l }

-- A number and what follows it.
abbrev pub number_rest : ℕ × Bor (List ℕ) → ℕ × List ℕ
number_rest p = (p.0, p.1.now)
