-- What a reader has left.
use Rattle.std.specs.Prelude.{◌≡◌, ℕ, suc, ◌+◌, ◌-◌, ◌*◌, ◌<◌, ◌≤◌, List, [], ◌∷◌, length, take, drop, Some, None, Ok, Option, Result, nat_le}
use Rattle.rules.specs.Outcomes.{◌>>=◌, ensure}
use Rattle.rules.specs.declared.faults.LoadFault.{LoadFault}
use Rattle.rules.specs.declared.faults.LoadFault.TheVariants.{BadLength}
use Rattle.reader.specs.declared.reader.Reader.{Reader}

-- The bytes from one place of a program to another.
abbrev pub bytes_between : List ℕ → (place end : ℕ) → List ℕ
bytes_between bs p e = take (e - p) (drop p bs)

-- The bytes from the reader's place to the end of its block.
abbrev pub left_of : Reader → List ℕ
left_of r = bytes_between r.program.now r.place r.end

-- The place where the reader's block ends.
abbrev pub end_of : Reader → ℕ
end_of r = r.end

-- The place of the statement whose command was just taken.
abbrev pub statement_place : Reader → ℕ
statement_place r = end_of r - suc (length (left_of r))

-- The end of a reader's block, and the bytes left before it.
abbrev pub end_and_left : Reader → ℕ × List ℕ
end_and_left r = (end_of r, left_of r)

-- The bytes of a program from place k on, and where they end.
abbrev pub from_place : (k : ℕ) → List ℕ → Result (ℕ × List ℕ) LoadFault
from_place k bs = do
  _ ← ensure (nat_le k (length bs)) BadLength
  Ok (length bs, drop k bs)

-- The first byte of what is left is taken, and the rest is left; at the end nothing is taken.
abbrev pub ByteTaken : (before after : List ℕ) → Option ℕ → Type 0
ByteTaken before after None = (before ≡ []) × (after ≡ [])
ByteTaken before after (Some b) = before ≡ b ∷ after

-- The next n bytes are a part, and those after them are left; where there are fewer, nothing is taken.
abbrev pub PartTaken : (n : ℕ) (before after : List ℕ) → Option Reader → Type 0
PartTaken n before after None = (length before < n) × (after ≡ before)
PartTaken n before after (Some part) = (n ≤ length before) × (left_of part ≡ take n before) × (after ≡ drop n before)

-- A number of two bytes, the low one first, and those after them are left; where there are fewer, nothing is taken.
abbrev pub LengthTaken : (before after : List ℕ) → Option ℕ → Type 0
LengthTaken before after None = (length before < 2) × (after ≡ before)
LengthTaken before after (Some n) = (a : ℕ) × (b : ℕ) × (before ≡ a ∷ b ∷ after) × (n ≡ a + b * 256)

-- A part of a block ends where the bytes left after it begin, of which there are as many as `left`, before the block's end.
abbrev pub EndsBefore : (end : ℕ) (left : List ℕ) → (part : Reader) → Type 0
EndsBefore e l r = end_of r ≡ e - length l

-- Two parts in a row, and then what is left before the end: each part ends where the next begins.
pub record InTurn (end : ℕ) (left : List ℕ) (first second : Reader) : Type 0 where
  pub second_end : EndsBefore end left second
  pub first_end : EndsBefore (end_of second) (left_of second) first
