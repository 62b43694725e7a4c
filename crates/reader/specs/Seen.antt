-- The head of a statement, as the code holds it.
use Rattle.std.specs.Prelude.{◌≡◌, ℕ, ◌+◌, ◌-◌, ◌<◌, ◌≤◌, true, false, List, [], length, take, drop}
use Rattle.rules.specs.Forms.{has_expression, has_block, has_second_block, par_count}
use Rattle.rules.specs.Reading.{place_of_code, Head as Headed}
use Rattle.rules.specs.declared.program.Form.{Form}
use Rattle.reader.specs.Readers.{left_of}
use Rattle.reader.specs.declared.counts.Counts.{Counts}
use Rattle.reader.specs.declared.heads.Head.{Head}

-- What a head shows: all but the commands of its expression.
pub record Seen : Type 0 where
  pub form : Form
  pub byte : ℕ
  pub code : List ℕ
  pub code_from : ℕ
  pub first : List ℕ
  pub second : List ℕ
  pub after : List ℕ

-- The head that the code points to, with the bytes left after it.
abbrev pub seen : List ℕ → Head → Seen
seen l h = record { form = h.form; byte = h.parts.byte; code = h.parts.code.now; code_from = h.code_place; first = left_of h.parts.first; second = left_of h.parts.second; after = l }

-- The head of the rules, of a statement at place p.
abbrev pub seen_head : (p : ℕ) → Headed → Seen
seen_head p h = record { form = h.form; byte = h.parts.byte; code = h.parts.code; code_from = place_of_code h.form p; first = h.parts.first; second = h.parts.second; after = h.parts.after }

-- What an accepted head says of the limits, and of its parts in the bytes `rest` that follow its command, with the bytes `left` after it.
pub record Fine (rest left : List ℕ) (a : Counts) (h : Head) : Type 0 where
  pub short : length (left_of h.parts.first) + length (left_of h.parts.second) + length left ≤ length rest
  pub few : a.statements < 512
  pub few_pars : a.pars + par_count h.form ≤ 15
  pub no_first : has_block h.form ≡ false → left_of h.parts.first ≡ []
  pub no_second : has_second_block h.form ≡ false → left_of h.parts.second ≡ []
  pub code_part : has_expression h.form ≡ true → h.parts.code.now ≡ take (length h.parts.code.now) (drop (place_of_code h.form 0 - 1) rest)
