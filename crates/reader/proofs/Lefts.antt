-- What is left after a part was taken.
use Rattle.std.proofs.Common.{◌≡◌, ℕ, ◌+◌, ◌-◌, ◌≤◌, Bool, List, length, take, drop, Some, Ok, sym, ap, ◌∙◌, arith}
use Rattle.std.proofs.lemmas.List.{drop-take, drop-drop}
use Rattle.std.proofs.lemmas.Grind.{common_steps}
use Rattle.rules.specs.Forms.{has_byte, has_expression, has_block, has_second_block}
use Rattle.rules.specs.Reading.{byte_in, part_in, code_in, length_in, parts_in}
use Rattle.rules.specs.declared.program.Form.{Form}
use Rattle.reader.specs.Readers.{bytes_between, left_of, PartTaken, EndsBefore, InTurn}
use Rattle.reader.specs.declared.reader.Reader.{Reader}

module _ (bs : List ℕ) (p e n : ℕ) (ordered : p ≤ e) (inside : e ≤ length bs) (fits : n ≤ e - p) where
  -- What follows the first n bytes left.
  rest_of_left : bytes_between bs (p + n) e ≡ drop n (bytes_between bs p e)
  rest_of_left =
      let is : e - (p + n) ≡ e - p - n = omega arith in
      let all : n + (e - p - n) ≡ e - p = omega arith in
      ap (λ k. take k (drop (p + n) bs)) is
      ∙ ap (take (e - p - n)) (sym (drop-drop n p bs))
      ∙ sym (drop-take n (e - p - n) (drop p bs))
      ∙ ap (λ k. drop n (take k (drop p bs))) all

  -- The first n bytes end n places on, and the others are left.
  pub part_taken : (n ≤ length (bytes_between bs p e)) × (bytes_between bs p (p + n) ≡ take n (bytes_between bs p e)) × (bytes_between bs (p + n) e ≡ drop n (bytes_between bs p e))
  part_taken = (grind (arith, common_steps), grind (arith, common_steps), rest_of_left)

module _ (p : ℕ) where
  -- The bytes of a part are there.
  pub part_there : (n : ℕ) (bs after : List ℕ) (part : Reader) → PartTaken n bs after (Some part) → part_in p n bs ≡ Ok (left_of part, after)
  part_there n bs after part (few, front, rest) = grind (arith, common_steps)

  -- An expression's length and as many bytes.
  code_there : (w : Bool) (n : ℕ) (bs mid : List ℕ) (q : List ℕ × List ℕ) → byte_in p w bs ≡ Ok (n, mid) → part_in p n mid ≡ Ok q → code_in p w bs ≡ Ok q
  code_there w n bs mid q e h = grind (arith, common_steps)

  -- All parts, one after the other.
  pub all_there : (k : Form) (bs : List ℕ) (o n : ℕ × List ℕ) (c X Y : List ℕ × List ℕ) (a b : ℕ × List ℕ) → byte_in p (has_byte k) bs ≡ Ok o → byte_in p (has_expression k) o.1 ≡ Ok n → part_in p n.0 n.1 ≡ Ok c → length_in p (has_block k) c.1 ≡ Ok a → length_in p (has_second_block k) a.1 ≡ Ok b
      → part_in p a.0 b.1 ≡ Ok X → part_in p b.0 X.1 ≡ Ok Y → parts_in p k bs ≡ Ok (record { byte = o.0; code = c.0; first = X.0; second = Y.0; after = Y.1 })
  all_there k bs o n c X Y a b byte long code first_length second_length first second = grind (arith, common_steps)

-- A part that ends before what is left, and then one of the first bytes left.
pub in_turn : (e n : ℕ) (l after : List ℕ) (first second : Reader) → EndsBefore e l first → PartTaken n l after (Some second) → EndsBefore e after second → InTurn e after first second
in_turn e n l after first second ends taken last = record { second_end = last; first_end = grind (arith, common_steps) }
