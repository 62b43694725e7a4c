-- How long the parts of a statement are, and where its expression stands.
use Rattle.std.proofs.Common.{◌≡◌, ℕ, ◌+◌, ◌-◌, ◌<◌, ◌≤◌, Bool, true, false, cond, List, [], length, take, drop, Ok, sym, ap, ◌∙◌, subst, arith}
use Rattle.std.proofs.lemmas.Grind.{common_steps}
use Rattle.rules.specs.Forms.{has_byte, has_expression, has_block, has_second_block, par_count}
use Rattle.rules.specs.Reading.{Parts, byte_in, part_in, code_in, length_in, parts_in, place_of_code, within_limits, Counts as Counted}
use Rattle.rules.specs.declared.program.Form.{Form}
use Rattle.reader.specs.declared.counts.Counts.{Counts}
use Rattle.reader.specs.declared.heads.Head.{Head}
use Rattle.reader.specs.Counting.{counted}
use Rattle.reader.specs.Readers.{left_of}
use Rattle.reader.specs.Seen.{Fine}
use Rattle.rules.proofs.Results.{ok_then, same_ok}

module _ (p : ℕ) where
  -- A part and what follows it make up the bytes.
  record Parted (n : ℕ) (bs : List ℕ) (q : List ℕ × List ℕ) : Type 0 where
    pub all : length q.0 + length q.1 ≡ length bs
    pub long : length q.0 ≡ n
    pub front : q.0 ≡ take n bs

  part_long : (n : ℕ) (bs : List ℕ) (q : List ℕ × List ℕ) → part_in p n bs ≡ Ok q → Parted n bs q
  part_long n bs q e = record { all = grind (arith, common_steps); long = grind (arith, common_steps); front = grind (arith, common_steps) }

  byte_long : (w : Bool) (bs : List ℕ) (q : ℕ × List ℕ) → byte_in p w bs ≡ Ok q → (length q.1 ≤ length bs) × (q.1 ≡ drop (cond w 1 0) bs)
  byte_long w bs q e = (grind (arith, common_steps), grind (arith, common_steps))

  code_long : (w : Bool) (bs : List ℕ) (q : List ℕ × List ℕ) → code_in p w bs ≡ Ok q → (length q.0 + length q.1 ≤ length bs) × (w ≡ true → q.0 ≡ take (length q.0) (drop 1 bs))
  code_long w bs q e = (grind (arith, common_steps), λ h. grind (arith, common_steps))

  length_long : (w : Bool) (bs : List ℕ) (q : ℕ × List ℕ) → length_in p w bs ≡ Ok q → (length q.1 ≤ length bs) × (w ≡ false → q.0 ≡ 0)
  length_long w bs q e = (grind (arith, common_steps), λ h. grind (arith, common_steps))

  none : (xs : List ℕ) → length xs ≡ 0 → xs ≡ []
  none xs h = grind (arith, common_steps)

  drop_two : (w : Bool) (bs : List ℕ) → drop 1 (drop (cond w 1 0) bs) ≡ drop (0 + 2 + cond w 1 0 - 1) bs
  drop_two w bs = grind (arith, common_steps)

  -- What the parts of a statement say of their lengths.
  record Sized (k : Form) (bs : List ℕ) (o : Parts) : Type 0 where
    pub all : length o.code + length o.first + length o.second + length o.after ≤ length bs
    pub no_first : has_block k ≡ false → o.first ≡ []
    pub no_second : has_second_block k ≡ false → o.second ≡ []
    pub code_part : has_expression k ≡ true → o.code ≡ take (length o.code) (drop (place_of_code k 0 - 1) bs)

  sized : (k : Form) (bs : List ℕ) (o : Parts) → Ok o ≡ parts_in p k bs → Sized k bs o
  sized k bs o e =
      let b = ok_then (byte_in p (has_byte k) bs) _ o (sym e) in
      let b' = byte_long (has_byte k) bs b.0 b.1 in
      let c = ok_then (code_in p (has_expression k) b.0.1) _ o b.2 in
      let c' = code_long (has_expression k) b.0.1 c.0 c.1 in
      let m = ok_then (length_in p (has_block k) c.0.1) _ o c.2 in
      let m' = length_long (has_block k) c.0.1 m.0 m.1 in
      let n = ok_then (length_in p (has_second_block k) m.0.1) _ o m.2 in
      let n' = length_long (has_second_block k) m.0.1 n.0 n.1 in
      let X = ok_then (part_in p m.0.0 n.0.1) _ o n.2 in
      let X' = part_long m.0.0 n.0.1 X.0 X.1 in
      let Y = ok_then (part_in p n.0.0 X.0.1) _ o X.2 in
      let Y' = part_long n.0.0 X.0.1 Y.0 Y.1 in
      subst (Sized k bs) (same_ok Y.2) (record {
        all = omega arith;
        no_first = λ z. none X.0.0 (X'.long ∙ m'.1 z);
        no_second = λ z. none Y.0.0 (Y'.long ∙ n'.1 z);
        code_part = λ z. c'.1 z ∙ ap (take (length c.0.0)) (ap (drop 1) b'.1 ∙ drop_two (has_byte k) bs);
      })

-- What the limits say when they hold.
limits_from : (n : ℕ) (k : Form) (a : Counted) → within_limits n k a ≡ true → (a.statements < 512) × (a.pars + par_count k ≤ 15)
limits_from n k a e = (grind (arith, common_steps), grind (arith, common_steps))

-- An accepted head is within the limits, and its parts are parts of the bytes.
pub fine_head : (bs left : List ℕ) (n p : ℕ) (a : Counts) (h : Head) → true ≡ within_limits n h.form (counted a) → Ok (record { byte = h.parts.byte; code = h.parts.code.now; first = left_of h.parts.first; second = left_of h.parts.second; after = left }) ≡ parts_in p h.form bs → Fine bs left a h
fine_head bs left n p a h ok e =
    let z = sized p h.form bs _ e in
    let m = limits_from n h.form (counted a) (sym ok) in
    let all = z.all in
    record {
      short = omega arith;
      few = m.0;
      few_pars = m.1;
      no_first = z.no_first;
      no_second = z.no_second;
      code_part = z.code_part;
    }
