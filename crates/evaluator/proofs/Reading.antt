-- Reading expressions inverts writing them.
use Rattle.std.proofs.Common.{◌≡◌, ℕ, zero, suc, ◌+◌, ◌-◌, ◌*◌, ◌/◌, ◌%◌, ◌<◌, ◌≤◌, eqb, List, [], ◌∷◌, ◌++◌, length, ℤ, Some, None, Option, sym, refl, ap, ◌∙◌, subst, arith, length-append, w32, SFits, to_z, of_z}
use mir.ValLaws.{to_z-Fits}
use Rattle.std.specs.List.{AllByRecursion as All}
use Rattle.std.proofs.lemmas.Int.{to_z-of_z, of_z-to_z}
use Rattle.std.proofs.lemmas.Bool.{cond_both, eqb-true}
use Rattle.std.proofs.lemmas.Grind.{common_steps}
use Rattle.arithmetic.specs.declared.operators.Operator.{Operator}
use Rattle.arithmetic.specs.Operators.{operator_byte, not_byte}
use Rattle.evaluator.specs.Commands.{Command, constant, variable, operator, inversion, command_byte, four_bytes, signed_of, operands, written, Writable, operators, operator_among, single, constant_in, variable_in, with_rest, next_command, Placed, listed, listing, commands_of, one_more, all_read}
use Rattle.evaluator.specs.Promises.{ReadingInvertsWriting}

-- Each number is below 256.
abbrev pub Bytes : List ℕ → Type 0
Bytes bs = All (λ b. b < 256) bs

---------------------------------------------------------------------- four bytes

-- The number that four bytes hold, the low byte first.
abbrev number_of : (a b c d : ℕ) → ℕ
number_of a b c d = a + b * 256 + c * 65536 + d * 16777216

-- A number's four bytes hold that number.
number_back : (n : ℕ) → number_of (n % 256) (n / 256 % 256) (n / 65536 % 256) (n / 16777216) ≡ n
number_back n = omega arith

-- The four bytes of a signed number hold that number.
pub signed_back : (z : ℤ) → SFits w32 z → signed_of (of_z w32 z % 256) (of_z w32 z / 256 % 256) (of_z w32 z / 65536 % 256) (of_z w32 z / 16777216) ≡ z
signed_back z f = ap (to_z w32) (number_back (of_z w32 z)) ∙ to_z-of_z w32 z f

module _ (a b c d : ℕ) (p : a < 256) (q : b < 256) (r : c < 256) (s : d < 256) where
  -- What four bytes hold has 32 bits.
  number_small : number_of a b c d < 4294967296
  number_small = omega arith

  -- What four bytes hold as a signed number fits 32 bits.
  pub signed_fits : SFits w32 (signed_of a b c d)
  signed_fits = to_z-Fits w32 (number_of a b c d) (record { fits = number_small })

  -- Four bytes are those of the number that they hold.
  bytes_back : four_bytes (number_of a b c d) ≡ a ∷ b ∷ c ∷ d ∷ []
  bytes_back =
      let n = number_of a b c d in
      let each : (n % 256 ≡ a) × (n / 256 % 256 ≡ b) × (n / 65536 % 256 ≡ c) × (n / 16777216 ≡ d) = omega arith in
      cc

  -- Four bytes are those of the signed number that they hold.
  pub signed_bytes_back : four_bytes (of_z w32 (signed_of a b c d)) ≡ a ∷ b ∷ c ∷ d ∷ []
  signed_bytes_back = ap four_bytes (of_z-to_z w32 (number_of a b c d) number_small) ∙ bytes_back

---------------------------------------------------------------------- what is written is read

-- A written command is read as that command, whatever follows it.
next_back : (c : Command) (bs : List ℕ) → Writable c → next_command (command_byte c ∷ operands c ++ bs) ≡ Some (c, bs)
next_back (constant n) bs w = ap (λ z. Some (constant z, bs)) (signed_back n w)
next_back (variable v) bs w = refl
next_back (operator o) bs w = grind (arith, common_steps)
next_back inversion bs w = refl

-- Written commands are read as those commands.
commands_back : (cs : List Command) (fuel end : ℕ) → length (written cs) ≤ fuel → All Writable cs → all_read (listing fuel end (written cs)) ≡ Some cs
commands_back [] fuel end h w = refl
commands_back (c ∷ cs) zero end h w = absurd (omega arith)
commands_back (c ∷ cs) (suc n) end h w =
    let place = end - length (written (c ∷ cs)) in
    let long = length-append (operands c) (written cs) in
    ap (λ o. all_read (listed (listing n end) place o)) (next_back c (written cs) w.0)
    ∙ ap (one_more (Some c)) (commands_back cs n end (omega arith) w.1)

---------------------------------------------------------------------- what is read was written

-- If a command is found, it can be written, and it and what follows it are written as these bytes.
abbrev Found : List ℕ → Option (Command × List ℕ) → Type 0
Found bs None = Unit {0}
Found bs (Some c) = Writable c.0 × (command_byte c.0 ∷ operands c.0 ++ c.1 ≡ bs) × Bytes c.1

-- A constant that is found was written.
constant_found : (bs : List ℕ) → Bytes bs → Found (0x40 ∷ bs) (constant_in bs)
constant_found [] h = tt
constant_found (a ∷ []) h = tt
constant_found (a ∷ b ∷ []) h = tt
constant_found (a ∷ b ∷ c ∷ []) h = tt
constant_found (a ∷ b ∷ c ∷ d ∷ bs) h =
    let (p, (q, (r, (s, rest)))) = h in
    (signed_fits a b c d p q r s, ap (λ l. 0x40 ∷ l ++ bs) (signed_bytes_back a b c d p q r s), rest)

-- A variable that is found was written.
variable_found : (bs : List ℕ) → Bytes bs → Found (0x41 ∷ bs) (variable_in bs)
variable_found bs h = grind (arith, common_steps)

module _ (b : ℕ) (bs : List ℕ) (h : Bytes bs) where
  -- An operator that is found among others was written.
  operator_found : (os : List Operator) → Found (b ∷ bs) (with_rest (operator_among os b) bs)
  operator_found [] = tt
  operator_found (o ∷ os) =
      cond_both (eqb b (operator_byte o)) _ _ (λ r. Found (b ∷ bs) (with_rest r bs))
      (λ e. (tt, ap (λ n. n ∷ bs) (sym (eqb-true _ _ e)), h))
      (λ e. operator_found os)

  -- A command of one byte that is found was written.
  single_found : Found (b ∷ bs) (with_rest (single b) bs)
  single_found =
      cond_both (eqb b not_byte) _ _ (λ r. Found (b ∷ bs) (with_rest r bs))
      (λ e. (tt, ap (λ n. n ∷ bs) (sym (eqb-true _ _ e)), h))
      (λ e. operator_found operators)

  -- A command that is found was written.
  next_found : Found (b ∷ bs) (next_command (b ∷ bs))
  next_found =
      cond_both (eqb b 0x40) _ _ (Found (b ∷ bs))
      (λ e. subst (λ n. Found (n ∷ bs) (constant_in bs)) (sym (eqb-true _ _ e)) (constant_found bs h))
      (λ _. cond_both (eqb b 0x41) _ _ (Found (b ∷ bs))
      (λ e. subst (λ n. Found (n ∷ bs) (variable_in bs)) (sym (eqb-true _ _ e)) (variable_found bs h))
      (λ _. single_found))

-- If commands were read, they can be written, and are written as these bytes.
abbrev Read : List ℕ → Option (List Command) → Type 0
Read bs None = Unit {0}
Read bs (Some cs) = All Writable cs × (written cs ≡ bs)

-- If the rest was read right, so is one more command before it.
one_more_read : (c : Command) (rest bs : List ℕ) (o : Option (List Command)) → Writable c → command_byte c ∷ operands c ++ rest ≡ bs → Read rest o → Read bs (one_more (Some c) o)
one_more_read c rest bs o w e r = grind (arith, common_steps)

-- If all that is shorter is read right, so is what is listed from a found command on.
listed_read : (bs : List ℕ) (more : List ℕ → List Placed) (place : ℕ) (o : Option (Command × List ℕ)) → Found bs o → ((rest : List ℕ) → Bytes rest → length rest < length bs → Read rest (all_read (more rest))) → Read bs (all_read (listed more place o))
listed_read bs more place None f shorter = tt
listed_read bs more place (Some c) f shorter =
    let long = length-append (operands c.0) c.1 in
    let same = ap length f.1 in
    one_more_read c.0 c.1 bs _ f.0 f.1 (shorter c.1 f.2 (omega arith))

-- Commands that are read were written.
listing_read : (fuel end : ℕ) (bs : List ℕ) → Bytes bs → length bs ≤ fuel → Read bs (all_read (listing fuel end bs))
listing_read fuel end [] h k = (tt, refl)
listing_read zero end (b ∷ bs) h k = absurd (omega arith)
listing_read (suc n) end (b ∷ bs) h k =
    listed_read (b ∷ bs) (listing n end) _ (next_command (b ∷ bs)) (next_found b bs h.1) (λ rest g s. listing_read n end rest g (omega arith))

-- Reading inverts writing.
pub reading_inverts_writing : ReadingInvertsWriting
reading_inverts_writing bs cs h = (
  λ e. subst (Read bs) e (listing_read (length bs) (length bs) bs h (omega arith)),
  λ w. subst (λ l. all_read (commands_of l) ≡ Some cs) w.1 (commands_back cs _ _ (omega arith) w.0),
)
