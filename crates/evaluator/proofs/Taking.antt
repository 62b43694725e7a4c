-- The first command of bytes, by its first byte, and what taking it gives.
use Rattle.std.proofs.Common.{◌≡◌, ℕ, ◌-◌, ◌<◌, ◌≤◌, List, [], ◌∷◌, length, get_or, take, drop, Some, Ok, Err, Option, Result, sym, refl, ap, ◌∙◌, arith}
use Rattle.std.proofs.lemmas.List.{take_rest}
use Rattle.std.proofs.lemmas.Grind.{common_steps}
use Rattle.arithmetic.specs.Meaning.{Meaning}
use Rattle.arithmetic.specs.Operators.{operator_byte, NoOperator}
use Rattle.arithmetic.specs.declared.operators.Operator.{Operator}
use Rattle.arithmetic.specs.declared.operators.Operator.TheVariants.{Add, Subtract, Multiply, Lesser, Greater, LessThan, Equal}
use Rattle.evaluator.specs.Commands.{Command, constant, variable, operator, inversion, signed_of, next_command}
use Rattle.evaluator.specs.Evaluating.{performed, taken}
use Rattle.evaluator.specs.declared.refusal.Refusal.{Refusal}
use Rattle.evaluator.specs.declared.refusal.Refusal.TheVariants.{BadExpression}

-- The bytes of a code from place i on, as the checker writes a part.
abbrev pub from : ℕ → List ℕ → List ℕ
from i bs = take (length bs - i) (drop i bs)

-- A constant is followed by four bytes.
pub constant_first : (bs : List ℕ) → get_or bs 0 0 ≡ 0x40 → 4 ≤ length (from 1 bs) →
    next_command bs ≡ Some (constant (signed_of (get_or (from 1 bs) 0 0) (get_or (from 1 bs) 1 0) (get_or (from 1 bs) 2 0) (get_or (from 1 bs) 3 0)), from 4 (from 1 bs))
constant_first bs e h = grind (arith, common_steps)

-- A variable is followed by its number.
pub variable_first : (bs : List ℕ) → get_or bs 0 0 ≡ 0x41 → 1 ≤ length (from 1 bs) →
    next_command bs ≡ Some (variable (get_or (from 1 bs) 0 0), from 1 (from 1 bs))
variable_first bs e h = grind (arith, common_steps)

-- The byte of `not` is that command.
pub inversion_first : (bs : List ℕ) → get_or bs 0 0 ≡ 0x49 → next_command bs ≡ Some (inversion, from 1 bs)
inversion_first bs e = grind (arith, common_steps)

-- A first byte that is an operator's is that operator's command.
pub operator_first : (bs : List ℕ) (o : Operator) → operator_byte o ≡ get_or bs 0 0 → next_command bs ≡ Some (operator o, from 1 bs)
operator_first [] o e = grind (arith, common_steps)
operator_first (b ∷ bs) o e = rw (← e) (at o ∙ ap (λ r. Some (operator o, r)) (sym (take_rest (b ∷ bs) 1))) where
  at : (o : Operator) → next_command (operator_byte o ∷ bs) ≡ Some (operator o, bs)
  at = elim [ Add ↦ refl | Subtract ↦ refl | Multiply ↦ refl | Lesser ↦ refl | Greater ↦ refl | LessThan ↦ refl | Equal ↦ refl ]

-- Each byte from 42 to 48 is an operator's.
pub operators_cover : (b : ℕ) → 0x42 ≤ b → b ≤ 0x48 → NoOperator b → ⊥
operators_cover b low high no_one =
    omega (arith, no_one Add, no_one Subtract, no_one Multiply, no_one Lesser, no_one Greater, no_one LessThan, no_one Equal)

module _ {V : Type 0} (M : Meaning V) (look : ℕ → Option V) (p : ℕ) where
  -- A command that leaves values.
  pub taken_ok : (o : Option (Command × List ℕ)) (c : Command) (rest : List ℕ) (st st' : List V) →
      o ≡ Some (c, rest) → Ok st' ≡ performed M look p c st → Ok (st', rest) ≡ taken M look p o st
  taken_ok o c rest st st' e h = grind (arith, common_steps)

  -- What no command's arm takes is refused.
  pub refused_first : (bs : List ℕ) (st : List V) → (get_or bs 0 0 ≡ 0x40 → 5 ≤ length bs → 16 ≤ length st) → (get_or bs 0 0 ≡ 0x41 → 2 ≤ length bs → 16 ≤ length st) →
      (0x42 ≤ get_or bs 0 0 → get_or bs 0 0 ≤ 0x48 → 1 ≤ length bs → length st < 2) → (get_or bs 0 0 ≡ 0x49 → 1 ≤ length bs → length st < 1) →
      ◌≡◌ {A = Result (List V × List ℕ) Refusal} (Err (BadExpression p)) (taken M look p (next_command bs) st)
  refused_first [] st h40 h41 h42 h49 = refl
  refused_first (b ∷ bs) st h40 h41 h42 h49 = grind (arith, common_steps)
