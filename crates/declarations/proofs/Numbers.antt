-- What the numbers in a declaration stand for.
use Rattle.std.proofs.Common.{◌≡◌, ℕ, List, Option, Some, None, Ok, Err, Result, MatchResult, refl, sym}
use Rattle.std.proofs.lemmas.Bool.{ne_eqb}
use Rattle.arithmetic.specs.Operators.{combining_number, CombiningOf}
use Rattle.arithmetic.specs.declared.operators.Combining.{Combining}
use Rattle.arithmetic.specs.declared.operators.Combining.TheVariants.{Sum, Least, Greatest, Left}
use Rattle.arithmetic.specs.declared.operators.UnknownNumber.{UnknownNumber}
use Rattle.rules.specs.Numbers.{named}
use Rattle.rules.specs.Outcomes.{from_some, numbered}
use Rattle.rules.specs.Reading.{combinings}
use Rattle.rules.specs.declared.faults.LoadFault.{LoadFault}
use Rattle.rules.proofs.Numbers.{operator_found}
use Rattle.rules.proofs.Results.{not_both}

-- The operator of a number is the first of the list that has it.
pub combining_named : (n : ℕ) (r : Result Combining UnknownNumber) → CombiningOf n r → r ≡ named combining_number combinings n
combining_named n (Ok o) h = rw (sym h, operator_found o) refl
combining_named n (Err u) h =
    let no = λ (o : Combining). ne_eqb (combining_number o) n (h.1 o) in
    rw (no Sum, no Least, no Greatest, no Left, sym h.0) refl

module _ {A : Type 0} where
  -- What was converted to x is there, and it is x.
  pub known : (o : Option A) (u : UnknownNumber) (x : A) (r : Result A UnknownNumber) → MatchResult r (λ y. ◌≡◌ {A = Result A LoadFault} (Ok x) (Ok y)) (λ e. ⊥) → r ≡ from_some o u → o ≡ Some x
  known (Some a) u x (Ok y) m h = cc
  known None u x (Ok y) m h = not_both (sym h)
  known o u x (Err e) m h = absurd m

  -- What was converted from the number n to x is the first of the list that has any number that equals n.
  pub known_at : (number : A → ℕ) (all : List A) (m : ℕ) (o : Option A) (n : ℕ) (x : A) (r : Result A UnknownNumber) → MatchResult r (λ y. ◌≡◌ {A = Result A LoadFault} (Ok x) (Ok y)) (λ e. ⊥) → r ≡ from_some o (record { 0 = n }) → o ≡ numbered number all n → n ≡ m → numbered number all m ≡ Some x
  known_at number all m o n x r h e found same = rw (← same, ← found) (known o _ x r h e)
