-- What `parse` reads is what a decimal word stands for.
use Rattle.std.proofs.Common.{◌≡◌, ℕ, ◌^◌, ◌<◌, ◌≤◌, true, false, cond, ◌&&◌, eqb, ltb, leb, List, length, get_or, drop, ℤ, pos, Some, None, Ok, Err, Result, sym, ◌∙◌, subst, arith, ⊎_elim, w32}
use Rattle.std.proofs.lemmas.Str.Parse.{IsNumeralModel, numerals_by_value, tells_all_ascii_digits, without_leading_plus_none, without_leading_plus_plus, parse_signed_minus, parse_signed_plain, parse_signed_plus}
use Rattle.std.proofs.lemmas.Bool.{cond-true, cond-false, eqb-true, eqb-false, cases_Bool}
use Rattle.std.specs.Result.{OkIff, result_ok}
use Rattle.std.specs.Str.Parse.{digits_value, starts_with_minus, ParsesSigned}
use Rattle.std.specs.Str.{all_ascii_digits}
use Rattle.console.specs.Decimal.{numeral, decimal_in}
use Rattle.std.proofs.lemmas.Bool.Decides.{nat_tests}

own : IsNumeralModel (λ ds. all_ascii_digits ds ≡ true) (digits_value 10)
own = numerals_by_value _ tells_all_ascii_digits

-- A conversion of digits is the number where they are a numeral within the bound, else none.
up_to : {E : Type 0} (ds : List ℕ) (bound : ℕ) (n : ℤ) (r : Result ℤ E) → OkIff r ((all_ascii_digits ds ≡ true) × (0 < length ds) × (digits_value 10 ds ≤ bound)) n → result_ok r ≡ cond (numeral ds && leb (digits_value 10 ds) bound) (Some n) None
up_to ds bound n (Ok x) h = grind (arith, nat_tests)
up_to ds bound n (Err e) h = grind (arith, nat_tests)

below : {E : Type 0} (ds : List ℕ) (bound : ℕ) (n : ℤ) (r : Result ℤ E) → OkIff r ((all_ascii_digits ds ≡ true) × (0 < length ds) × (digits_value 10 ds < bound)) n → result_ok r ≡ cond (numeral ds && ltb (digits_value 10 ds) bound) (Some n) None
below ds bound n (Ok x) h = grind (arith, nat_tests)
below ds bound n (Err e) h = grind (arith, nat_tests)

module _ {E : Type 0} (w : List ℕ) (r : Result ℤ E) (h : ParsesSigned w32 10 w r) where
  with_minus : starts_with_minus w ≡ true → result_ok r ≡ decimal_in w
  with_minus e =
      up_to (drop 1 w) (2 ^ 31) _ r (parse_signed_minus own w32 w r h (eqb-true (get_or w 0 0) 45 e)) ∙ sym (cond-true (starts_with_minus w) _ _ e)

  -- The digits after an optional plus.
  unsigned : List ℕ → Type 0
  unsigned ds = result_ok r ≡ cond (numeral ds && ltb (digits_value 10 ds) (2 ^ 31)) (Some (pos (digits_value 10 ds))) None

  without_minus : starts_with_minus w ≡ false → result_ok r ≡ decimal_in w
  unfolding unsigned
  without_minus e =
      ⊎_elim
      (λ p.
      let plus = eqb-true (get_or w 0 0) 43 p in
      subst unsigned (sym (without_leading_plus_plus w plus)) (below (drop 1 w) (2 ^ 31) _ r (parse_signed_plus own w32 w r h plus)) ∙ sym (cond-false (starts_with_minus w) _ _ e))
      (λ p.
      let plain = eqb-false (get_or w 0 0) 43 p in
      subst unsigned (sym (without_leading_plus_none w plain)) (below w (2 ^ 31) _ r (parse_signed_plain own w32 w r h plain (eqb-false (get_or w 0 0) 45 e))) ∙ sym (cond-false (starts_with_minus w) _ _ e))
      (cases_Bool (eqb (get_or w 0 0) 43))

  pub parsed_decimal : result_ok r ≡ decimal_in w
  parsed_decimal = ⊎_elim with_minus without_minus (cases_Bool (starts_with_minus w))
