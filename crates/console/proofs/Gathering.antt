-- What has been read, before what is still to be read.
use Rattle.std.proofs.Common.{◌≡◌, ℕ, ◌+◌, ◌-◌, ◌<◌, ◌≤◌, List, [], ◌∷◌, ◌++◌, length, get_or, take, drop, ℤ, Some, None, Ok, Err, Option, Result, sym, refl, ap, ◌∙◌, append_assoc, arith, Bor}
use Rattle.std.proofs.lemmas.List.{drop_more, take_all}
use Rattle.std.specs.Option as options
use Rattle.evaluator.specs.Outcomes as outcomes
use Rattle.console.specs.Decimal.{number_at, number_before, numbers_from}
use Rattle.console.specs.Hexadecimal.{digit_value, pair_value, byte_before, bytes_in}
use Rattle.console.specs.Splitting.{texts}
use Rattle.console.specs.declared.problem.Problem.{Problem}

module _ {A : Type 0} where
  -- Items before others, if those can be read.
  abbrev pub before_some : List A → Option (List A) → Option (List A)
  before_some xs o = options.option_map (λ more. xs ++ more) o

  abbrev pub before_ok : {E : Type 0} → List A → Result (List A) E → Result (List A) E
  before_ok xs r = outcomes.mapped (λ more. xs ++ more) r

byte_joins : (bs : List ℕ) (b : ℕ) (o : Option (List ℕ)) → before_some bs (byte_before (Some b) o) ≡ before_some (bs ++ (b ∷ [])) o
byte_joins bs b None = refl
byte_joins bs b (Some more) = ap Some (sym (append_assoc bs (b ∷ []) more))

number_joins : (ns : List ℤ) (n : ℤ) (r : Result (List ℤ) Problem) → before_ok ns (number_before (Ok n) r) ≡ before_ok (ns ++ (n ∷ [])) r
number_joins ns n (Err e) = refl
number_joins ns n (Ok more) = ap Ok (sym (append_assoc ns (n ∷ []) more))

-- The bytes read so far, and what is left of the word.
abbrev pub BytesSoFar : List ℕ → List ℕ → List ℕ → Type 0
BytesSoFar word bs rest = bytes_in word ≡ before_some bs (bytes_in rest)

pub bytes_more : (word bs rest new : List ℕ) (b : ℕ) → 2 ≤ length rest → BytesSoFar word bs rest → pair_value (digit_value (get_or rest 0 0)) (digit_value (get_or rest 1 0)) ≡ Some b → new ≡ bs ++ (b ∷ []) → BytesSoFar word new (take (length rest - 2) (drop 2 rest))
bytes_more word bs [] new b long inv e pushed = absurd (omega arith)
bytes_more word bs (h ∷ []) new b long inv e pushed = absurd (omega arith)
bytes_more word bs (h ∷ l ∷ rest) new b long inv e pushed =
    rw (pushed, take_all (length (h ∷ l ∷ rest) - 2) rest (omega arith))
    (inv ∙ ap (λ o. before_some bs (byte_before o (bytes_in rest))) e ∙ byte_joins bs b (bytes_in rest))

-- The numbers read so far, and how many words they were.
abbrev pub NumbersSoFar : List (Bor (List ℕ)) → List ℤ → ℕ → Type 0
NumbersSoFar ws ns i = numbers_from 5 (texts ws) ≡ before_ok ns (numbers_from (5 + i) (texts (drop i ws)))

pub numbers_more : (ws : List (Bor (List ℕ))) (ns new : List ℤ) (i : ℕ) (d : Bor (List ℕ)) (n : ℤ) → i < length ws → NumbersSoFar ws ns i → number_at (5 + i) (get_or ws i d).now ≡ Ok n → new ≡ ns ++ (n ∷ []) → NumbersSoFar ws new (i + 1)
numbers_more ws ns new i d n more inv e pushed =
    let next : 5 + i + 1 ≡ 5 + (i + 1) = omega arith in
    let rest = numbers_from (5 + (i + 1)) (texts (drop (i + 1) ws)) in
    inv ∙ ap (λ xs. before_ok ns (numbers_from (5 + i) (texts xs))) (drop_more ws i d more)
    ∙ ap (λ p. before_ok ns (number_before (number_at (5 + i) (get_or ws i d).now) (numbers_from p (texts (drop (i + 1) ws))))) next
    ∙ ap (λ r. before_ok ns (number_before r rest)) e ∙ number_joins ns n rest ∙ ap (λ xs. before_ok xs rest) (sym pushed)
