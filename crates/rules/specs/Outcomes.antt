-- Results that are gone on with, or refused: the first refusal stays.
use Rattle.std.specs.Prelude.{ℕ, Bool, true, false, cond, List, [], ◌∷◌, Some, None, Ok, Err, Option, Result, ◌==◌}

infixl 10 ◌>>=◌
-- Go on with what was read; a refusal stays.
abbrev pub ◌>>=◌ : {A B E : Type 0} → Result A E → (A → Result B E) → Result B E
Ok a >>= f = f a
Err e >>= f = Err e

-- A test that has to hold.
abbrev pub ensure : {E : Type 0} → Bool → E → Result (Unit {0}) E
ensure true e = Ok tt
ensure false e = Err e

-- A value that has to be there.
abbrev pub from_some : {A E : Type 0} → Option A → E → Result A E
from_some (Some a) e = Ok a
from_some None e = Err e

-- An upper layer keeps a lower layer's refusal whole.
abbrev pub refused_as : {A E F : Type 0} → (E → F) → Result A E → Result A F
refused_as f (Ok a) = Ok a
refused_as f (Err e) = Err (f e)

-- The first of a list that has a certain number.
abbrev pub numbered : {A : Type 0} → (A → ℕ) → List A → ℕ → Option A
numbered number [] n = None
numbered number (a ∷ rest) n = cond (number a == n) (Some a) (numbered number rest n)
