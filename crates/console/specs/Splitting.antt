-- The words of a text, which white space parts.
use Rattle.std.specs.Prelude.{◌≡◌, ℕ, ◌<◌, List, [], ◌∷◌, ◌++◌, length, map}
use Rattle.std.specs.Borrow.{Bor}
use Rattle.std.specs.Char.{is_whitespace, is_not_whitespace}
use Rattle.std.specs.Str.{NoCharPasses, EmptyOrStartsWithPassing}

-- A text is white space, a word, and a rest that is empty or begins with white space.
pub record First (text word rest : List ℕ) : Type 0 where
  pub gap : List ℕ
  pub cut : text ≡ gap ++ (word ++ rest)
  pub some : 0 < length word
  pub blank : NoCharPasses is_not_whitespace gap
  pub solid : NoCharPasses is_whitespace word
  pub ends : (more : List ℕ) × EmptyOrStartsWithPassing is_whitespace rest more

-- The words of a text, in their order.
abbrev pub Words : List ℕ → List (List ℕ) → Type 0
Words text [] = NoCharPasses is_not_whitespace text
Words text (w ∷ ws) = (rest : List ℕ) × First text w rest × Words rest ws

-- What borrowed words hold.
abbrev pub texts : List (Bor (List ℕ)) → List (List ℕ)
texts = map (λ w. w.now)
