-- What the numbers in a program's bytes stand for.
use Rattle.std.specs.Prelude.{◌≡◌, ℕ, List, Result}
use Rattle.arithmetic.specs.declared.operators.UnknownNumber.{UnknownNumber}
use Rattle.rules.specs.Encoding.{kind_number, policy_number, form_byte}
use Rattle.rules.specs.Forms.{forms}
use Rattle.rules.specs.Outcomes.{from_some, numbered}
use Rattle.rules.specs.Reading.{kinds, policies}
use Rattle.rules.specs.declared.program.Form.{Form}
use Rattle.rules.specs.declared.program.Kind.{Kind}
use Rattle.rules.specs.declared.program.Policy.{Policy}

-- The one of a list that has this number, or the number that none of them has.
abbrev pub named : {A : Type 0} → (A → ℕ) → List A → ℕ → Result A UnknownNumber
named number all n = from_some (numbered number all n) (record { 0 = n })

-- The kind of variable of a number.
abbrev pub KindOf : ℕ → Result Kind UnknownNumber → Type 0
KindOf n r = r ≡ named kind_number kinds n

-- The policy of a number.
abbrev pub PolicyOf : ℕ → Result Policy UnknownNumber → Type 0
PolicyOf n r = r ≡ named policy_number policies n

-- The form of statement of a command byte.
abbrev pub FormOf : ℕ → Result Form UnknownNumber → Type 0
FormOf c r = r ≡ named form_byte forms c
