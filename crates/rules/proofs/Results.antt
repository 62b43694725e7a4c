-- Results in a row: a row is accepted exactly if each of its parts is.
use Rattle.std.proofs.Common.{◌≡◌, ℕ, Bool, true, false, List, [], ◌∷◌, Some, None, Ok, Err, Option, Result, refl, ap, ◌∙◌, arith}
use Rattle.std.proofs.lemmas.Grind.{common_steps}
use Rattle.std.proofs.lemmas.Option.{none-some}
use Rattle.rules.specs.Outcomes.{◌>>=◌, ensure, from_some, refused_as, numbered}

module _ {A E : Type 0} where
  -- No result is both refused and accepted.
  pub not_both : {e : E} {a : A} {P : Type 0} → ◌≡◌ {A = Result A E} (Err e) (Ok a) → P
  not_both h = absurd (grind arith)

  -- Equal accepted results hold the same value.
  pub same_ok : {a b : A} → ◌≡◌ {A = Result A E} (Ok a) (Ok b) → a ≡ b
  same_ok h = cc

  -- Equal refused results hold the same refusal.
  pub same_err : {e f : E} → ◌≡◌ {A = Result A E} (Err e) (Err f) → e ≡ f
  same_err h = cc

  -- A value that is there is accepted.
  pub some_ok : {o : Option A} (e : E) {a : A} → o ≡ Some a → from_some o e ≡ Ok a
  some_ok e h = ap (λ o. from_some o e) h

module _ {A B E : Type 0} where
  -- An accepted result is gone on with.
  pub goes_on : {r : Result A E} (f : A → Result B E) {a : A} {s : Result B E} → r ≡ Ok a → f a ≡ s → (r >>= f) ≡ s
  goes_on f h k = ap (λ r. r >>= f) h ∙ k

  -- If a row is accepted, so is its first part, and what goes on with it.
  pub ok_then : (r : Result A E) (f : A → Result B E) (b : B) → (r >>= f) ≡ Ok b → (a : A) × (r ≡ Ok a) × (f a ≡ Ok b)
  ok_then (Ok a) f b h = (a, refl, h)
  ok_then (Err e) f b h = not_both h

  -- The same where the first part is a value that has to be there.
  pub some_then : (o : Option A) (e : E) (f : A → Result B E) (b : B) → (from_some o e >>= f) ≡ Ok b → (a : A) × (o ≡ Some a) × (f a ≡ Ok b)
  some_then (Some a) e f b h = (a, refl, h)
  some_then None e f b h = not_both h

module _ {A B C E : Type 0} where
  -- A second row is refused as the first, if its first part is refused where that of the first is, and accepted alike where the first is refused later.
  pub refused_again : (r r' : Result A E) (g : A → Result B E) (g' : A → Result C E) (f : E) → (r ≡ Err f → r' ≡ Err f) → ((a : A) → r ≡ Ok a → g a ≡ Err f → (r' >>= g') ≡ Err f) → (r >>= g) ≡ Err f → (r' >>= g') ≡ Err f
  refused_again (Ok a) r' g g' f now later h = later a refl h
  refused_again (Err e) r' g g' f now later h = let k : e ≡ f = same_err h in ap (λ q. q >>= g') (now (ap Err k))

module _ {E : Type 0} where
  -- A test that holds is accepted.
  pub ensure_ok : {t : Bool} (e : E) → t ≡ true → ensure t e ≡ Ok tt
  ensure_ok e h = ap (λ t. ensure t e) h

  -- A test that is accepted holds.
  pub ensure_holds : (t : Bool) (e : E) (u : Unit {0}) → ensure t e ≡ Ok u → t ≡ true
  ensure_holds true e u h = refl
  ensure_holds false e u h = not_both h

  -- If a row that begins with a test is accepted, the test holds, and what goes on is accepted.
  pub ensure_then : {B : Type 0} (t : Bool) (e : E) (f : Unit {0} → Result B E) (b : B) → (ensure t e >>= f) ≡ Ok b → (t ≡ true) × (f tt ≡ Ok b)
  ensure_then true e f b h = (refl, h)
  ensure_then false e f b h = not_both h

module _ {A E F : Type 0} (f : E → F) where
  -- What a lower layer accepts, the upper accepts.
  pub upper_ok : {r : Result A E} {a : A} → r ≡ Ok a → refused_as f r ≡ Ok a
  upper_ok h = ap (refused_as f) h

  -- What the upper layer accepts, the lower accepted.
  pub lower_ok : (r : Result A E) (a : A) → refused_as f r ≡ Ok a → r ≡ Ok a
  lower_ok (Ok b) a h = cc
  lower_ok (Err e) a h = not_both h

-- What is found by its number has that number.
pub has_number : {A : Type 0} (number : A → ℕ) (list : List A) (n : ℕ) (a : A) → numbered number list n ≡ Some a → number a ≡ n
has_number number [] n a h = absurd (none-some a h)
has_number number (b ∷ rest) n a h = grind (arith, common_steps, has_number number rest n a)
