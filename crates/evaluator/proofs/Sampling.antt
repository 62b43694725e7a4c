-- Readings that are put into the first places of a memory are what the variables of those numbers hold.
use Rattle.std.proofs.Common.{◌≡◌, ℕ, ◌<◌, ◌≤◌, cond, List, length, take, ℤ, Err, sym, ap, ◌∙◌, arith}
use mathlib.Core.Path.{fun_ext}
use Rattle.std.specs.List.{slice_get}
use Rattle.std.proofs.lemmas.Option.{slice_get_past, gets}
use Rattle.std.proofs.lemmas.Grind.{common_steps}
use Rattle.std.proofs.lemmas.Bool.{le-leb, eq-eqb}
use Rattle.arithmetic.specs.Meaning.{Meaning}
use Rattle.evaluator.specs.Evaluating.{value_of, evaluated, evaluated_in}
use Rattle.evaluator.specs.Outcomes.{mapped}
use Rattle.evaluator.specs.Rates.{rate_of, reading_of}
use Rattle.evaluator.specs.Scopes.{first_places}
use Rattle.evaluator.specs.declared.refusal.Refusal.TheVariants.{Memory, Readings}

-- The first n places hold what all hold there.
slice_get-take : {X : Type 0} (xs : List X) (n i : ℕ) → i < n → slice_get (take n xs) i ≡ slice_get xs i
slice_get-take xs n i h = grind (arith, common_steps, gets)

module _ {V : Type 0} (M : Meaning V) (rs : List ℤ) where
  -- With all readings placed, the first places hold what the variables have, and other variables have no place.
  pub places_read : (m : List V) → length rs ≤ 32 → ((v : ℕ) → v < length rs → slice_get m v ≡ reading_of M rs v) →
      (v : ℕ) → value_of (take 1024 m) (first_places (length rs)) v ≡ reading_of M rs v
  places_read m few placed v = let in_place = placed v in let same = slice_get-take m 1024 v in let past = slice_get_past rs v in grind (arith, common_steps)

  -- An evaluation over those places, limited, is the rate.
  pub rate_is : (m : List V) (bs : List ℕ) (low high : ℤ) → length m ≡ 1040 → length rs ≤ 32 → ((v : ℕ) → v < length rs → slice_get m v ≡ reading_of M rs v) →
      mapped (M.limited low high) (evaluated_in M (first_places (length rs)) m bs) ≡ rate_of M low high bs rs
  rate_is m bs low high long few placed =
      ap (λ t. mapped (M.limited low high) (cond t (evaluated M (value_of (take 1024 m) (first_places (length rs))) bs) (Err Memory))) (eq-eqb (length m) 1040 long)
      ∙ ap (λ look. mapped (M.limited low high) (evaluated M look bs)) (fun_ext (places_read m few placed))
      ∙ sym (ap (λ t. cond t (mapped (M.limited low high) (evaluated M (reading_of M rs) bs)) (Err Readings)) (le-leb (length rs) 32 few))
