-- What an accepted or refused image is the image of.
use Rattle.std.proofs.Common.{◌≡◌, IsErrAnd, Option, Some, None, Ok, Err, Result, sym, refl, arith}
use Rattle.std.specs.Option.{ok_or}
use Rattle.evaluator.specs.Outcomes.{mapped}
use Rattle.rules.specs.Outcomes.{refused_as}
use Rattle.rules.proofs.Results.{not_both}

module _ {A B E : Type 0} where
  -- An accepted image is the image of an answer.
  pub mapped_ok : (f : A → B) (r : Result A E) (b : B) → Ok b ≡ mapped f r → (a : A) × (r ≡ Ok a) × (f a ≡ b)
  mapped_ok f (Ok a) b e = (a, refl, cc)
  mapped_ok f (Err g) b e = not_both (sym e)

  -- A refused image is the image of that refusal.
  pub mapped_err : (f : A → B) (r : Result A E) (g : E) → Err g ≡ mapped f r → r ≡ Err g
  mapped_err f r g e = grind arith

  -- A refusal that `?` hands on.
  pub err_mapped : (f : A → B) (r : Result A E) (g : E) → IsErrAnd r (λ e. e ≡ g) → mapped f r ≡ Err g
  err_mapped f r g h = grind arith

-- What an upper layer makes of a refusal is made whatever becomes of the answer.
pub refused_mapped : {A B E F : Type 0} (f : A → B) (g : E → F) (r : Result A E) → mapped f (refused_as g r) ≡ refused_as g (mapped f r)
refused_mapped f g r = grind arith

-- A value that is there is there whatever fault stands for its absence.
pub ok_or_other : {A E : Type 0} (o : Option A) (e g : E) (a : A) → Ok a ≡ ok_or o e → Ok a ≡ ok_or o g
ok_or_other (Some b) e g a h = cc
ok_or_other None e g a h = not_both (sym h)
