-- Results in a row: which refusals a row can give, and two rows that are refused alike.
use Rattle.std.proofs.Common.{◌≡◌, Bool, true, false, Some, None, Ok, Err, Option, Result, sym, refl, ap, ◌∙◌, subst}
use Rattle.rules.specs.Outcomes.{◌>>=◌, ensure, from_some, refused_as}
use Rattle.rules.proofs.Results.{not_both, same_err}

module _ {A E : Type 0} where
  -- An acceptance is no refusal.
  pub no_ok : {a : A} {e : E} {P : Type 0} → ◌≡◌ {A = Result A E} (Ok a) (Err e) → P
  no_ok h = not_both (sym h)

---------------------------------------------------------------------- which refusals

-- Each refusal of a result has the property P.
pub record Only {A E : Type 0} (P : E → Type 0) (r : Result A E) : Type 0 where
  pub only : (f : E) → r ≡ Err f → P f

module _ {A E : Type 0} (P : E → Type 0) where
  -- An acceptance has no refusal.
  pub only_ok : (a : A) → Only P (Ok a)
  only_ok a = record { only = λ f h. no_ok h }

  -- A refusal is its own only one.
  pub only_err : (e : E) → P e → Only {A = A} P (Err e)
  only_err e p = record { only = λ f h. subst P (same_err h) p }

  -- A value that has to be there is refused by what is given for that.
  pub only_some : (o : Option A) (e : E) → P e → Only P (from_some o e)
  only_some (Some a) e p = only_ok a
  only_some None e p = only_err e p

module _ {E : Type 0} (P : E → Type 0) where
  -- A test is refused by what is given for that.
  pub only_ensure : (b : Bool) (e : E) → P e → Only P (ensure b e)
  only_ensure true e p = only_ok P tt
  only_ensure false e p = only_err P e p

-- Refusals that an upper layer keeps.
pub only_refused : {A E F : Type 0} (P : F → Type 0) (g : E → F) (r : Result A E) → Only (λ e. P (g e)) r → Only P (refused_as g r)
only_refused P g (Ok a) h = only_ok P a
only_refused P g (Err e) h = only_err P (g e) (h.only e refl)

module _ {A B E : Type 0} (P : E → Type 0) where
  -- A row is refused as its first part is, or as the others are after it.
  pub only_then : (r : Result A E) (g : A → Result B E) → Only P r → ((a : A) → r ≡ Ok a → Only P (g a)) → Only P (r >>= g)
  only_then (Ok a) g h k = k a refl
  only_then (Err e) g h k = only_err P e (h.only e refl)

-- A property that follows from another.
pub only_weaker : {A E : Type 0} (P Q : E → Type 0) (r : Result A E) → ((e : E) → P e → Q e) → Only P r → Only Q r
only_weaker P Q r w h = record { only = λ f e. w f (h.only f e) }

---------------------------------------------------------------------- refused alike

-- Both are refused by the same, or both are accepted and R holds of what they accept.
abbrev Both : {A E : Type 0} → (A → A → Type 0) → Result A E → Result A E → Type 0
Both R (Ok a) (Ok a') = R a a'
Both R (Ok a) (Err e) = ⊥
Both R (Err e) (Ok a') = ⊥
Both R (Err e) (Err e') = e ≡ e'

pub record Related {A E : Type 0} (R : A → A → Type 0) (r r' : Result A E) : Type 0 where
  pub both : Both R r r'

module _ {A E : Type 0} (R : A → A → Type 0) where
  -- Where one of two is refused, the other is refused alike.
  pub refused_both : (r r' : Result A E) (f : E) → Related R r r' → r ≡ Err f → r' ≡ Err f
  refused_both (Ok a) r' f h e = no_ok e
  refused_both (Err g) (Ok a') f h e = absurd h.both
  refused_both (Err g) (Err g') f h e = ap Err (sym h.both) ∙ e

  -- Where one of two is accepted, so is the other.
  pub accepted_both : (r r' : Result A E) (a : A) → Related R r r' → r ≡ Ok a → (a' : A) × (r' ≡ Ok a') × R a a'
  accepted_both (Err g) r' a h e = not_both e
  accepted_both (Ok b) (Err g') a h e = absurd h.both
  accepted_both (Ok b) (Ok b') a h e = (b', refl, subst (λ x. R x b') (let k : b ≡ a = cc in k) h.both)

-- A relation that follows from another.
pub related_weaker : {A E : Type 0} (R S : A → A → Type 0) (r r' : Result A E) → ((a a' : A) → R a a' → S a a') → Related R r r' → Related S r r'
related_weaker R S (Ok a) (Ok a') w h = record { both = w a a' h.both }
related_weaker R S (Ok a) (Err e) w h = absurd h.both
related_weaker R S (Err e) (Ok a') w h = absurd h.both
related_weaker R S (Err e) (Err e') w h = record { both = h.both }

-- What an upper layer keeps of two that are related.
pub related_refused : {A E F : Type 0} (R : A → A → Type 0) (g : E → F) (r r' : Result A E) → Related R r r' → Related R (refused_as g r) (refused_as g r')
related_refused R g (Ok a) (Ok a') h = record { both = h.both }
related_refused R g (Ok a) (Err e) h = absurd h.both
related_refused R g (Err e) (Ok a') h = absurd h.both
related_refused R g (Err e) (Err e') h = record { both = ap g h.both }

module _ {A B E : Type 0} (S : B → B → Type 0) where
  -- Two rows are related if their first parts are, and the others after them.
  pub related_then : (R : A → A → Type 0) (r r' : Result A E) (g g' : A → Result B E) → Related R r r' → ((a a' : A) → R a a' → Related S (g a) (g' a')) → Related S (r >>= g) (r' >>= g')
  related_then R (Ok a) (Ok a') g g' h k = k a a' h.both
  related_then R (Ok a) (Err e) g g' h k = absurd h.both
  related_then R (Err e) (Ok a') g g' h k = absurd h.both
  related_then R (Err e) (Err e') g g' h k = record { both = h.both }

  -- The same where the first parts are equal.
  pub same_then : (r r' : Result A E) (g g' : A → Result B E) → r ≡ r' → ((a : A) → r ≡ Ok a → Related S (g a) (g' a)) → Related S (r >>= g) (r' >>= g')
  same_then r r' g g' e k = subst (λ q. Related S (r >>= g) (q >>= g')) e (from r k) where
    from : (q : Result A E) → ((a : A) → q ≡ Ok a → Related S (g a) (g' a)) → Related S (q >>= g) (q >>= g')
    from (Ok a) l = l a refl
    from (Err f) l = record { both = refl }
