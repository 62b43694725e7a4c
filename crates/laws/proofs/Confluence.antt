-- From the exchange of steps: all complete runs have one length and one end.
use Rattle.std.proofs.Common.{◌≡◌, ℕ, suc, Bool, T, ◌≢◌, List, [], ◌∷◌, length, sym, refl, ap, ◌∙◌, subst}
use native.Mathlib.Decide.{ℕ_discrete}
use Rattle.laws.specs.Orders.{Runs, after, Final, Diamond, OneOutcome}

module _ {S : Type 0} (ready : ℕ → S → Bool) (step : ℕ → S → S) (dia : Diamond ready step) where
  -- A complete run can begin with any thread that is ready.
  record Begins (t : ℕ) (ts : List ℕ) (s : S) : Type 0 where
    ts' : List ℕ
    runs : Runs ready step ts' (step t s)
    same : after ready step ts' (step t s) ≡ after ready step ts s
    len : length ts ≡ suc (length ts')

  begins : (ts : List ℕ) (s : S) (t : ℕ) → Runs ready step ts s → Final ready step (after ready step ts s) → T (ready t s) → Begins t ts s
  begins [] s t r f h = absurd (f t h)
  begins (u ∷ ts) s t r f h = go (ℕ_discrete t u) (λ h'. begins ts (step u s) t r.1 f h')
    where
      other : t ≢ u → Begins t ts (step u s) → Begins t (u ∷ ts) s
      other ne b =
          let d = dia s t u ne h r.0 in
          record {
            ts' = u ∷ b.ts';
            runs = (d.0, subst (λ x. Runs ready step b.ts' x) (sym d.1) b.runs);
            same = ap (λ x. after ready step b.ts' x) d.1 ∙ b.same;
            len = ap suc b.len;
          }

      go : Dec (t ≡ u) → (T (ready t (step u s)) → Begins t ts (step u s)) → Begins t (u ∷ ts) s
      go (yes e) ih = subst (λ x. Begins x (u ∷ ts) s) (sym e) (record { ts' = ts; runs = r.1; same = refl; len = refl })
      go (no ne) ih = other ne (ih (dia s u t (λ e. ne (sym e)) r.0 h).0)

  pub one_outcome : OneOutcome ready step
  one_outcome s [] [] r f r' f' = (refl, refl)
  one_outcome s [] (u ∷ us) r f r' f' = absurd (f u r'.0)
  one_outcome s (t ∷ ts) us r f r' f' =
      let b = begins us s t r' f' r.0 in
      let i = one_outcome (step t s) ts b.ts' r.1 f b.runs (subst (Final ready step) (sym b.same) f') in
      (ap suc i.0 ∙ sym b.len, i.1 ∙ b.same)
