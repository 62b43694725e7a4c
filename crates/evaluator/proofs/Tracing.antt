-- Tracing keeps the rate, and a probe that is not in the mask did not enter.
use Rattle.std.proofs.Common.{◌≡◌, ℕ, ◌/◌, ◌%◌, ◌^◌, ◌<◌, ◌≤◌, max, true, false, eqb, ltb, List, length, get_or, ℤ, pos, Ok, Err, Option, Result, sym, refl, ap, ◌∙◌, subst, ap₂, inl, inr, one-mul, arith}
use lib.Bits.{bit_or, or_shr, or_step}
use Rattle.std.proofs.lemmas.Grind.{common_steps}
use Rattle.std.proofs.lemmas.Nat.{shl-shr}
use Rattle.std.proofs.lemmas.Option.{slice_get-get_or, slice_get_past}
use Rattle.std.proofs.lemmas.Bool.{true≢false, leb-true, lt-ltb, cases_lt, cases_eq, cond-true}
use Rattle.std.specs.List.{slice_get}
use Rattle.arithmetic.specs.Plain.{plain, plain_two, plain_not, plain_combined, clamped}
use Rattle.arithmetic.specs.Tracing.{tracing, probe_bit, traced}
use Rattle.arithmetic.specs.declared.operators.Combining.{Combining}
use Rattle.arithmetic.specs.declared.operators.Combining.TheVariants.{Sum, Least, Greatest, Left}
use Rattle.arithmetic.specs.declared.traced.Traced.{Traced}
use Rattle.evaluator.proofs.Alike.{Alike, OptionsAlike, ResultsAlike, rates_alike}
use Rattle.evaluator.specs.Outcomes.{mapped}
use Rattle.evaluator.specs.Promises.{TracingKeepsTheRate, AbsentProbesDidNotEnter, DifferOnlyAt, has_probe}
use Rattle.evaluator.specs.Rates.{rate_of, reading_of, reading_value}
use Rattle.evaluator.specs.declared.refusal.Refusal.{Refusal}

-- A traced value shows a number.
abbrev Shows : Traced → ℤ → Type 0
Shows x n = x.number ≡ n

-- Tracing and plain arithmetic show the same numbers.
shows_alike : Alike Shows tracing plain
shows_alike = record {
  constants = λ n. refl;
  operators = λ o x x' y y' h k. ap₂ (plain_two o) h k;
  inversions = λ x y h. ap plain_not h;
  limits = λ low high x y h. ap (clamped low high) h;
  combinings = λ o x x' y y' h k. ap₂ (plain_combined o) h k;
}

-- A reading shows the same number in both arithmetics.
shows_reading : (v : ℕ) (n : Option ℤ) → OptionsAlike Shows (reading_value tracing v n) (reading_value plain v n)
shows_reading v n = grind (arith, common_steps)

-- Results that show the same are the same but for the masks.
shows_mapped : (r : Result Traced Refusal) (s : Result ℤ Refusal) → ResultsAlike Shows r s → mapped (λ (x : Traced). x.number) r ≡ s
shows_mapped r s h = grind (arith, common_steps)

-- Tracing never changes a rate.
pub tracing_keeps_the_rate : TracingKeepsTheRate
tracing_keeps_the_rate low high bs rs =
    shows_mapped (rate_of tracing low high bs rs) (rate_of plain low high bs rs)
    (rates_alike Shows tracing plain shows_alike low high bs rs rs refl (λ _ v. shows_reading v (slice_get rs v)))

-- Each bit of united masks is the greater of the two bits.
united_bit : (i m n : ℕ) → bit_or m n / 2 ^ i % 2 ≡ max (m / 2 ^ i % 2) (n / 2 ^ i % 2)
united_bit i m n = omega (arith, or_shr m n i, or_step (m / 2 ^ i) (n / 2 ^ i))

-- A probe that is absent of united masks is absent of the first.
absent_first : (i m n : ℕ) → has_probe i (bit_or m n) ≡ false → has_probe i m ≡ false
absent_first i m n h = let bit = united_bit i m n in grind (arith, common_steps)

-- A probe that is absent of united masks is absent of the second.
absent_second : (i m n : ℕ) → has_probe i (bit_or m n) ≡ false → has_probe i n ≡ false
absent_second i m n h = let bit = united_bit i m n in grind (arith, common_steps)

-- Every input variable is among the probes of its own bit.
has_own_probe : (i : ℕ) → i < 32 → has_probe i (probe_bit i) ≡ true
has_own_probe i h =
    let whole : 2 ^ i / 2 ^ i ≡ 1 = rw one-mul at (shl-shr 1 i) in
    ap (has_probe i) (cond-true (ltb i 32) (2 ^ i) 0 (lt-ltb i 32 h)) ∙ ap (λ n. eqb (n % 2) 1) whole

module _ (i : ℕ) where
  -- Masks are the same, and without probe i so are numbers.
  abbrev ButFor : Traced → Traced → Type 0
  ButFor x y = (x.mask ≡ y.mask) × (has_probe i x.mask ≡ false → x.number ≡ y.number)

  -- United masks and a function of both numbers keep values the same but for probe i.
  but_for_united : (f : ℤ → ℤ → ℤ) (x x' y y' : Traced) → ButFor x y → ButFor x' y' →
      ButFor (traced (f x.number x'.number) (bit_or x.mask x'.mask)) (traced (f y.number y'.number) (bit_or y.mask y'.mask))
  but_for_united f x x' y y' h k =
      (ap₂ bit_or h.0 k.0, λ e. ap₂ f (h.1 (absent_first i x.mask x'.mask e)) (k.1 (absent_second i x.mask x'.mask e)))

  -- Combining keeps values the same but for probe i.
  but_for_combined : (o : Combining) (x x' y y' : Traced) → ButFor x y → ButFor x' y' →
      ButFor (tracing.combined o x x') (tracing.combined o y y')
  but_for_combined Sum x x' y y' h k = but_for_united (plain_combined Sum) x x' y y' h k
  but_for_combined Least x x' y y' h k = but_for_united (plain_combined Least) x x' y y' h k
  but_for_combined Greatest x x' y y' h k = but_for_united (plain_combined Greatest) x x' y y' h k
  but_for_combined Left x x' y y' h k = h

  -- Tracing keeps values the same but for probe i.
  but_for_alike : Alike ButFor tracing tracing
  but_for_alike = record {
    constants = λ n. (refl, λ _. refl);
    operators = λ o. but_for_united (plain_two o);
    inversions = λ x y h. (h.0, λ e. ap plain_not (h.1 e));
    limits = λ low high x y h. (h.0, λ e. ap (clamped low high) (h.1 e));
    combinings = but_for_combined;
  }

  -- The same reading gives values that are the same.
  but_for_same : (v : ℕ) (n : Option ℤ) → OptionsAlike ButFor (reading_value tracing v n) (reading_value tracing v n)
  but_for_same v n = grind (arith, common_steps)

  -- Any two readings of probe i give values that are the same but for it.
  but_for_own : i < 32 → (m n : ℤ) → ButFor (tracing.reading i m) (tracing.reading i n)
  but_for_own h m n = (refl, λ e. absurd (true≢false (sym (has_own_probe i h) ∙ e)))

  -- Lists of readings that are as long, and at most 32, give at input i values that are the same but for probe i.
  but_for_own_reading : (rs rs' : List ℤ) → length rs ≡ length rs' → length rs ≤ 32 →
      OptionsAlike ButFor (reading_of tracing rs i) (reading_of tracing rs' i)
  but_for_own_reading rs rs' long few = elim (cases_lt i (length rs)) [
    | inl h ↦ let h' : i < length rs' = omega arith in
        rw (slice_get-get_or rs i (pos 0) h, slice_get-get_or rs' i (pos 0) h') (but_for_own (omega arith) (get_or rs i (pos 0)) (get_or rs' i (pos 0)))
    | inr h ↦ let h' : length rs' ≤ i = omega arith in
        rw (slice_get_past rs i h, slice_get_past rs' i h') tt
  ]

  -- Readings that differ at input i at most give values that are the same but for probe i.
  but_for_readings : (rs rs' : List ℤ) → length rs ≤ 32 → DifferOnlyAt i rs rs' →
      (v : ℕ) → OptionsAlike ButFor (reading_of tracing rs v) (reading_of tracing rs' v)
  but_for_readings rs rs' few d v = elim (cases_eq v i) [
    | inl e ↦ rw e (but_for_own_reading rs rs' d.long few)
    | inr e ↦ rw (d.same v e) (but_for_same v (slice_get rs' v))
  ]

  -- A result without probe i is the same as a result that is the same but for probe i.
  but_for_result : (x : Traced) (r : Result Traced Refusal) → has_probe i x.mask ≡ false → ResultsAlike ButFor (Ok x) r → r ≡ Ok x
  but_for_result x (Ok y) e h =
      let n : y.number ≡ x.number = sym (h.1 e) in
      let m : y.mask ≡ x.mask = sym h.0 in
      λ k. Ok (traced (n k) (m k))
  but_for_result x (Err f) e h = absurd h

-- A probe whose bit is not in the mask did not enter.
pub absent_probes_did_not_enter : AbsentProbesDidNotEnter
absent_probes_did_not_enter low high bs rs rs' i d x ok e =
    but_for_result i x (rate_of tracing low high bs rs') e
    (subst (λ r. ResultsAlike (ButFor i) r (rate_of tracing low high bs rs')) ok
    (rates_alike (ButFor i) tracing tracing (but_for_alike i) low high bs rs rs' d.long
    (λ few. but_for_readings i rs rs' (leb-true (length rs) 32 few) d)))
