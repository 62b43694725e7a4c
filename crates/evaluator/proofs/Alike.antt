-- Evaluations over related values are related.
use Rattle.std.proofs.Common.{◌≡◌, ℕ, suc, Bool, true, false, cond, ◌&&◌, leb, List, [], ◌∷◌, length, ℤ, Some, None, Ok, Err, Option, Result, refl, ap, arith}
use Rattle.std.proofs.lemmas.Grind.{common_steps}
use Rattle.arithmetic.specs.Meaning.{Meaning, two, inverse}
use Rattle.arithmetic.specs.declared.operators.Operator.{Operator}
use Rattle.arithmetic.specs.declared.operators.Combining.{Combining}
use Rattle.evaluator.specs.Commands.{Command, constant, variable, operator, inversion, Placed, commands_of}
use Rattle.evaluator.specs.Evaluating.{longest, stack_one, stack_found, operate_two, operate_one, only, performed, step, run, evaluated}
use Rattle.evaluator.specs.Outcomes.{and_then, mapped}
use Rattle.evaluator.specs.Rates.{rate_of, reading_of, most_variables}
use Rattle.evaluator.specs.declared.refusal.Refusal.{Refusal}

module _ {V W : Type 0} where
  -- Both are None, or both are Some and related.
  abbrev pub OptionsAlike : (V → W → Type 0) → Option V → Option W → Type 0
  OptionsAlike R None None = Unit {0}
  OptionsAlike R None (Some y) = ⊥
  OptionsAlike R (Some x) None = ⊥
  OptionsAlike R (Some x) (Some y) = R x y

  -- Both lists are as long, and their elements are related place by place.
  abbrev pub ListsAlike : (V → W → Type 0) → List V → List W → Type 0
  ListsAlike R [] [] = Unit {0}
  ListsAlike R [] (y ∷ ys) = ⊥
  ListsAlike R (x ∷ xs) [] = ⊥
  ListsAlike R (x ∷ xs) (y ∷ ys) = R x y × ListsAlike R xs ys

  -- Both are Ok and related, or both are Err with the same refusal.
  abbrev pub ResultsAlike : (V → W → Type 0) → Result V Refusal → Result W Refusal → Type 0
  ResultsAlike R (Ok x) (Ok y) = R x y
  ResultsAlike R (Ok x) (Err e) = ⊥
  ResultsAlike R (Err e) (Ok y) = ⊥
  ResultsAlike R (Err e) (Err f) = e ≡ f

  -- Constants are related, and operators, limiting and combining keep the relation.
  pub record Alike (R : V → W → Type 0) (M : Meaning V) (N : Meaning W) : Type 0 where
    pub constants : (n : ℤ) → R (M.constant n) (N.constant n)
    pub operators : (o : Operator) (x x' : V) (y y' : W) → R x y → R x' y' → R (M.operated (two o x x')) (N.operated (two o y y'))
    pub inversions : (x : V) (y : W) → R x y → R (M.operated (inverse x)) (N.operated (inverse y))
    pub limits : (low high : ℤ) (x : V) (y : W) → R x y → R (M.limited low high x) (N.limited low high y)
    pub combinings : (o : Combining) (x x' : V) (y y' : W) → R x y → R x' y' → R (M.combined o x x') (N.combined o y y')

  module _ (R : V → W → Type 0) where
    -- Related lists are as long as each other.
    pub lists_length : (xs : List V) (ys : List W) → ListsAlike R xs ys → length xs ≡ length ys
    lists_length [] ys h = grind (arith, common_steps)
    lists_length (x ∷ xs) [] h = absurd h
    lists_length (x ∷ xs) (y ∷ ys) h = ap suc (lists_length xs ys h.1)

    -- The same test between related results gives related results.
    pub conds_alike : (b c : Bool) (r s : Result V Refusal) (r' s' : Result W Refusal) → b ≡ c →
        (b ≡ true → ResultsAlike R r r') → (b ≡ false → ResultsAlike R s s') → ResultsAlike R (cond b r s) (cond c r' s')
    conds_alike b c r s r' s' e h k = grind (arith, common_steps)

-- Going on from related results with functions that keep the relation gives related results.
pub and_then_alike : {A B C D : Type 0} (R : A → B → Type 0) (S : C → D → Type 0) (r : Result A Refusal) (s : Result B Refusal)
    (f : A → Result C Refusal) (g : B → Result D Refusal) → ResultsAlike R r s →
    ((a : A) (b : B) → R a b → ResultsAlike S (f a) (g b)) → ResultsAlike S (and_then r f) (and_then s g)
and_then_alike R S r s f g h k = grind (arith, common_steps)

-- Functions that keep the relation give related results of related results.
pub mapped_alike : {A B C D : Type 0} (R : A → B → Type 0) (S : C → D → Type 0) (r : Result A Refusal) (s : Result B Refusal)
    (f : A → C) (g : B → D) → ResultsAlike R r s → ((a : A) (b : B) → R a b → S (f a) (g b)) → ResultsAlike S (mapped f r) (mapped g s)
mapped_alike R S r s f g h k = grind (arith, common_steps)

module _ {V W : Type 0} (R : V → W → Type 0) where
  -- Stacking related values on related stacks gives related results.
  pub stack_one_alike : (p : ℕ) (x : V) (y : W) (xs : List V) (ys : List W) → R x y → ListsAlike R xs ys →
      ResultsAlike (ListsAlike R) (stack_one p x xs) (stack_one p y ys)
  stack_one_alike p x y xs ys h k = let e = lists_length R xs ys k in grind (arith, common_steps)

  -- Stacking what was found, where both or neither were found, gives related results.
  pub stack_found_alike : (p : ℕ) (x : Option V) (y : Option W) (xs : List V) (ys : List W) → OptionsAlike R x y → ListsAlike R xs ys →
      ResultsAlike (ListsAlike R) (stack_found p x xs) (stack_found p y ys)
  stack_found_alike p x y xs ys h k = let e = lists_length R xs ys k in grind (arith, common_steps)

  -- Operators on two values that keep the relation give related results of related stacks.
  pub operate_two_alike : (p : ℕ) (f : V → V → V) (g : W → W → W) (xs : List V) (ys : List W) →
      ((x x' : V) (y y' : W) → R x y → R x' y' → R (f x x') (g y y')) → ListsAlike R xs ys →
      ResultsAlike (ListsAlike R) (operate_two p f xs) (operate_two p g ys)
  operate_two_alike p f g xs ys keep h = grind (arith, common_steps)

  -- Operators on one value that keep the relation give related results of related stacks.
  pub operate_one_alike : (p : ℕ) (f : V → V) (g : W → W) (xs : List V) (ys : List W) →
      ((x : V) (y : W) → R x y → R (f x) (g y)) → ListsAlike R xs ys →
      ResultsAlike (ListsAlike R) (operate_one p f xs) (operate_one p g ys)
  operate_one_alike p f g xs ys keep h = grind (arith, common_steps)

  -- What remains of related stacks is related.
  pub only_alike : (xs : List V) (ys : List W) → ListsAlike R xs ys → ResultsAlike R (only xs) (only ys)
  only_alike xs ys h = grind (arith, common_steps)

  module _ (M : Meaning V) (N : Meaning W) (𝓐 : Alike R M N) where
    module _ (look : ℕ → Option V) (look' : ℕ → Option W) (𝓛 : (v : ℕ) → OptionsAlike R (look v) (look' v)) where
      -- A command keeps stacks related.
      pub performed_alike : (p : ℕ) (c : Command) (xs : List V) (ys : List W) → ListsAlike R xs ys →
          ResultsAlike (ListsAlike R) (performed M look p c xs) (performed N look' p c ys)
      performed_alike p (constant n) xs ys h = stack_one_alike p (M.constant n) (N.constant n) xs ys (𝓐.constants n) h
      performed_alike p (variable v) xs ys h = stack_found_alike p (look v) (look' v) xs ys (𝓛 v) h
      performed_alike p (operator o) xs ys h =
          operate_two_alike p (λ x x'. M.operated (two o x x')) (λ y y'. N.operated (two o y y')) xs ys (𝓐.operators o) h
      performed_alike p inversion xs ys h =
          operate_one_alike p (λ x. M.operated (inverse x)) (λ y. N.operated (inverse y)) xs ys 𝓐.inversions h

      -- A command that may not have been read keeps stacks related.
      pub step_alike : (p : ℕ) (c : Option Command) (xs : List V) (ys : List W) → ListsAlike R xs ys →
          ResultsAlike (ListsAlike R) (step M look p c xs) (step N look' p c ys)
      step_alike p None xs ys h = refl
      step_alike p (Some c) xs ys h = performed_alike p c xs ys h

      -- Commands in turn keep stacks related.
      pub run_alike : (cs : List Placed) (xs : List V) (ys : List W) → ListsAlike R xs ys →
          ResultsAlike (ListsAlike R) (run M look cs xs) (run N look' cs ys)
      run_alike [] xs ys h = h
      run_alike (c ∷ cs) xs ys h =
          and_then_alike (ListsAlike R) (ListsAlike R) (step M look c.place c.command xs) (step N look' c.place c.command ys)
          (run M look cs) (run N look' cs) (step_alike c.place c.command xs ys h) (run_alike cs)

      -- The values of an expression are related.
      pub evaluated_alike : (bs : List ℕ) → ResultsAlike R (evaluated M look bs) (evaluated N look' bs)
      evaluated_alike bs =
          conds_alike R (leb 1 (length bs) && leb (length bs) longest) (leb 1 (length bs) && leb (length bs) longest) _ _ _ _ refl
          (λ _. and_then_alike (ListsAlike R) R (run M look (commands_of bs) []) (run N look' (commands_of bs) []) only only
          (run_alike (commands_of bs) [] [] tt) only_alike)
          (λ _. refl)

    -- The rates of an expression are related, over lists of readings that are as long and, where they are at most 32, are related variable by variable.
    pub rates_alike : (low high : ℤ) (bs : List ℕ) (rs rs' : List ℤ) → length rs ≡ length rs' →
        (leb (length rs) most_variables ≡ true → (v : ℕ) → OptionsAlike R (reading_of M rs v) (reading_of N rs' v)) →
        ResultsAlike R (rate_of M low high bs rs) (rate_of N low high bs rs')
    rates_alike low high bs rs rs' long 𝓛 =
        conds_alike R (leb (length rs) most_variables) (leb (length rs') most_variables) _ _ _ _ (ap (λ n. leb n most_variables) long)
        (λ e. mapped_alike R R (evaluated M (reading_of M rs) bs) (evaluated N (reading_of N rs') bs) (M.limited low high) (N.limited low high)
        (evaluated_alike (reading_of M rs) (reading_of N rs') (𝓛 e) bs) (𝓐.limits low high))
        (λ _. refl)
