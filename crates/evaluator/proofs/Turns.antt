-- The evaluator's loop: after each turn, what is left to do gives what the whole gives.
use Rattle.std.proofs.Common.{◌≡◌, ℕ, zero, suc, ◌-◌, ◌<◌, ◌≤◌, List, [], ◌∷◌, length, Ok, Err, Option, sym, ap, ◌∙◌, arith}
use Rattle.std.proofs.lemmas.Grind.{common_steps}
use Rattle.arithmetic.specs.Meaning.{Meaning}
use Rattle.evaluator.specs.Commands.{Command, next_command, listed, listing, commands_of, Placed}
use Rattle.evaluator.specs.Evaluating.{run, taken}
use Rattle.evaluator.specs.Outcomes.{and_then}
use Rattle.evaluator.specs.declared.refusal.Refusal.{Refusal}

module _ {V : Type 0} (M : Meaning V) (look : ℕ → Option V) where
  -- With `rest` left of `code` and `st` stacked, the commands left give what all commands give.
  pub record Turn (code rest : List ℕ) (st : List V) : Type 0 where
    pub fuel : ℕ
    pub enough : length rest ≤ fuel
    pub within : length rest ≤ length code
    pub same : run M look (commands_of code) [] ≡ run M look (listing fuel (length code) rest) st

  -- Taking the first command and running the others is running all.
  run_taken : (more : List ℕ → List Placed) (p : ℕ) (o : Option (Command × List ℕ)) (st : List V) →
      run M look (listed more p o) st ≡ and_then (taken M look p o st) (λ q. run M look (more q.1) q.0)
  run_taken more p o st = grind (arith, common_steps)

  -- The commands left, of which there is at least one.
  left_first : (fuel e : ℕ) (rest : List ℕ) (st : List V) → 0 < length rest → length rest ≤ fuel →
      (n : ℕ) × (length rest ≤ suc n) × (run M look (listing fuel e rest) st ≡ and_then (taken M look (e - length rest) (next_command rest) st) (λ q. run M look (listing n e q.1) q.0))
  left_first zero e rest st h k = absurd (omega arith)
  left_first (suc n) e [] st h k = absurd (omega arith)
  left_first (suc n) e (b ∷ bs) st h k = (n, k, run_taken (listing n e) (e - length (b ∷ bs)) (next_command (b ∷ bs)) st)

  -- One turn more.
  pub next_turn : (code rest rest' : List ℕ) (st st' : List V) → Turn code rest st → length rest' < length rest →
      Ok (st', rest') ≡ taken M look (length code - length rest) (next_command rest) st → Turn code rest' st'
  next_turn code rest rest' st st' t shorter e =
      let f = left_first t.fuel (length code) rest st (omega arith) t.enough in
      let long = f.1 in let w = t.within in
      record {
        fuel = f.0;
        enough = omega arith;
        within = omega arith;
        same = t.same ∙ f.2 ∙ ap (λ r. and_then r (λ (q : List V × List ℕ). run M look (listing f.0 (length code) q.1) q.0)) (sym e);
      }

  -- A turn that is refused refuses the whole.
  pub refused_turn : (code rest : List ℕ) (st : List V) (r : Refusal) → Turn code rest st → 0 < length rest →
      Err r ≡ taken M look (length code - length rest) (next_command rest) st → run M look (commands_of code) [] ≡ Err r
  refused_turn code rest st r t some e =
      let f = left_first t.fuel (length code) rest st some t.enough in
      t.same ∙ f.2 ∙ ap (λ q. and_then q (λ (q : List V × List ℕ). run M look (listing f.0 (length code) q.1) q.0)) (sym e)
