-- The commands of an expression, as the code takes them one by one.
use Rattle.std.proofs.Common.{◌≡◌, ℕ, zero, suc, ◌+◌, ◌-◌, ◌<◌, ◌≤◌, List, [], ◌∷◌, length, get_or, Ok, Err, Option, Result, sym, refl, ap, ◌∙◌, arith}
use Rattle.std.proofs.lemmas.Bool.{le-leb, and_from}
use Rattle.std.proofs.lemmas.Grind.{common_steps}
use Rattle.evaluator.specs.Commands.{Command, Placed, next_command, listed, listing, commands_of}
use Rattle.evaluator.specs.Evaluating.{longest}
use Rattle.evaluator.specs.Outcomes.{mapped}
use Rattle.rules.specs.Outcomes.{◌>>=◌, ensure}
use Rattle.rules.specs.Reading.{checked, read_expression}
use Rattle.rules.specs.declared.faults.StatementFault.{StatementFault}
use Rattle.rules.specs.declared.faults.StatementFault.TheVariants.{BadExpression}
use Rattle.rules.specs.declared.program.Variable.{Variable}
use Rattle.reader.specs.Steps.{one_command, unit}

-- What no command's arm takes is refused.
pub refused_first : (ds : List Variable) (t p d : ℕ) (bs : List ℕ) → (get_or bs 0 0 ≡ 0x40 → 5 ≤ length bs → 16 ≤ d) → (get_or bs 0 0 ≡ 0x41 → 2 ≤ length bs → 16 ≤ d) → (0x42 ≤ get_or bs 0 0 → get_or bs 0 0 ≤ 0x48 → 1 ≤ length bs → d < 2) → (get_or bs 0 0 ≡ 0x49 → 1 ≤ length bs → d < 1)
    → ◌≡◌ {A = Result (ℕ × List ℕ) StatementFault} (Err (BadExpression p)) (one_command ds t p d (next_command bs))
refused_first ds t p d [] h40 h41 h42 h49 = refl
refused_first ds t p d (b ∷ bs) h40 h41 h42 h49 = grind (arith, common_steps)

module _ (ds : List Variable) (t origin at : ℕ) where
  -- One command and then the others.
  abbrev on : (List ℕ → List Placed) → Result (ℕ × List ℕ) StatementFault → Result (Unit {0}) StatementFault
  on more r = r >>= (λ q. mapped unit (checked ds t origin at q.0 (more q.1)))

  -- Checking what is listed is taking the first command and checking the others.
  by_steps : (more : List ℕ → List Placed) (p d : ℕ) (o : Option (Command × List ℕ)) → mapped unit (checked ds t origin at d (listed more p o)) ≡ on more (one_command ds t (origin + p) d o)
  by_steps more p d o = grind (arith, common_steps)

  -- With `left` left of `code` and d values stacked, checking what is left answers what checking all does.
  pub record CheckedTo (code left : List ℕ) (d : ℕ) : Type 0 where
    pub fuel : ℕ
    pub enough : length left ≤ fuel
    pub few : d ≤ 16
    pub within : length left ≤ length code
    pub same : mapped unit (read_expression ds t origin at code) ≡ mapped unit (checked ds t origin at d (listing fuel (length code) left))

  pub begun : (code : List ℕ) → 1 ≤ length code → length code ≤ 64 → CheckedTo code code 0
  begun code some few = record {
    fuel = length code;
    enough = omega arith;
    few = omega arith;
    within = omega arith;
    same = ap (λ b. mapped unit (ensure b (BadExpression at) >>= (λ _. checked ds t origin at 0 (commands_of code)))) (and_from _ _ (le-leb 1 (length code) some) (le-leb (length code) longest few));
  }

  -- The commands left, of which there is at least one.
  left_first : (fuel e d : ℕ) (left : List ℕ) → 0 < length left → length left ≤ fuel →
      (n : ℕ) × (length left ≤ suc n) × (mapped unit (checked ds t origin at d (listing fuel e left)) ≡ on (listing n e) (one_command ds t (origin + (e - length left)) d (next_command left)))
  left_first zero e d left some enough = absurd (omega arith)
  left_first (suc n) e d [] some enough = absurd (omega arith)
  left_first (suc n) e d (b ∷ bs) some enough = (n, enough, by_steps (listing n e) (e - length (b ∷ bs)) d (next_command (b ∷ bs)))

  pub one_more : (code left after : List ℕ) (d d' : ℕ) → CheckedTo code left d → 0 < length left → Ok (d', after) ≡ one_command ds t (origin + (length code - length left)) d (next_command left) → length after < length left → d' ≤ 16 → CheckedTo code after d'
  one_more code left after d d' so some is short few =
      let f = left_first so.fuel (length code) d left some so.enough in
      let long = f.1 in let w = so.within in
      record { fuel = f.0; enough = omega arith; few = few; within = omega arith; same = so.same ∙ f.2 ∙ ap (on (listing f.0 (length code))) (sym is) }

  pub stopped : (code left : List ℕ) (d : ℕ) (g : StatementFault) → CheckedTo code left d → 0 < length left → Err g ≡ one_command ds t (origin + (length code - length left)) d (next_command left) → Err g ≡ mapped unit (read_expression ds t origin at code)
  stopped code left d g so some is =
      let f = left_first so.fuel (length code) d left some so.enough in
      sym (so.same ∙ f.2 ∙ ap (on (listing f.0 (length code))) (sym is))
