-- Statements by the table of forms: their bytes and their counts.
use Rattle.std.proofs.Common.{◌≡◌, ℕ, zero, suc, ◌+◌, ◌%◌, ◌≤◌, true, false, eqb, ltb, leb, List, [], ◌∷◌, ◌++◌, length, Some, sym, refl, ap, append_assoc, arith}
use Rattle.std.proofs.lemmas.Bool.{ltb-true}
use Rattle.evaluator.specs.Commands.{written}
use Rattle.rules.specs.Encoding.{form_byte, two_bytes, flags, statement_bytes, block_bytes}
use Rattle.rules.specs.Forms.{forms, has_byte, has_expression, has_block, has_second_block, par_count, flags_known, build}
use Rattle.rules.specs.Outcomes.{numbered}
use Rattle.rules.specs.Reading.{Parts}
use Rattle.rules.specs.Text.{Expression, Stmt, nothing, assign, pause, branch, loop, par, abort, Block, end, count_of, count, pars_of, pars}
use Rattle.rules.specs.declared.program.Form.{Form}
use Rattle.rules.specs.declared.program.Form.TheVariants.{Nothing, Set, Pause, If, Loop, Par, Abort}
use Rattle.loading.proofs.Parts.{joined, Fitting}

-- Each form is found by its byte.
pub form_back : (k : Form) → numbered form_byte forms (form_byte k) ≡ Some k
form_back Nothing = refl
form_back Set = refl
form_back Pause = refl
form_back If = refl
form_back Loop = refl
form_back Par = refl
form_back Abort = refl

-- Flags that are known are those of the two bits in them.
flags_from : (o : ℕ) → ltb o 4 ≡ true → flags (eqb (o % 2) 1) (leb 2 o) ≡ o
flags_from zero h = refl
flags_from (suc zero) h = refl
flags_from (suc (suc zero)) h = refl
flags_from (suc (suc (suc zero))) h = refl
flags_from (suc (suc (suc (suc o)))) h = absurd (let l = ltb-true _ _ h in omega arith)

module _ (o : ℕ) (e : Expression) (X Y : Block (Unit {0})) where
  -- The parts of a statement, and what follows it.
  abbrev pub parts_of : List ℕ → Parts
  parts_of after = record { byte = o; code = written e; first = block_bytes X; second = block_bytes Y; after = after }

  -- A statement has nothing but what its form has.
  pub record Shaped (k : Form) : Type 0 where
    pub no_byte : has_byte k ≡ false → o ≡ 0
    pub no_code : has_expression k ≡ false → e ≡ []
    pub no_block : has_block k ≡ false → X ≡ end
    pub no_second : has_second_block k ≡ false → Y ≡ end

  -- The parts of such a statement are those of its form.
  pub fitting : (k : Form) (after : List ℕ) → Shaped k → Fitting k (parts_of after)
  fitting k after h = record { no_byte = h.no_byte; no_code = λ z. ap written (h.no_code z); no_block = λ z. ap block_bytes (h.no_block z); no_second = λ z. ap block_bytes (h.no_second z) }

  -- A statement's bytes are its command byte and its parts.
  pub bytes_by_form : (k : Form) (after : List ℕ) → Shaped k → flags_known k o ≡ true → statement_bytes (build k o e X Y) ++ after ≡ form_byte k ∷ joined k (parts_of after)
  bytes_by_form Nothing after h f = λ i. 0 ∷ (block_bytes (sym (h.no_block refl) i) ++ (block_bytes (sym (h.no_second refl) i) ++ after))
  bytes_by_form Set after h f = λ i. 1 ∷ o ∷ length (written e) ∷ (written e ++ (block_bytes (sym (h.no_block refl) i) ++ (block_bytes (sym (h.no_second refl) i) ++ after)))
  bytes_by_form Pause after h f = λ i. 2 ∷ (block_bytes (sym (h.no_block refl) i) ++ (block_bytes (sym (h.no_second refl) i) ++ after))
  bytes_by_form If after h f = simp append_assoc
  bytes_by_form Loop after h f = simp append_assoc (λ i. 4 ∷ o ∷ length (written e) ∷ (written e ++ (two_bytes (length (block_bytes X)) ++ (block_bytes X ++ (block_bytes (sym (h.no_second refl) i) ++ after)))))
  bytes_by_form Par after h f = simp append_assoc
  bytes_by_form Abort after h f = simp append_assoc (λ i. 6 ∷ flags_from o f i ∷ length (written e) ∷ (written e ++ (two_bytes (length (block_bytes X)) ++ (block_bytes X ++ (block_bytes (sym (h.no_second refl) i) ++ after)))))

  -- A statement counts one more than its blocks, and its pars those of its form and of its blocks.
  pub counted : (k : Form) → Shaped k → (count_of (build k o e X Y) ≡ 1 + (count X + count Y)) × (pars_of (build k o e X Y) ≡ par_count k + (pars X + pars Y))
  counted Nothing h = let x = ap count (h.no_block refl) in let y = ap count (h.no_second refl) in let v = ap pars (h.no_block refl) in let w = ap pars (h.no_second refl) in (omega arith, omega arith)
  counted Set h = let x = ap count (h.no_block refl) in let y = ap count (h.no_second refl) in let v = ap pars (h.no_block refl) in let w = ap pars (h.no_second refl) in (omega arith, omega arith)
  counted Pause h = let x = ap count (h.no_block refl) in let y = ap count (h.no_second refl) in let v = ap pars (h.no_block refl) in let w = ap pars (h.no_second refl) in (omega arith, omega arith)
  counted If h = (refl, omega arith)
  counted Loop h = let y = ap count (h.no_second refl) in let w = ap pars (h.no_second refl) in (omega arith, omega arith)
  counted Par h = (refl, refl)
  counted Abort h = let y = ap count (h.no_second refl) in let w = ap pars (h.no_second refl) in (omega arith, omega arith)

-- Each statement has bytes.
pub some_bytes : (s : Stmt (Unit {0})) → 1 ≤ length (statement_bytes s)
some_bytes (nothing a) = omega arith
some_bytes (assign a v e) = omega arith
some_bytes (pause a) = omega arith
some_bytes (branch a e X Y) = omega arith
some_bytes (loop a n e X) = omega arith
some_bytes (par a X Y) = omega arith
some_bytes (abort a w i e X) = omega arith
