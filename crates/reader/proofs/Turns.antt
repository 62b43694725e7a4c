-- A block by its statements, as the code reads them one by one.
use Rattle.std.proofs.Common.{◌≡◌, ℕ, zero, suc, ◌^◌, ◌<◌, ◌≤◌, false, List, ◌∷◌, length, Ok, Err, Result, sym, refl, ap, ◌∙◌, subst, arith}
use Rattle.std.proofs.lemmas.Grind.{common_steps}
use Rattle.evaluator.specs.Outcomes.{mapped}
use Rattle.rules.specs.Outcomes.{◌>>=◌}
use Rattle.rules.specs.Reading.{Counts, after_statement, read_statement, read_statements, read_block}
use Rattle.rules.specs.Text.{Stmt, Block, ◌then◌}
use Rattle.rules.specs.declared.faults.LoadFault.{LoadFault}
use Rattle.rules.specs.declared.program.Variable.{Variable}
use Rattle.reader.specs.declared.extents.Extent.{Extent}
use Rattle.reader.specs.declared.checker.Checker.{Checker}
use Rattle.reader.specs.declared.reader.Reader.{Reader}
use Rattle.reader.specs.declared.scope.Scope.{Scope}
use Rattle.reader.specs.Counting.{counted}
use Rattle.reader.specs.Readers.{left_of, end_of}
use Rattle.reader.specs.Extents.{extent, extent_of, joined}
use Rattle.reader.specs.Told.{after_block, sum_block, sum_statement}
use Rattle.rules.proofs.Results.{goes_on}
use Rattle.reader.proofs.Mapped.{mapped_ok, mapped_err}
use Rattle.reader.proofs.Extending.{joins, joins_none}

past_then : (s : Stmt (Unit {0})) (B : Block (Unit {0})) (a : Counts) → after_block (s then B) a ≡ after_block B (after_statement s a)
past_then s B a = grind (arith, common_steps)

module _ (ds : List Variable) (n t e : ℕ) where
  -- What a block adds to what was read before it.
  abbrev and_then : Extent → Counts → Block (Unit {0}) → Extent × Counts
  and_then x a B = (joined x (extent B), after_block B a)

  -- The summary of the whole block.
  abbrev whole_block : List ℕ → Counts → Result (Extent × Counts) LoadFault
  whole_block whole a₀ = mapped (sum_block a₀) (read_block ds (suc n) t a₀ e whole)

  -- The summary of the statement that begins with c.
  abbrev first_of : Counts → ℕ → List ℕ → Result (Extent × Counts × List ℕ) LoadFault
  first_of a c bs = mapped (sum_statement a) (read_statement ds n (read_block ds n) t a e c bs)

  -- With `left` left of `whole` after an extent x and counts a, reading what is left answers what reading the whole does.
  pub record ReadTo (whole : List ℕ) (a₀ : Counts) (left : List ℕ) (x : Extent) (a : Counts) : Type 0 where
    pub fuel : ℕ
    pub enough : length left ≤ fuel
    pub within : length left ≤ length whole
    pub same : whole_block whole a₀ ≡ mapped (and_then x a) (read_statements ds n (read_block ds n) t fuel a e left)

  pub begun : (whole : List ℕ) (a : Counts) (x : Extent) → x ≡ record { length = 0; pauses = false } → ReadTo whole a whole x a
  begun whole a x none = record {
    fuel = length whole;
    enough = omega arith;
    within = omega arith;
    same = λ i. mapped (λ B. ((sym (joins_none B) ∙ ap (λ z. joined z (extent B)) (sym none)) i, after_block B a)) (read_block ds (suc n) t a e whole);
  }

  step : (s : Stmt (Unit {0})) (x : Extent) (a : Counts) (r : Result (Block (Unit {0})) LoadFault) → mapped (and_then x a) (r >>= (λ B. Ok (s then B))) ≡ mapped (and_then (joined x (extent_of s)) (after_statement s a)) r
  step s x a (Ok B) = λ i. Ok (joins x s B i, past_then s B a i)
  step s x a (Err g) = refl

  one_more : (whole : List ℕ) (a₀ : Counts) (c : ℕ) (bs after : List ℕ) (x y : Extent) (a b : Counts) → ReadTo whole a₀ (c ∷ bs) x a → Ok (y, b, after) ≡ first_of a c bs → length after ≤ length bs → ReadTo whole a₀ after (joined x y) b
  one_more whole a₀ c bs after x y a b so is short = go so.fuel so.enough so.same where
    go : (f : ℕ) → length (c ∷ bs) ≤ f → whole_block whole a₀ ≡ mapped (and_then x a) (read_statements ds n (read_block ds n) t f a e (c ∷ bs)) → ReadTo whole a₀ after (joined x y) b
    go zero le same = absurd (omega arith)
    go (suc f) le same =
        let k = mapped_ok (sum_statement a) (read_statement ds n (read_block ds n) t a e c bs) (y, b, after) is in
        let s = k.0.0 in
        let P : Extent × Counts × List ℕ → Type 0 = λ q. length q.2 ≤ length bs → ReadTo whole a₀ q.2 (joined x q.0) q.1 in
        subst P {x = sum_statement a k.0} k.2 (λ sh. record {
          fuel = f;
          enough = omega arith;
          within = let w = so.within in omega arith;
          same = same ∙ ap (mapped (and_then x a)) (goes_on _ k.1 refl) ∙ step s x a (read_statements ds n (read_block ds n) t f (after_statement s a) e k.0.1);
        }) short

  stopped : (whole : List ℕ) (a₀ : Counts) (c : ℕ) (bs : List ℕ) (x : Extent) (a : Counts) (g : LoadFault) → ReadTo whole a₀ (c ∷ bs) x a → Err g ≡ first_of a c bs → Err g ≡ whole_block whole a₀
  stopped whole a₀ c bs x a g so is = go so.fuel so.enough so.same where
    go : (f : ℕ) → length (c ∷ bs) ≤ f → whole_block whole a₀ ≡ mapped (and_then x a) (read_statements ds n (read_block ds n) t f a e (c ∷ bs)) → Err g ≡ whole_block whole a₀
    go zero le same = absurd (omega arith)
    go (suc f) le same = sym (same ∙ ap (λ r. mapped (and_then x a) (r >>= (λ s. read_statements ds n (read_block ds n) t f (after_statement s.0 a) e s.1 >>= (λ B. Ok (s.0 then B))))) (mapped_err (sum_statement a) _ g is))

-- Extents that were joined fit 32 bits.
pub joined_fits : (x y z : Extent) → z ≡ joined x y → z.length < 2 ^ 32
joined_fits x y z e = let h = ap (λ (q : Extent). q.length) e in omega arith

-- Checker, scope and reader as they are with part of a block read, of the extent x; the first three are those before the block.
pub record ReadOn (C : Checker) (s : Scope) (W : Reader) (D : Checker) (r : Scope) (V : Reader) (x : Extent) : Type 0 where
  pub so_far : ReadTo C.variables.now s.nesting s.thread (end_of W) (left_of W) (counted C.counts) (left_of V) x (counted D.counts)
  pub fits : x.length < 2 ^ 32
  pub variables : D.variables.now ≡ C.variables.now
  pub scope : r ≡ s
  pub end : end_of V ≡ end_of W

pub begun_at : (C : Checker) (s : Scope) (W : Reader) (x : Extent) → x ≡ record { length = 0; pauses = false } → ReadOn C s W C s W x
begun_at C s W x none = record {
  so_far = begun C.variables.now s.nesting s.thread (end_of W) (left_of W) (counted C.counts) x none;
  fits = (let h = ap (λ (q : Extent). q.length) none in omega arith);
  variables = refl;
  scope = refl;
  end = refl;
}

-- After the command c of the next statement, the reader is U.
module _ (C : Checker) (s : Scope) (W : Reader) (D : Checker) (r : Scope) (V : Reader) (x : Extent) (on : ReadOn C s W D r V x) (c : ℕ) (U : Reader) (cut : left_of V ≡ c ∷ left_of U) (end : end_of U ≡ end_of V) where
  -- The summary of that statement, as the code reads it.
  abbrev statement : Result (Extent × Counts × List ℕ) LoadFault
  statement = first_of D.variables.now r.nesting r.thread (end_of U) (counted D.counts) c (left_of U)

  statement_is : statement ≡ first_of C.variables.now s.nesting s.thread (end_of W) (counted D.counts) c (left_of U)
  statement_is = λ i. first_of (on.variables i) (on.scope i).nesting (on.scope i).thread ((end ∙ on.end) i) (counted D.counts) c (left_of U)

  so : ReadTo C.variables.now s.nesting s.thread (end_of W) (left_of W) (counted C.counts) (c ∷ left_of U) x (counted D.counts)
  so = subst (λ l. ReadTo C.variables.now s.nesting s.thread (end_of W) (left_of W) (counted C.counts) l x (counted D.counts)) cut on.so_far

  pub one_more_at : (E : Checker) (q : Scope) (T : Reader) (y z : Extent) → Ok (y, counted E.counts, left_of T) ≡ statement → length (left_of T) ≤ length (left_of U) → end_of T ≡ end_of U → E.variables.now ≡ D.variables.now → q ≡ r → z ≡ joined x y → ReadOn C s W E q T z
  one_more_at E q T y z one short ends variables scope extent = record {
    so_far = subst (λ w. ReadTo C.variables.now s.nesting s.thread (end_of W) (left_of W) (counted C.counts) (left_of T) w (counted E.counts)) (sym extent) (one_more C.variables.now s.nesting s.thread (end_of W) (left_of W) (counted C.counts) c (left_of U) (left_of T) x y (counted D.counts) (counted E.counts) so (one ∙ statement_is) short);
    fits = joined_fits x y z extent;
    variables = variables ∙ on.variables;
    scope = scope ∙ on.scope;
    end = ends ∙ end ∙ on.end;
  }

  pub stopped_at : (g : LoadFault) → Err g ≡ statement → Err g ≡ whole_block C.variables.now s.nesting s.thread (end_of W) (left_of W) (counted C.counts)
  stopped_at g one = stopped C.variables.now s.nesting s.thread (end_of W) (left_of W) (counted C.counts) c (left_of U) x (counted D.counts) g so (one ∙ statement_is)
