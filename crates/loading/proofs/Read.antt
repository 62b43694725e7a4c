-- Statements and blocks: what is read was written, and keeps the rules.
use Rattle.std.proofs.Common.{◌≡◌, ℕ, zero, suc, ◌+◌, ◌-◌, ◌<◌, ◌≤◌, Bool, true, false, not, ◌||◌, ltb, List, [], ◌∷◌, ◌++◌, length, Ok, sym, refl, ap, ◌∙◌, subst, arith, length-append}
use Rattle.std.proofs.lemmas.Bool.{leb-true, ltb-true, and_parts}
use Rattle.evaluator.specs.Commands.{written}
use Rattle.evaluator.proofs.Reading.{Bytes}
use Rattle.rules.specs.Encoding.{form_byte, statement_bytes, block_bytes}
use Rattle.rules.specs.Forms.{forms, has_expression, has_block, has_second_block, par_count, flags_known, build}
use Rattle.rules.specs.Outcomes.{refused_as, numbered}
use Rattle.rules.specs.Reading.{most_statements, most_pars, parts_in, place_of_code, Counts, after_statement, before_first, before_second, block_thread, within_limits, set_right, expression_of, Head, Reads, read_head, read_statement, read_statements, read_block}
use Rattle.rules.specs.Text.{Expression, Stmt, Block, end, count_of, count, pars_of, pars, depth, inner_depth}
use Rattle.rules.specs.Valid.{RightExpression, RightStatement, RightBlock}
use Rattle.rules.specs.declared.program.Form.{Form}
use Rattle.rules.specs.declared.program.Form.TheVariants.{Nothing, Set, Pause, If, Loop, Par, Abort}
use Rattle.rules.specs.declared.program.Variable.{Variable}
use Rattle.rules.proofs.Results.{ok_then, some_then, ensure_then, lower_ok, same_ok, has_number}
use Rattle.loading.proofs.Expressions.{expression_from}
use Rattle.loading.proofs.Parts.{no_way, no_way', joined, Parted, parts_from}
use Rattle.loading.proofs.Shapes.{Shaped, bytes_by_form, counted, some_bytes}

---------------------------------------------------------------------- a statement before its blocks

-- An expression that is read where the form has one is right, and was written so; elsewhere there is none.
expression_of_from : (ds : List Variable) (t from at : ℕ) (b : Bool) (bs : List ℕ) (e : Expression) → Bytes bs → (b ≡ false → bs ≡ []) → expression_of ds t from at b bs ≡ Ok e → (b ≡ false → e ≡ []) × (b ≡ true → RightExpression ds t e) × (written e ≡ bs)
expression_of_from ds t from at false bs e h none r = let is = same_ok r in (λ _. sym is, no_way, ap written (sym is) ∙ sym (none refl))
expression_of_from ds t from at true bs e h none r = let f = expression_from ds t from at bs e h r in (no_way', λ _. f.0, f.1)

-- What the test of limits tells.
limits_from : (n : ℕ) (k : Form) (a : Counts) → within_limits n k a ≡ true → (a.statements < most_statements) × (a.pars + par_count k ≤ most_pars) × (has_block k ≡ true → 0 < n)
limits_from n k a h =
    let u = and_parts _ _ h in let v = and_parts _ _ u.1 in
    (ltb-true _ _ u.0, leb-true _ _ v.0, room (has_block k) v.1) where
      room : (b : Bool) → (not b || ltb 0 n) ≡ true → b ≡ true → 0 < n
      room true e r = ltb-true 0 n e
      room false e r = no_way r

module _ (ds : List Variable) (n t : ℕ) (a : Counts) (p c : ℕ) (bs : List ℕ) where
  -- What reading tells of a statement before its blocks.
  record Headed (h : Head) : Type 0 where
    known : form_byte h.form ≡ c
    limited : (a.statements < most_statements) × (a.pars + par_count h.form ≤ most_pars) × (has_block h.form ≡ true → 0 < n)
    parted : Parted h.form bs h.parts
    flagged : flags_known h.form h.parts.byte ≡ true
    named : set_right ds t h.form h.parts.byte ≡ true
    no_code : has_expression h.form ≡ false → h.expression ≡ []
    right : has_expression h.form ≡ true → RightExpression ds t h.expression
    code : written h.expression ≡ h.parts.code

  -- A statement before its blocks that is read tells this.
  head_from : (h : Head) → Bytes bs → read_head ds n t a p c bs ≡ Ok h → Headed h
  head_from h bytes z =
      let z0 = some_then (numbered form_byte forms c) _ _ h z in
      let k = z0.0 in
      let z1 = ensure_then (within_limits n k a) _ _ h z0.2 in
      let z2 = ok_then (refused_as _ (parts_in p k bs)) _ h z1.1 in
      let o = z2.0 in
      let z3 = ensure_then (flags_known k o.byte) _ _ h z2.2 in
      let z4 = ensure_then (set_right ds t k o.byte) _ _ h z3.1 in
      let z5 = ok_then (expression_of ds t (place_of_code k p) p (has_expression k) o.code) _ h z4.1 in
      let parted = parts_from p k bs o bytes (lower_ok _ (parts_in p k bs) o z2.1) in
      let e = expression_of_from ds t (place_of_code k p) p (has_expression k) o.code z5.0 parted.code_bytes parted.fitting.no_code z5.1 in
      subst Headed {x = record { form = k; parts = o; expression = z5.0 }} (same_ok z5.2) (record {
        known = has_number form_byte forms c k z0.1;
        limited = limits_from n k a z1.0;
        parted = parted;
        flagged = z3.0;
        named = z4.0;
        no_code = e.0;
        right = e.1;
        code = e.2;
      })

---------------------------------------------------------------------- a statement with its blocks

-- What reading tells of a block of thread t after the counts a, with n nested blocks allowed.
pub record Came (ds : List Variable) (n t : ℕ) (a : Counts) (bs : List ℕ) (B : Block (Unit {0})) : Type 0 where
  pub same : block_bytes B ≡ bs
  pub few : a.statements + count B ≤ most_statements
  pub few_pars : a.pars + pars B ≤ most_pars
  pub shallow : depth B ≤ n
  pub right : RightBlock ds t a.threads B

-- What is known of how inner blocks are read.
record Deeper (ds : List Variable) (n : ℕ) (deeper : Reads) : Type 0 where
  of_none : (t : ℕ) (a : Counts) (z : ℕ) → deeper t a z [] ≡ Ok end
  of_some : (t : ℕ) (a : Counts) (z : ℕ) (bs : List ℕ) (B : Block (Unit {0})) → 0 < n → Bytes bs → a.statements ≤ most_statements → a.pars ≤ most_pars → deeper t a z bs ≡ Ok B → Came ds n t a bs B

-- What reading tells of an inner block, or of none where the form has none.
record Inner (ds : List Variable) (n : ℕ) (b : Bool) (t : ℕ) (a : Counts) (bs : List ℕ) (B : Block (Unit {0})) : Type 0 where
  same : block_bytes B ≡ bs
  few : a.statements + count B ≤ most_statements
  few_pars : a.pars + pars B ≤ most_pars
  none : b ≡ false → B ≡ end
  shallow : b ≡ true → depth B ≤ n
  right : b ≡ true → RightBlock ds t a.threads B

-- An inner block that is read tells this.
inner_from : (ds : List Variable) (n : ℕ) (deeper : Reads) (b : Bool) (t : ℕ) (a : Counts) (z : ℕ) (bs : List ℕ) (B : Block (Unit {0})) → Deeper ds n deeper → (b ≡ true → 0 < n) → (b ≡ false → bs ≡ []) → Bytes bs → a.statements ≤ most_statements → a.pars ≤ most_pars → deeper t a z bs ≡ Ok B → Inner ds n b t a bs B
inner_from ds n deeper true t a z bs B D some none h p q r =
    let c = D.of_some t a z bs B (some refl) h p q r in
    record { same = c.same; few = c.few; few_pars = c.few_pars; none = no_way'; shallow = λ _. c.shallow; right = λ _. c.right }
inner_from ds n deeper false t a z bs B D some none h p q r =
    let is : end ≡ B = same_ok (sym (D.of_none t a z) ∙ ap (deeper t a z) (sym (none refl)) ∙ r) in
    record {
      same = ap block_bytes (sym is) ∙ sym (none refl);
      few = subst (λ C. a.statements + count C ≤ most_statements) is (omega arith);
      few_pars = subst (λ C. a.pars + pars C ≤ most_pars) is (omega arith);
      none = λ _. sym is;
      shallow = no_way;
      right = no_way;
    }

-- What reading tells of a statement and of the bytes after it.
record CameFirst (ds : List Variable) (n t : ℕ) (a : Counts) (c : ℕ) (bs : List ℕ) (s : Stmt (Unit {0})) (after : List ℕ) : Type 0 where
  same : statement_bytes s ++ after ≡ c ∷ bs
  bytes : Bytes after
  few : a.statements + count_of s ≤ most_statements
  few_pars : a.pars + pars_of s ≤ most_pars
  shallow : inner_depth s ≤ n
  right : RightStatement ds t a.threads s

-- A block that is right is so for an equal thread and an equal number of the next arm.
at : (ds : List Variable) (t t' u u' : ℕ) (B : Block (Unit {0})) → t ≡ t' → u ≡ u' → RightBlock ds t u B → RightBlock ds t' u' B
at ds t t' u u' B p q h = subst (λ k. RightBlock ds k u' B) p (subst (λ k. RightBlock ds t k B) q h)

-- A form that has a second block has a first.
second_has_first : (k : Form) → has_second_block k ≡ true → has_block k ≡ true
second_has_first Nothing e = e
second_has_first Set e = e
second_has_first Pause e = e
second_has_first If e = refl
second_has_first Loop e = refl
second_has_first Par e = refl
second_has_first Abort e = refl

module _ (ds : List Variable) (n t : ℕ) (a : Counts) (X Y : Block (Unit {0})) where
  -- What is known of the first and of the second block of a statement.
  abbrev First : Form → List ℕ → Type 0
  First k bs = Inner ds n (has_block k) (block_thread k t (before_first k a).threads) (before_first k a) bs X

  abbrev Second : Form → List ℕ → Type 0
  Second k bs = Inner ds n (has_second_block k) (block_thread k t (before_second k X a).threads) (before_second k X a) bs Y

  module _ (o : ℕ) (e : Expression) (bs cs : List ℕ) where
    -- The statement is no deeper than its blocks may be.
    shallow_by_form : (k : Form) → First k bs → Second k cs → inner_depth (build k o e X Y) ≤ n
    shallow_by_form Nothing f g = omega arith
    shallow_by_form Set f g = omega arith
    shallow_by_form Pause f g = omega arith
    shallow_by_form If f g = let p = f.shallow refl in let q = g.shallow refl in omega arith
    shallow_by_form Loop f g = f.shallow refl
    shallow_by_form Par f g = let p = f.shallow refl in let q = g.shallow refl in omega arith
    shallow_by_form Abort f g = f.shallow refl

    -- The statement is right if its byte, its expression and its blocks are.
    right_by_form : (k : Form) → o < 256 → set_right ds t k o ≡ true → (has_expression k ≡ true → RightExpression ds t e) → First k bs → Second k cs → RightStatement ds t a.threads (build k o e X Y)
    right_by_form Nothing s v r f g = tt
    right_by_form Set s v r f g = (v, r refl)
    right_by_form Pause s v r f g = tt
    right_by_form If s v r f g = (r refl, at ds t t _ _ X refl (omega arith) (f.right refl), at ds t t _ _ Y refl (omega arith) (g.right refl))
    right_by_form Loop s v r f g = (s, r refl, at ds t t _ _ X refl (omega arith) (f.right refl))
    right_by_form Par s v r f g = (at ds _ _ _ _ X (omega arith) refl (f.right refl), at ds _ _ _ _ Y (omega arith) (omega arith) (g.right refl))
    right_by_form Abort s v r f g = (r refl, at ds t t _ _ X refl (omega arith) (f.right refl))

  -- From what is known of a statement before its blocks, and of its blocks.
  concluded : (p c : ℕ) (bs : List ℕ) (h : Head) → Headed ds n t a p c bs h → First h.form h.parts.first → Second h.form h.parts.second →
      CameFirst ds n t a c bs (build h.form h.parts.byte h.expression X Y) h.parts.after
  concluded p c bs h H X' Y' =
      let k = h.form in let o = h.parts in let e = h.expression in
      let shaped : Shaped o.byte e X Y k = record { no_byte = H.parted.fitting.no_byte; no_code = H.no_code; no_block = X'.none; no_second = Y'.none } in
      let few : a.statements + 1 + count X + count Y ≤ most_statements = Y'.few in
      let few_pars : a.pars + par_count k + pars X + pars Y ≤ most_pars = Y'.few_pars in
      let counts = counted o.byte e X Y k shaped in
      record {
        same =
            bytes_by_form o.byte e X Y k o.after shaped H.flagged
            ∙ (λ i. H.known i ∷ joined k (record { byte = o.byte; code = H.code i; first = X'.same i; second = Y'.same i; after = o.after }))
            ∙ ap (λ l. c ∷ l) H.parted.same;
        bytes = H.parted.after_bytes;
        few = omega arith;
        few_pars = omega arith;
        shallow = shallow_by_form o.byte e o.first o.second k X' Y';
        right = right_by_form o.byte e o.first o.second k H.parted.byte_small H.named H.right X' Y';
      }

module _ (ds : List Variable) (n : ℕ) (deeper : Reads) (D : Deeper ds n deeper) (t : ℕ) where
  -- A statement that is read was written so, and keeps the rules.
  statement_from : (a : Counts) (z c : ℕ) (bs : List ℕ) (r : Stmt (Unit {0}) × List ℕ) → Bytes bs → read_statement ds n deeper t a z c bs ≡ Ok r → CameFirst ds n t a c bs r.0 r.1
  statement_from a z c bs r bytes y =
      let p = z - suc (length bs) in
      let y0 = ok_then (refused_as _ (read_head ds n t a p c bs)) _ r y in
      let h = y0.0 in
      let H = head_from ds n t a p c bs h bytes (lower_ok _ (read_head ds n t a p c bs) h y0.1) in
      let k = h.form in let o = h.parts in
      let lt : a.statements < most_statements = H.limited.0 in
      let one : a.statements + 1 ≤ most_statements = omega arith in
      let y1 = ok_then (deeper (block_thread k t (before_first k a).threads) (before_first k a) (z - length o.after - length o.second) o.first) _ r y0.2 in
      let X = y1.0 in
      let X' = inner_from ds n deeper (has_block k) (block_thread k t (before_first k a).threads) (before_first k a) _ o.first X D H.limited.2 H.parted.fitting.no_block H.parted.first_bytes one H.limited.1 y1.1 in
      let y2 = ok_then (deeper (block_thread k t (before_second k X a).threads) (before_second k X a) (z - length o.after) o.second) _ r y1.2 in
      let Y = y2.0 in
      let Y' = inner_from ds n deeper (has_second_block k) (block_thread k t (before_second k X a).threads) (before_second k X a) _ o.second Y D (λ q. H.limited.2 (second_has_first k q)) H.parted.fitting.no_second H.parted.second_bytes X'.few X'.few_pars y2.1 in
      let P : Stmt (Unit {0}) × List ℕ → Type 0 = λ q. CameFirst ds n t a c bs q.0 q.1 in
      subst P (same_ok y2.2) (concluded ds n t a X Y p c bs h H X' Y')

  -- Statements that are read to the end of a block were written so, and keep the rules.
  statements_from : (f : ℕ) (a : Counts) (z : ℕ) (bs : List ℕ) (B : Block (Unit {0})) → Bytes bs → length bs ≤ f → a.statements ≤ most_statements → a.pars ≤ most_pars → read_statements ds n deeper t f a z bs ≡ Ok B → Came ds (suc n) t a bs B
  statements_from f a z [] B h long p q r = subst (Came ds (suc n) t a []) (same_ok r) (record { same = refl; few = omega arith; few_pars = omega arith; shallow = omega arith; right = tt })
  statements_from zero a z (c ∷ bs) B h long p q r = absurd (omega arith)
  statements_from (suc f) a z (c ∷ bs) B h long p q r =
      let y0 = ok_then (read_statement ds n deeper t a z c bs) _ B r in
      let s = y0.0.0 in let after = y0.0.1 in
      let S = statement_from a z c bs y0.0 h.1 y0.1 in
      let l0 = ap length S.same in let l1 = length-append (statement_bytes s) after in let l2 = some_bytes s in
      let y1 = ok_then (read_statements ds n deeper t f (after_statement s a) z after) _ B y0.2 in
      let R = statements_from f (after_statement s a) z after y1.0 S.bytes (omega arith) S.few S.few_pars y1.1 in
      let few : a.statements + count_of s + count y1.0 ≤ most_statements = R.few in
      let few_pars : a.pars + pars_of s + pars y1.0 ≤ most_pars = R.few_pars in
      let s0 = S.shallow in let s1 = R.shallow in
      subst (Came ds (suc n) t a (c ∷ bs)) (same_ok y1.2) (record {
        same = ap (λ l. statement_bytes s ++ l) R.same ∙ S.same;
        few = omega arith;
        few_pars = omega arith;
        shallow = omega arith;
        right = (S.right, R.right);
      })

---------------------------------------------------------------------- blocks

-- How inner blocks are read, at each allowed nesting.
deeper_than : (ds : List Variable) (n : ℕ) → Deeper ds n (read_block ds n)
deeper_than ds zero = record { of_none = λ t a z. refl; of_some = λ t a z bs B some. absurd (omega arith) }
deeper_than ds (suc n) = record {
  of_none = λ t a z. refl;
  of_some = λ t a z bs B some h p q r. statements_from ds n (read_block ds n) (deeper_than ds n) t (length bs) a z bs B h (omega arith) p q r;
}

-- A block that is read was written so, and keeps the rules.
pub block_from : (ds : List Variable) (n t : ℕ) (a : Counts) (z : ℕ) (bs : List ℕ) (B : Block (Unit {0})) → 0 < n → Bytes bs → a.statements ≤ most_statements → a.pars ≤ most_pars → read_block ds n t a z bs ≡ Ok B → Came ds n t a bs B
block_from ds n t a z bs B = (deeper_than ds n).of_some t a z bs B
