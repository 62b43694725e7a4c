-- Statements and blocks: what is written is read.
use Rattle.std.proofs.Common.{◌≡◌, ℕ, zero, suc, ◌+◌, ◌<◌, ◌≤◌, Bool, true, false, not, ◌||◌, ltb, List, [], ◌++◌, length, Ok, sym, refl, ap, subst, arith, length-append}
use Rattle.std.proofs.lemmas.Bool.{le-leb, lt-ltb, and_from}
use Rattle.evaluator.specs.Commands.{written}
use Rattle.rules.specs.Encoding.{form_byte, flags, statement_bytes, block_bytes}
use Rattle.rules.specs.Forms.{has_expression, has_block, par_count, flags_known, build}
use Rattle.rules.specs.Reading.{most_statements, most_pars, Counts, after_statement, before_first, before_second, block_thread, within_limits, set_right, expression_of, Reads, read_statement, read_statements, read_block}
use Rattle.rules.specs.Text.{Expression, Stmt, nothing, assign, pause, branch, loop, par, abort, Block, end, ◌then◌, count, pars, arms, arms_of, depth}
use Rattle.rules.specs.Valid.{RightExpression, RightBlock}
use Rattle.rules.specs.declared.program.Form.{Form}
use Rattle.rules.specs.declared.program.Form.TheVariants.{Nothing, Set, Pause, If, Loop, Par, Abort}
use Rattle.rules.specs.declared.program.Variable.{Variable}
use Rattle.rules.proofs.Results.{goes_on, some_ok, ensure_ok, upper_ok}
use Rattle.loading.proofs.Expressions.{expression_back}
use Rattle.loading.proofs.Parts.{no_way, no_way', joined, parts_back}
use Rattle.loading.proofs.Shapes.{form_back, parts_of, Shaped, fitting, bytes_by_form, some_bytes}

-- A right expression is read where the form has one.
expression_of_back : (ds : List Variable) (t from at : ℕ) (b : Bool) (e : Expression) → (b ≡ false → e ≡ []) → (b ≡ true → RightExpression ds t e) → expression_of ds t from at b (written e) ≡ Ok e
expression_of_back ds t from at false e h r = ap Ok (sym (h refl))
expression_of_back ds t from at true e h r = expression_back ds t from at e (r refl)

-- Within the limits the test of limits holds.
limits_hold : (n : ℕ) (k : Form) (a : Counts) → a.statements < most_statements → a.pars + par_count k ≤ most_pars → (has_block k ≡ true → 0 < n) → within_limits n k a ≡ true
limits_hold n k a p q r = and_from _ _ (lt-ltb _ _ p) (and_from _ _ (le-leb _ _ q) (room (has_block k) r)) where
  room : (b : Bool) → (b ≡ true → 0 < n) → (not b || ltb 0 n) ≡ true
  room true r = lt-ltb 0 n (r refl)
  room false r = refl

module _ (ds : List Variable) (n : ℕ) (deeper : Reads) (t : ℕ) (a : Counts) (k : Form) (o : ℕ) (e : Expression) (X Y : Block (Unit {0})) where
  -- What reading asks of a statement, and of how its blocks are read.
  record Readable : Type 0 where
    shaped : Shaped o e X Y k
    roomy : within_limits n k a ≡ true
    flagged : flags_known k o ≡ true
    named : set_right ds t k o ≡ true
    right : has_expression k ≡ true → RightExpression ds t e
    first : (z : ℕ) → deeper (block_thread k t (before_first k a).threads) (before_first k a) z (block_bytes X) ≡ Ok X
    second : (z : ℕ) → deeper (block_thread k t (before_second k X a).threads) (before_second k X a) z (block_bytes Y) ≡ Ok Y

  -- Such a statement is read from what it is written as, whatever follows it.
  statement_read : (z : ℕ) (after : List ℕ) → Readable → read_statement ds n deeper t a z (form_byte k) (joined k (parts_of o e X Y after)) ≡ Ok (build k o e X Y, after)
  statement_read z after w =
      goes_on _
      (upper_ok _ (goes_on _ (some_ok _ (form_back k))
      (goes_on _ (ensure_ok _ w.roomy)
      (goes_on _ (upper_ok _ (parts_back _ k (parts_of o e X Y after) (fitting o e X Y k after w.shaped)))
      (goes_on _ (ensure_ok _ w.flagged)
      (goes_on _ (ensure_ok _ w.named)
      (goes_on _ (expression_of_back ds t _ _ (has_expression k) e w.shaped.no_code w.right) refl)))))))
      (goes_on _ (w.first _)
      (goes_on _ (w.second _) refl))

  -- The same of the statement and the rest of its block.
  then_rest : (f z : ℕ) (B : Block (Unit {0})) → Readable → suc (length (block_bytes B)) ≤ f →
      ((m : ℕ) → length (block_bytes B) ≤ m → read_statements ds n deeper t m (after_statement (build k o e X Y) a) z (block_bytes B) ≡ Ok B) →
      read_statements ds n deeper t f a z (statement_bytes (build k o e X Y) ++ block_bytes B) ≡ Ok (build k o e X Y then B)
  then_rest zero z B w long more = absurd (omega arith)
  then_rest (suc f) z B w long more =
      subst (λ l. read_statements ds n deeper t (suc f) a z l ≡ Ok (build k o e X Y then B)) (sym (bytes_by_form o e X Y k (block_bytes B) w.shaped w.flagged))
      (goes_on _ (statement_read z (block_bytes B) w) (goes_on _ (more f (omega arith)) refl))

-- Each block is one block deep at least.
deep : (B : Block (Unit {0})) → 1 ≤ depth B
deep end = omega arith
deep (s then B) = let h = deep B in omega arith

-- No bytes are read as no statements.
read_empty : (ds : List Variable) (n t : ℕ) (a : Counts) (z : ℕ) → read_block ds n t a z [] ≡ Ok end
read_empty ds zero t a z = refl
read_empty ds (suc n) t a z = refl

-- What the limits and rules ask of a block of thread t after the counts a, with n nested blocks allowed.
pub record Meets (ds : List Variable) (n t : ℕ) (a : Counts) (B : Block (Unit {0})) : Type 0 where
  pub few : a.statements + count B ≤ most_statements
  pub few_pars : a.pars + pars B ≤ most_pars
  pub shallow : depth B ≤ n
  pub u : ℕ
  pub next : u ≡ a.threads
  pub right : RightBlock ds t u B

-- A block that meets them is read from what it is written as, and so are statements to the end of a block.
abbrev Back : List Variable → Block (Unit {0}) → Type 0
Back ds B = (n t : ℕ) (a : Counts) (z : ℕ) → Meets ds n t a B → read_block ds n t a z (block_bytes B) ≡ Ok B

abbrev BackRest : List Variable → Block (Unit {0}) → Type 0
BackRest ds B = (n t f : ℕ) (a : Counts) (z : ℕ) → length (block_bytes B) ≤ f → Meets ds (suc n) t a B → read_statements ds n (read_block ds n) t f a z (block_bytes B) ≡ Ok B

-- A block is read if its statements are.
from_rest : (ds : List Variable) (B : Block (Unit {0})) → BackRest ds B → Back ds B
from_rest ds B h zero t a z m = let d = deep B in let s = m.shallow in absurd (omega arith)
from_rest ds B h (suc n) t a z m = h n t (length (block_bytes B)) a z (omega arith) m

-- What the limits and rules ask may be said of an equal thread.
moved : (ds : List Variable) (n t t' : ℕ) (a : Counts) (B : Block (Unit {0})) → t' ≡ t → Meets ds n t' a B → Meets ds n t a B
moved ds n t t' a B e m = subst (λ k. Meets ds n k a B) e m

-- If a block meets the limits and rules, so does what follows its first statement.
rest_meets : (ds : List Variable) (n t : ℕ) (a : Counts) (s : Stmt (Unit {0})) (B : Block (Unit {0})) → Meets ds (suc n) t a (s then B) → Meets ds (suc n) t (after_statement s a) B
rest_meets ds n t a s B m =
    let p = m.few in let q = m.few_pars in let d = m.shallow in let e = m.next in
    record { few = omega arith; few_pars = omega arith; shallow = omega arith; u = m.u + arms_of s; next = ap (λ k. k + arms_of s) e; right = m.right.1 }

-- What follows a statement is shorter.
longer : (f : ℕ) (s : Stmt (Unit {0})) (B : Block (Unit {0})) → length (block_bytes (s then B)) ≤ f → suc (length (block_bytes B)) ≤ f
longer f s B h = let l = length-append (statement_bytes s) (block_bytes B) in let k = some_bytes s in omega arith

-- The flags of an abort are known, and read as what they are.
flags_hold : (w i : Bool) → flags_known Abort (flags w i) ≡ true
flags_hold true true = refl
flags_hold true false = refl
flags_hold false true = refl
flags_hold false false = refl

flags_back : (w i : Bool) (e : Expression) (X : Block (Unit {0})) → build Abort (flags w i) e X end ≡ abort tt w i e X
flags_back true true e X = refl
flags_back true false e X = refl
flags_back false true e X = refl
flags_back false false e X = refl

module _ (ds : List Variable) where
  -- Statements to the end of a block are read from what they are written as.
  mutual
    statements_back : (B : Block (Unit {0})) → BackRest ds B
    statements_back end n t f a z long m = refl
    statements_back (s then B) n t f a z long m = statement_back s B (statements_back B) n t f a z long m

    statement_back : (s : Stmt (Unit {0})) (B : Block (Unit {0})) → BackRest ds B → BackRest ds (s then B)
    statement_back (nothing _) B more n t f a z long m =
        let p = m.few in let q = m.few_pars in
        then_rest ds n (read_block ds n) t a Nothing 0 [] end end f z B (record {
          shaped = record { no_byte = λ _. refl; no_code = λ _. refl; no_block = λ _. refl; no_second = λ _. refl };
          roomy = limits_hold n Nothing a (omega arith) (omega arith) no_way;
          flagged = refl;
          named = refl;
          right = no_way;
          first = λ z. read_empty ds n _ _ z;
          second = λ z. read_empty ds n _ _ z;
        })
        (longer f (nothing tt) B long) (λ k l. more n t k _ z l (rest_meets ds n t a (nothing tt) B m))
    statement_back (assign _ v e) B more n t f a z long m =
        let p = m.few in let q = m.few_pars in
        then_rest ds n (read_block ds n) t a Set v e end end f z B (record {
          shaped = record { no_byte = no_way'; no_code = no_way'; no_block = λ _. refl; no_second = λ _. refl };
          roomy = limits_hold n Set a (omega arith) (omega arith) no_way;
          flagged = refl;
          named = m.right.0.0;
          right = λ _. m.right.0.1;
          first = λ z. read_empty ds n _ _ z;
          second = λ z. read_empty ds n _ _ z;
        })
        (longer f (assign tt v e) B long) (λ k l. more n t k _ z l (rest_meets ds n t a (assign tt v e) B m))
    statement_back (pause _) B more n t f a z long m =
        let p = m.few in let q = m.few_pars in
        then_rest ds n (read_block ds n) t a Pause 0 [] end end f z B (record {
          shaped = record { no_byte = λ _. refl; no_code = λ _. refl; no_block = λ _. refl; no_second = λ _. refl };
          roomy = limits_hold n Pause a (omega arith) (omega arith) no_way;
          flagged = refl;
          named = refl;
          right = no_way;
          first = λ z. read_empty ds n _ _ z;
          second = λ z. read_empty ds n _ _ z;
        })
        (longer f (pause tt) B long) (λ k l. more n t k _ z l (rest_meets ds n t a (pause tt) B m))
    statement_back (branch _ e X Y) B more n t f a z long m =
        let p = m.few in let q = m.few_pars in let d = m.shallow in let eq = m.next in let dx = deep X in
        then_rest ds n (read_block ds n) t a If 0 e X Y f z B (record {
          shaped = record { no_byte = λ _. refl; no_code = no_way'; no_block = no_way'; no_second = no_way' };
          roomy = limits_hold n If a (omega arith) (omega arith) (λ _. omega arith);
          flagged = refl;
          named = refl;
          right = λ _. m.right.0.0;
          first = λ z. from_rest ds X (statements_back X) n t _ z (record { few = omega arith; few_pars = omega arith; shallow = omega arith; u = m.u; next = omega arith; right = m.right.0.1 });
          second = λ z. from_rest ds Y (statements_back Y) n t _ z (record { few = omega arith; few_pars = omega arith; shallow = omega arith; u = m.u + arms X; next = omega arith; right = m.right.0.2 });
        })
        (longer f (branch tt e X Y) B long) (λ k l. more n t k _ z l (rest_meets ds n t a (branch tt e X Y) B m))
    statement_back (loop _ b e X) B more n t f a z long m =
        let p = m.few in let q = m.few_pars in let d = m.shallow in let eq = m.next in let dx = deep X in
        then_rest ds n (read_block ds n) t a Loop b e X end f z B (record {
          shaped = record { no_byte = no_way'; no_code = no_way'; no_block = no_way'; no_second = λ _. refl };
          roomy = limits_hold n Loop a (omega arith) (omega arith) (λ _. omega arith);
          flagged = refl;
          named = refl;
          right = λ _. m.right.0.1;
          first = λ z. from_rest ds X (statements_back X) n t _ z (record { few = omega arith; few_pars = omega arith; shallow = omega arith; u = m.u; next = omega arith; right = m.right.0.2 });
          second = λ z. read_empty ds n _ _ z;
        })
        (longer f (loop tt b e X) B long) (λ k l. more n t k _ z l (rest_meets ds n t a (loop tt b e X) B m))
    statement_back (par _ X Y) B more n t f a z long m =
        let p = m.few in let q = m.few_pars in let d = m.shallow in let eq = m.next in let dx = deep X in
        then_rest ds n (read_block ds n) t a Par 0 [] X Y f z B (record {
          shaped = record { no_byte = λ _. refl; no_code = λ _. refl; no_block = no_way'; no_second = no_way' };
          roomy = limits_hold n Par a (omega arith) (omega arith) (λ _. omega arith);
          flagged = refl;
          named = refl;
          right = no_way;
          first = λ z. from_rest ds X (statements_back X) n _ _ z (moved ds n _ m.u _ X (omega arith) (record { few = omega arith; few_pars = omega arith; shallow = omega arith; u = m.u + 1; next = omega arith; right = m.right.0.0 }));
          second = λ z. from_rest ds Y (statements_back Y) n _ _ z (moved ds n _ (m.u + 1 + arms X) _ Y (omega arith) (record { few = omega arith; few_pars = omega arith; shallow = omega arith; u = m.u + 2 + arms X; next = omega arith; right = m.right.0.1 }));
        })
        (longer f (par tt X Y) B long) (λ k l. more n t k _ z l (rest_meets ds n t a (par tt X Y) B m))
    statement_back (abort _ w i e X) B more n t f a z long m =
        let p = m.few in let q = m.few_pars in let d = m.shallow in let eq = m.next in let dx = deep X in
        let s = flags_back w i e X in
        subst (λ q. read_statements ds n (read_block ds n) t f a z (statement_bytes q ++ block_bytes B) ≡ Ok (q then B)) s
        (then_rest ds n (read_block ds n) t a Abort (flags w i) e X end f z B (record {
          shaped = record { no_byte = no_way'; no_code = no_way'; no_block = no_way'; no_second = λ _. refl };
          roomy = limits_hold n Abort a (omega arith) (omega arith) (λ _. omega arith);
          flagged = flags_hold w i;
          named = refl;
          right = λ _. m.right.0.0;
          first = λ z. from_rest ds X (statements_back X) n t _ z (record { few = omega arith; few_pars = omega arith; shallow = omega arith; u = m.u; next = omega arith; right = m.right.0.1 });
          second = λ z. read_empty ds n _ _ z;
        })
        (longer f (abort tt w i e X) B long) (λ k l. more n t k _ z l (rest_meets ds n t a (abort tt w i e X) B m)))

  -- A block that meets the limits and rules is read from what it is written as.
  pub block_back : (B : Block (Unit {0})) → (n t : ℕ) (a : Counts) (z : ℕ) → Meets ds n t a B → read_block ds n t a z (block_bytes B) ≡ Ok B
  block_back B = from_rest ds B (statements_back B)
