-- A statement by its head and its blocks.
use Rattle.std.proofs.Common.{◌≡◌, ℕ, zero, suc, ◌+◌, ◌-◌, false, List, [], length, Ok, Err, Result, sym, refl, ap, ◌∙◌, subst, arith}
use Rattle.std.proofs.lemmas.Grind.{common_steps}
use Rattle.evaluator.specs.Outcomes.{mapped}
use Rattle.rules.specs.Forms.{has_block, has_second_block, par_count, build}
use Rattle.rules.specs.Outcomes.{◌>>=◌}
use Rattle.rules.specs.Reading.{Counts, Head as Headed, after_statement, before_first, before_second, block_thread, read_blocks, read_statement, read_block}
use Rattle.rules.specs.Text.{Expression, Stmt, Block, end}
use Rattle.rules.specs.declared.faults.LoadFault.{LoadFault}
use Rattle.rules.specs.declared.program.Form.{Form}
use Rattle.rules.specs.declared.program.Variable.{Variable}
use Rattle.reader.specs.declared.checker.Checker.{Checker}
use Rattle.reader.specs.declared.extents.Extent.{Extent}
use Rattle.reader.specs.declared.reader.Reader.{Reader}
use Rattle.reader.specs.declared.scope.Scope.{Scope}
use Rattle.reader.specs.Counting.{counted}
use Rattle.reader.specs.declared.heads.Head.{Head}
use Rattle.reader.specs.Extents.{built}
use Rattle.reader.specs.Readers.{left_of, end_of, InTurn}
use Rattle.reader.specs.Seen.{Seen, seen, seen_head}
use Rattle.reader.specs.Told.{after_block, head_at, sum_block, sum_statement}
use Rattle.rules.proofs.Results.{goes_on, same_ok}
use Rattle.reader.proofs.Mapped.{mapped_ok, mapped_err}
use Rattle.reader.proofs.Extending.{builds}

-- No bytes, or no nested block allowed: an empty block.
read_empty : (ds : List Variable) (n t : ℕ) (a : Counts) (e : ℕ) (bs : List ℕ) → bs ≡ [] → read_block ds n t a e bs ≡ Ok end
read_empty ds zero t a e bs h = refl
read_empty ds (suc n) t a e bs h = ap (read_block ds (suc n) t a e) h

-- The counts after a statement are those after its second block; blocks that it does not have are empty.
counts_built : (o : ℕ) (x : Expression) (X Y : Block (Unit {0})) (a : Counts) (k : Form) → (has_block k ≡ false → X ≡ end) → (has_second_block k ≡ false → Y ≡ end) → after_block Y (before_second k X a) ≡ after_statement (build k o x X Y) a
counts_built o x X Y a k f g = grind (arith, common_steps)

-- The statement that begins with c, in the scope s, where the reader B has left what follows the command.
module _ (C : Checker) (s : Scope) (B : Reader) (c : ℕ) where
  abbrev ds : List Variable
  ds = C.variables.now

  abbrev n : ℕ
  n = s.nesting

  abbrev t : ℕ
  t = s.thread

  abbrev a : Counts
  a = counted C.counts

  abbrev e : ℕ
  e = end_of B

  abbrev bs : List ℕ
  bs = left_of B

  -- The summary of the statement, and its head as it is seen.
  abbrev summary : Result (Extent × Counts × List ℕ) LoadFault
  summary = mapped (sum_statement a) (read_statement ds n (read_block ds n) t a e c bs)

  abbrev head_seen : Result Seen LoadFault
  head_seen = mapped (seen_head (e - suc (length bs))) (head_at ds n t a e c bs)

  -- A statement whose head is refused.
  pub no_head : (g : LoadFault) → Err g ≡ head_seen → Err g ≡ summary
  no_head g h = sym (ap (λ r. mapped (sum_statement a) (r >>= read_blocks (read_block ds n) t a e)) (mapped_err (seen_head (e - suc (length bs))) (head_at ds n t a e c bs) g h))

  -- The head that was read is the one that is seen, but for its expression.
  abbrev under : Seen → Expression → Headed
  under q x = record { form = q.form; parts = record { byte = q.byte; code = q.code; first = q.first; second = q.second; after = q.after }; expression = x }

  by_blocks : (q : Seen) → Ok q ≡ head_seen → (x : Expression) × (read_statement ds n (read_block ds n) t a e c bs ≡ read_blocks (read_block ds n) t a e (under q x))
  by_blocks q h =
      let k = mapped_ok (seen_head (e - suc (length bs))) (head_at ds n t a e c bs) q h in
      let P : Seen → Type 0 = λ q. (x : Expression) × (read_statement ds n (read_block ds n) t a e c bs ≡ read_blocks (read_block ds n) t a e (under q x)) in
      subst P k.2 (k.0.expression, goes_on (read_blocks (read_block ds n) t a e) k.1 refl)

  -- What is counted before the first block, where w pars are begun.
  abbrev begun : ℕ → Counts
  begun w = record { statements = a.statements + 1; pars = a.pars + w; threads = a.threads + w }

  -- What is counted before the second block, where b was counted after the first.
  abbrev between : ℕ → Counts → Counts
  between w b = record { statements = b.statements; pars = b.pars; threads = b.threads + w }

  module _ (A : Reader) (o : Head) (w t₁ : ℕ) (h : Ok (seen (left_of A) o) ≡ head_seen) (turn : InTurn e (left_of A) o.parts.first o.parts.second) (w_is : w ≡ par_count o.form) (t_is : t₁ ≡ block_thread o.form t (a.threads + w)) where
    abbrev q : Seen
    q = seen (left_of A) o

    first_end : o.parts.first.end ≡ e - length q.after - length q.second
    first_end = let f = turn.first_end in let g = turn.second_end in omega arith

    -- The first block, as the code reads it and as the rules do.
    abbrev first_code : Result (Block (Unit {0})) LoadFault
    first_code = read_block ds n t₁ (begun w) o.parts.first.end q.first

    abbrev first_rule : Result (Block (Unit {0})) LoadFault
    first_rule = read_block ds n (block_thread q.form t (before_first q.form a).threads) (before_first q.form a) (e - length q.after - length q.second) q.first

    first_same : mapped (sum_block (begun w)) first_code ≡ mapped (sum_block (before_first q.form a)) first_rule
    first_same =
        let own = t_is ∙ ap (λ v. block_thread q.form t (a.threads + v)) w_is in
        λ i. mapped (sum_block (begun (w_is i))) (read_block ds n (own i) (begun (w_is i)) (first_end i) q.first)

    pub first_stopped : (g : LoadFault) → Err g ≡ mapped (sum_block (begun w)) first_code → Err g ≡ summary
    first_stopped g r =
        let k = by_blocks q h in
        sym (ap (mapped (sum_statement a)) (k.1 ∙ ap (λ X. X >>= (λ X. read_block ds n (block_thread q.form t (before_second q.form X a).threads) (before_second q.form X a) (e - length q.after) q.second >>= (λ Y. Ok (build q.form q.byte k.0 X Y, q.after)))) (mapped_err (sum_block (before_first q.form a)) first_rule g (r ∙ first_same))))

    module _ (x : Extent) (D : Checker) (s' : Scope) (r : Ok (x, counted D.counts) ≡ mapped (sum_block (begun w)) first_code) (known : D.variables.now ≡ ds) (same : s' ≡ s) where
      abbrev b : Counts
      b = counted D.counts

      first_there : (X : Block (Unit {0})) × (first_rule ≡ Ok X) × (sum_block (before_first q.form a) X ≡ (x, b))
      first_there = mapped_ok (sum_block (before_first q.form a)) first_rule (x, b) (r ∙ first_same)

      abbrev X : Block (Unit {0})
      X = first_there.0

      -- The counts after the first block.
      counts_there : b ≡ after_block X (before_first q.form a)
      counts_there = sym (ap (λ (z : Extent × Counts). z.1) first_there.2)

      between_is : between w b ≡ before_second q.form X a
      between_is = λ i. between (w_is i) (counts_there i)

      module _ (t₂ : ℕ) (u_is : t₂ ≡ block_thread q.form t (b.threads + w)) where
        -- The second block, as the code reads it and as the rules do.
        abbrev second_code : Result (Block (Unit {0})) LoadFault
        second_code = read_block D.variables.now s'.nesting t₂ (between w b) o.parts.second.end q.second

        abbrev second_rule : Result (Block (Unit {0})) LoadFault
        second_rule = read_block ds n (block_thread q.form t (before_second q.form X a).threads) (before_second q.form X a) (e - length q.after) q.second

        second_same : mapped (sum_block (between w b)) second_code ≡ mapped (sum_block (before_second q.form X a)) second_rule
        second_same =
            let own = u_is ∙ ap (λ (z : Counts). block_thread q.form t z.threads) between_is in
            λ i. mapped (sum_block (between_is i)) (read_block (known i) (same i).nesting (own i) (between_is i) (turn.second_end i) q.second)

        by_second : (z : Result (Stmt (Unit {0}) × List ℕ) LoadFault) → ((x : Expression) → (second_rule >>= (λ Y. Ok (build q.form q.byte x X Y, q.after))) ≡ z) → read_statement ds n (read_block ds n) t a e c bs ≡ z
        by_second z f = let k = by_blocks q h in k.1 ∙ goes_on _ first_there.1 (f k.0)

        pub second_stopped : (g : LoadFault) → Err g ≡ mapped (sum_block (between w b)) second_code → Err g ≡ summary
        second_stopped g s =
            sym (ap (mapped (sum_statement a)) (by_second (Err g) (λ x. ap (λ r. r >>= (λ Y. Ok (build q.form q.byte x X Y, q.after))) (mapped_err (sum_block (before_second q.form X a)) second_rule g (s ∙ second_same)))))

        pub both_read : (y z : Extent) (d : Counts) → z ≡ built q.form q.byte x y → (has_block q.form ≡ false → q.first ≡ []) → (has_second_block q.form ≡ false → q.second ≡ []) → Ok (y, d) ≡ mapped (sum_block (between w b)) second_code → Ok (z, d, q.after) ≡ summary
        both_read y z d is no_first no_second s =
            let k = by_blocks q h in
            let v = mapped_ok (sum_block (before_second q.form X a)) second_rule (y, d) (s ∙ second_same) in
            let x_is = ap (λ (z : Extent × Counts). z.0) first_there.2 in
            let y_is = ap (λ (z : Extent × Counts). z.0) v.2 in
            let d_is = ap (λ (z : Extent × Counts). z.1) v.2 in
            let no_X : has_block q.form ≡ false → X ≡ end = λ none. same_ok (sym first_there.1 ∙ read_empty ds n _ _ _ q.first (no_first none)) in
            let no_Y : has_second_block q.form ≡ false → v.0 ≡ end = λ none. same_ok (sym v.1 ∙ read_empty ds n _ _ _ q.second (no_second none)) in
            (λ i. Ok (is i, d, q.after))
            ∙ (λ i. Ok (built q.form q.byte (sym x_is i) (sym y_is i), sym d_is i, q.after))
            ∙ (λ i. Ok (builds q.form q.byte k.0 X v.0 i, counts_built q.byte k.0 X v.0 a q.form no_X no_Y i, q.after))
            ∙ ap (mapped (sum_statement a)) (sym (k.1 ∙ goes_on _ first_there.1 (goes_on _ v.1 refl)))
