-- Statements and blocks: a fault stands where they begin or after that, and is met again in alike bytes.
use Rattle.std.proofs.Common.{◌≡◌, ℕ, zero, suc, ◌+◌, ◌-◌, ◌≤◌, List, [], ◌∷◌, length, Ok, Err, Result, sym, ap, ◌∙◌, subst, arith}
use Rattle.evaluator.proofs.Reading.{Bytes}
use Rattle.rules.specs.Faults.{load_place, statement_place}
use Rattle.rules.specs.FirstFault.{longest_head}
use Rattle.rules.specs.Forms.{build}
use Rattle.rules.specs.Outcomes.{refused_as}
use Rattle.rules.specs.Reading.{Parts, Counts, after_statement, before_first, before_second, block_thread, Head, Reads, read_head, read_blocks, read_statement, read_statements, read_block}
use Rattle.rules.specs.Text.{Stmt, Block}
use Rattle.rules.specs.declared.faults.LoadFault.{LoadFault}
use Rattle.rules.specs.declared.faults.LoadFault.TheVariants.{Statement}
use Rattle.rules.specs.declared.program.Variable.{Variable}
use Rattle.rules.proofs.Results.{goes_on, ok_then, same_ok, refused_again}
use Rattle.loading.proofs.Alike.{Alike, alike_self, alike_first, alike_rest, alike_all}
use Rattle.loading.proofs.Heads.{PartsAlike, HeadAlike, head_alike}
use Rattle.loading.proofs.Late.{head_late}
use Rattle.loading.proofs.Refused.{no_ok, Only, only_ok, only_refused, only_then, only_weaker, Related, refused_both, accepted_both, related_refused}

-- A fault stands at place s or after it.
abbrev pub Since : ℕ → LoadFault → Type 0
Since s f = s ≤ load_place f

-- What is known of how blocks are read: where their faults stand, and that a fault is met again in bytes that are alike through it.
pub record FirstMet (deeper : Reads) : Type 0 where
  pub late : (t : ℕ) (a : Counts) (s e : ℕ) (bs : List ℕ) → Bytes bs → s + length bs ≡ e → Only (Since s) (deeper t a e bs)
  pub again : (t : ℕ) (a : Counts) (s e : ℕ) (bs bs' : List ℕ) (f : LoadFault) → Bytes bs → s + length bs ≡ e → Alike s (load_place f + longest_head) bs bs' → deeper t a e bs ≡ Err f → deeper t a e bs' ≡ Err f

module _ (deeper : Reads) (D : FirstMet deeper) (t : ℕ) (a : Counts) (e : ℕ) where
  -- The fault of a block of a statement stands after the statement's place.
  blocks_late : (s m : ℕ) (h : Head) (o' : Parts) → PartsAlike s m e h.parts o' → Only (Since s) (read_blocks deeper t a e h)
  blocks_late s m h o' P =
      let o = h.parts in let w = P.ends in let v = P.onward in
      let after_first = P.at + length o.first in
      only_then (Since s) (deeper _ (before_first h.form a) (e - length o.after - length o.second) o.first) _
      (only_weaker (Since P.at) (Since s) _ (λ f le. omega arith) (D.late _ _ P.at _ o.first P.first_bytes (omega arith)))
      (λ X _. only_then (Since s) (deeper _ (before_second h.form X a) (e - length o.after) o.second) _
      (only_weaker (Since after_first) (Since s) _ (λ f le. omega arith) (D.late _ _ after_first _ o.second P.second_bytes (omega arith)))
      (λ Y _. only_ok (Since s) _))

  -- A block that ends before place m is read again from alike bytes.
  inner_kept : (u : ℕ) (b : Counts) (z z' s m : ℕ) (bs bs' : List ℕ) (X : Block (Unit {0})) → z ≡ z' → s + length bs ≤ m → Alike s m bs bs' → deeper u b z bs ≡ Ok X → deeper u b z' bs' ≡ Ok X
  inner_kept u b z z' s m bs bs' X ends short l r = let same = alike_all s m bs bs' short l in (λ i. deeper u b (sym ends i) (sym same i)) ∙ r

  -- The fault of a block is met again in bytes that are alike through it.
  inner_again : (u : ℕ) (b : Counts) (z z' s : ℕ) (bs bs' : List ℕ) (f : LoadFault) → z ≡ z' → Bytes bs → s + length bs ≡ z → Alike s (load_place f + longest_head) bs bs' → deeper u b z bs ≡ Err f → deeper u b z' bs' ≡ Err f
  inner_again u b z z' s bs bs' f ends h w l r = subst (λ j. deeper u b j bs' ≡ Err f) ends (D.again u b s z bs bs' f h w l r)

  -- The same statement with other parts.
  abbrev other : Head → Parts → Head
  other h o = record { form = h.form; parts = o; expression = h.expression }

  -- The fault of a block of a statement is met again where the parts are alike through it.
  blocks_again : (s : ℕ) (f : LoadFault) (h : Head) (o' : Parts) → PartsAlike s (load_place f + longest_head) e h.parts o' → read_blocks deeper t a e h ≡ Err f → read_blocks deeper t a e (other h o') ≡ Err f
  blocks_again s f h o' P =
      let o = h.parts in let w = P.ends in let la = P.after.long in let ls = P.second.long in
      let at_second = P.at + length o.first in
      refused_again (deeper _ (before_first h.form a) (e - length o.after - length o.second) o.first) _ _ _ f
      (inner_again _ _ _ _ P.at o.first o'.first f (omega arith) P.first_bytes (omega arith) P.first)
      (λ X r q.
      let second = deeper (block_thread h.form t (before_second h.form X a).threads) (before_second h.form X a) (e - length o.after) o.second in
      let le = (only_then (Since at_second) second _ (D.late _ _ at_second _ o.second P.second_bytes (omega arith)) (λ Y _. only_ok (Since at_second) _)).only f q in
      goes_on _ (inner_kept _ _ _ _ P.at _ o.first o'.first X (omega arith) (omega arith) P.first r)
      (refused_again second _ _ _ f
      (inner_again _ _ _ _ at_second o.second o'.second f (omega arith) P.second_bytes (omega arith) P.second)
      (λ Y _ no. no_ok no) q))

  -- What is left after the blocks of a statement is what comes after its parts.
  blocks_after : (h : Head) (r : Stmt (Unit {0}) × List ℕ) → read_blocks deeper t a e h ≡ Ok r → h.parts.after ≡ r.1
  blocks_after h r y =
      let o = h.parts in
      let y1 = ok_then (deeper (block_thread h.form t (before_first h.form a).threads) (before_first h.form a) (e - length o.after - length o.second) o.first) _ r y in
      let y2 = ok_then (deeper (block_thread h.form t (before_second h.form y1.0 a).threads) (before_second h.form y1.0 a) (e - length o.after) o.second) _ r y1.2 in
      ap (λ (q : Stmt (Unit {0}) × List ℕ). q.1) (same_ok y2.2)

  -- A statement whose blocks end before place m is read again where the parts are alike.
  blocks_kept : (s m : ℕ) (h : Head) (o' : Parts) (r : Stmt (Unit {0}) × List ℕ) → PartsAlike s m e h.parts o' → e - length h.parts.after ≤ m → read_blocks deeper t a e h ≡ Ok r → read_blocks deeper t a e (other h o') ≡ Ok (r.0, o'.after)
  blocks_kept s m h o' r P short y =
      let o = h.parts in let w = P.ends in let la = P.after.long in let ls = P.second.long in
      let y1 = ok_then (deeper (block_thread h.form t (before_first h.form a).threads) (before_first h.form a) (e - length o.after - length o.second) o.first) _ r y in
      let X = y1.0 in
      let y2 = ok_then (deeper (block_thread h.form t (before_second h.form X a).threads) (before_second h.form X a) (e - length o.after) o.second) _ r y1.2 in
      let Y = y2.0 in
      goes_on _ (inner_kept _ _ _ _ P.at m o.first o'.first X (omega arith) (omega arith) P.first y1.1)
      (goes_on _ (inner_kept _ _ _ _ (P.at + length o.first) m o.second o'.second Y (omega arith) (omega arith) P.second y2.1)
      (ap (λ b. Ok (build h.form b h.expression X Y, o'.after)) (sym P.byte) ∙ ap (λ (q : Stmt (Unit {0}) × List ℕ). Ok (q.0, o'.after)) (same_ok y2.2)))

module _ (ds : List Variable) (n : ℕ) (deeper : Reads) (D : FirstMet deeper) (t : ℕ) where
  -- A statement before its blocks, in a block that ends at place e; its fault carries its number and thread.
  abbrev heading : Counts → (e c : ℕ) → List ℕ → Result Head LoadFault
  heading a e c bs = refused_as (λ f. Statement f (record { statement = a.statements; thread = t })) (read_head ds n t a (e - suc (length bs)) c bs)

  -- The same is read of a statement before its blocks from bytes that are alike through it.
  heading_alike : (a : Counts) (s m e c : ℕ) (bs bs' : List ℕ) → Bytes bs → s + suc (length bs) ≡ e → s + longest_head ≤ m → Alike (s + 1) m bs bs' → Related (HeadAlike (s + 1) m e) (heading a e c bs) (heading a e c bs')
  heading_alike a s m e c bs bs' h w room l =
      subst (λ j. Related (HeadAlike (s + 1) m e) (heading a e c bs) (refused_as (λ f. Statement f (record { statement = a.statements; thread = t })) (read_head ds n t a (e - suc j) c bs'))) l.long
      (related_refused (HeadAlike (s + 1) m e) _ (read_head ds n t a (e - suc (length bs)) c bs) (read_head ds n t a (e - suc (length bs)) c bs')
      (head_alike ds n t a (e - suc (length bs)) c (s + 1) m e bs bs' h (omega arith) (omega arith) l))

  -- What is known of a statement that was read from place s on, and of the bytes after it, which begin at place `at`.
  record Kept (a : Counts) (s m e c : ℕ) (bs' : List ℕ) (r : Stmt (Unit {0}) × List ℕ) : Type 0 where
    at : ℕ
    onward : s + 1 ≤ at
    ends : at + length r.1 ≡ e
    bytes : Bytes r.1
    kept : at ≤ m → (after' : List ℕ) × (read_statement ds n deeper t a e c bs' ≡ Ok (r.0, after')) × Alike at m r.1 after'

  -- The blocks of a statement are read as those of one with the same form and expression.
  same_head : (a : Counts) (e : ℕ) (h h' : Head) → h.form ≡ h'.form → h.expression ≡ h'.expression → read_blocks deeper t a e h' ≡ read_blocks deeper t a e (record { form = h.form; parts = h'.parts; expression = h.expression })
  same_head a e h h' F E = λ i. read_blocks deeper t a e (record { form = sym F i; parts = h'.parts; expression = sym E i })

  -- A statement that ends before place m is read again from alike bytes.
  statement_kept : (a : Counts) (s m e c : ℕ) (bs bs' : List ℕ) (r : Stmt (Unit {0}) × List ℕ) → Bytes bs → s + suc (length bs) ≡ e → s + longest_head ≤ m → Alike (s + 1) m bs bs' → read_statement ds n deeper t a e c bs ≡ Ok r → Kept a s m e c bs' r
  statement_kept a s m e c bs bs' r h w room l y =
      let y0 = ok_then (heading a e c bs) _ r y in
      let g = y0.0 in
      let A = accepted_both _ _ _ g (heading_alike a s m e c bs bs' h w room l) y0.1 in
      let P = A.2.parts in
      let v = P.ends in let on = P.onward in
      let at = P.at + length g.parts.first + length g.parts.second in
      let is = blocks_after deeper D t a e g r y0.2 in
      record {
        at = at;
        onward = omega arith;
        ends = subst (λ x. at + length x ≡ e) is v;
        bytes = subst Bytes is P.after_bytes;
        kept = λ short. (
          A.0.parts.after,
          goes_on _ A.1 (same_head a e g A.0 A.2.form A.2.expression ∙ blocks_kept deeper D t a e (s + 1) m g _ r P (omega arith) y0.2),
          subst (λ x. Alike at m x A.0.parts.after) is P.after,
        );
      }

  -- The fault of a statement stands at its place or after it.
  statement_late : (a : Counts) (s e c : ℕ) (bs : List ℕ) → Bytes bs → s + suc (length bs) ≡ e → Only (Since s) (read_statement ds n deeper t a e c bs)
  statement_late a s e c bs h w =
      only_then (Since s) (heading a e c bs) _
      (only_refused (Since s) _ (read_head ds n t a (e - suc (length bs)) c bs) (only_weaker _ (λ f. s ≤ statement_place f) _ (λ f le. omega arith) (head_late ds t (e - suc (length bs)) n a c bs)))
      (λ g r.
      let A = accepted_both _ _ _ g (heading_alike a s (s + longest_head) e c bs bs h w (omega arith) (alike_self _ _ bs)) r in
      only_weaker (Since (s + 1)) (Since s) _ (λ f le. omega arith) (blocks_late deeper D t a e (s + 1) _ g _ A.2.parts))

  -- The fault of a statement is met again in bytes that are alike through it.
  statement_again : (a : Counts) (s e c : ℕ) (bs bs' : List ℕ) (f : LoadFault) → Bytes bs → s + suc (length bs) ≡ e → Alike (s + 1) (load_place f + longest_head) bs bs' → read_statement ds n deeper t a e c bs ≡ Err f → read_statement ds n deeper t a e c bs' ≡ Err f
  statement_again a s e c bs bs' f h w l y =
      let le = (statement_late a s e c bs h w).only f y in
      let R = heading_alike a s (load_place f + longest_head) e c bs bs' h w (omega arith) l in
      refused_again (heading a e c bs) (heading a e c bs') _ _ f
      (refused_both _ _ _ f R)
      (λ g r q.
      let A = accepted_both _ _ _ g R r in
      goes_on _ A.1 (same_head a e g A.0 A.2.form A.2.expression ∙ blocks_again deeper D t a e (s + 1) f g _ A.2.parts q))
      y

  -- The fault of a row of statements stands where they begin or after that.
  statements_late : (fuel : ℕ) (a : Counts) (s e : ℕ) (bs : List ℕ) → Bytes bs → s + length bs ≡ e → Only (Since s) (read_statements ds n deeper t fuel a e bs)
  statements_late fuel a s e [] h w = only_ok (Since s) _
  statements_late zero a s e (c ∷ bs) h w = only_ok (Since s) _
  statements_late (suc fuel) a s e (c ∷ bs) h w =
      only_then (Since s) (read_statement ds n deeper t a e c bs) _ (statement_late a s e c bs h.1 w)
      (λ r y.
      let K = statement_kept a s (s + longest_head) e c bs bs r h.1 w (omega arith) (alike_self _ _ bs) y in
      let on = K.onward in
      only_then (Since s) (read_statements ds n deeper t fuel (after_statement r.0 a) e r.1) _
      (only_weaker (Since K.at) (Since s) _ (λ f le. omega arith) (statements_late fuel (after_statement r.0 a) K.at e r.1 K.bytes K.ends))
      (λ B _. only_ok (Since s) _))

  -- The fault of a row of statements is met again in bytes that are alike through it.
  statements_again : (fuel : ℕ) (a : Counts) (s e : ℕ) (bs bs' : List ℕ) (f : LoadFault) → Bytes bs → s + length bs ≡ e → Alike s (load_place f + longest_head) bs bs' → read_statements ds n deeper t fuel a e bs ≡ Err f → read_statements ds n deeper t fuel a e bs' ≡ Err f
  statements_again fuel a s e [] bs' f h w l y = no_ok y
  statements_again zero a s e (c ∷ bs) bs' f h w l y = no_ok y
  statements_again (suc fuel) a s e (c ∷ bs) [] f h w l y = let k = l.long in absurd (omega arith)
  statements_again (suc fuel) a s e (c ∷ bs) (c' ∷ bs') f h w l y =
      let m = load_place f + longest_head in
      let le = (statements_late (suc fuel) a s e (c ∷ bs) h w).only f y in
      let rest = alike_rest s m c c' bs bs' l in
      subst (λ d. read_statements ds n deeper t (suc fuel) a e (d ∷ bs') ≡ Err f) (alike_first s m c c' bs bs' (omega arith) l)
      (refused_again (read_statement ds n deeper t a e c bs) (read_statement ds n deeper t a e c bs') _ _ f
      (statement_again a s e c bs bs' f h.1 w rest)
      (λ r q z.
      let K = statement_kept a s m e c bs bs' r h.1 w (omega arith) rest q in
      let later = read_statements ds n deeper t fuel (after_statement r.0 a) e r.1 in
      let le1 = (only_then (Since K.at) later _ (statements_late fuel (after_statement r.0 a) K.at e r.1 K.bytes K.ends) (λ B _. only_ok (Since K.at) _)).only f z in
      let k = K.kept (omega arith) in
      goes_on _ k.1
      (refused_again later _ _ _ f
      (statements_again fuel (after_statement r.0 a) K.at e r.1 k.0 f K.bytes K.ends k.2)
      (λ B _ no. no_ok no) z))
      y)

-- The fault of a block is the first, at each allowed nesting.
pub block_first_met : (ds : List Variable) (n : ℕ) → FirstMet (read_block ds n)
block_first_met ds zero = record { late = λ t a s e bs h w. only_ok (Since s) _; again = λ t a s e bs bs' f h w l y. no_ok y }
block_first_met ds (suc n) = record {
  late = λ t a s e bs h w. statements_late ds n (read_block ds n) (block_first_met ds n) t (length bs) a s e bs h w;
  again = λ t a s e bs bs' f h w l y.
      subst (λ fuel. read_statements ds n (read_block ds n) t fuel a e bs' ≡ Err f) l.long
      (statements_again ds n (read_block ds n) (block_first_met ds n) t (length bs) a s e bs bs' f h w l y);
}
