-- Which bytes decide what is read of a statement before its blocks.
use Rattle.std.proofs.Common.{◌≡◌, ℕ, ◌+◌, ◌*◌, ◌≤◌, Bool, true, false, cond, leb, List, [], ◌∷◌, length, Ok, sym, refl, ap, subst, arith, length-drop, length-take}
use Rattle.std.proofs.ByRecursion.{All-take, All-drop}
use Rattle.std.proofs.lemmas.Bool.{leb-true}
use Rattle.evaluator.proofs.Reading.{Bytes}
use Rattle.rules.specs.Encoding.{form_byte}
use Rattle.rules.specs.Forms.{forms, has_byte, has_expression, has_block, has_second_block, flags_known}
use Rattle.rules.specs.Outcomes.{◌>>=◌, ensure, from_some, refused_as, numbered}
use Rattle.rules.specs.Reading.{Parts, byte_in, part_in, code_in, length_in, parts_in, place_of_code, Counts, within_limits, set_right, expression_of, Head, read_head}
use Rattle.rules.specs.declared.faults.ReadingFault.TheVariants.{Cut, Unknown}
use Rattle.rules.specs.declared.faults.StatementFault.TheVariants.{Reading, WrongVariable, OverLimit}
use Rattle.rules.specs.declared.program.Form.{Form}
use Rattle.rules.specs.declared.program.Form.TheVariants.{Nothing, Set, Pause, If, Loop, Par, Abort}
use Rattle.rules.specs.declared.program.Variable.{Variable}
use Rattle.rules.proofs.Results.{ensure_holds}
use Rattle.loading.proofs.Alike.{Alike, alike_first, alike_rest, alike_take, alike_drop, alike_all}
use Rattle.loading.proofs.Refused.{Related, related_refused, related_weaker, related_then, same_then}

-- The same value was read of bytes from place s on, in at most `most` of them; those after it, which end at place e, are alike before place m.
record ValueAlike {X : Type 0} (s most m e : ℕ) (q q' : X × List ℕ) : Type 0 where
  at : ℕ
  value : q.0 ≡ q'.0
  onward : s ≤ at
  near : at ≤ s + most
  ends : at + length q.1 ≡ e
  bytes : Bytes q.1
  rest : Alike at m q.1 q'.1

-- n bytes were taken from place s on; they and those after them, which end at place e, are alike before place m.
record PartAlike (s n m e : ℕ) (q q' : List ℕ × List ℕ) : Type 0 where
  long : length q.0 ≡ n
  ends : s + n + length q.1 ≡ e
  part_bytes : Bytes q.0
  bytes : Bytes q.1
  part : Alike s m q.0 q'.0
  rest : Alike (s + n) m q.1 q'.1

-- The same byte and expression were read after a command; the blocks, from place `at` on, and what comes after them are alike before place m.
pub record PartsAlike (s m e : ℕ) (o o' : Parts) : Type 0 where
  pub at : ℕ
  pub byte : o.byte ≡ o'.byte
  pub code : o.code ≡ o'.code
  pub onward : s ≤ at
  pub ends : at + length o.first + length o.second + length o.after ≡ e
  pub first_bytes : Bytes o.first
  pub second_bytes : Bytes o.second
  pub after_bytes : Bytes o.after
  pub first : Alike at m o.first o'.first
  pub second : Alike (at + length o.first) m o.second o'.second
  pub after : Alike (at + length o.first + length o.second) m o.after o'.after

-- No statement has both a byte and a second block.
head_short : (k : Form) → cond (has_byte k) 1 0 + cond (has_expression k) 256 0 + cond (has_block k) 2 0 + cond (has_second_block k) 2 0 ≤ 260
head_short Nothing = omega arith
head_short Set = omega arith
head_short Pause = omega arith
head_short If = omega arith
head_short Loop = omega arith
head_short Par = omega arith
head_short Abort = omega arith

module _ (p m e : ℕ) where
  -- Bytes are divided alike.
  part_alike : (s n n' : ℕ) (bs bs' : List ℕ) → n ≡ n' → Bytes bs → s + length bs ≡ e → Alike s m bs bs' → Related (PartAlike s n m e) (part_in p n bs) (part_in p n' bs')
  part_alike s n n' bs bs' same h z k =
      subst (λ j. Related (PartAlike s n m e) (part_in p n bs) (part_in p j bs')) same
      (same_then _ (ensure (leb n (length bs)) (Cut p)) _ _ _ (ap (λ l. ensure (leb n l) (Cut p)) k.long)
      (λ u v.
      let le = leb-true n (length bs) (ensure_holds _ _ u v) in
      let front = length-take n bs in let back = length-drop n bs in
      record {
        both = record {
          long = omega arith;
          ends = omega arith;
          part_bytes = All-take _ n bs h;
          bytes = All-drop _ n bs h;
          part = alike_take s m n bs bs' k;
          rest = alike_drop s m n bs bs' k;
        };
      }))

  byte_alike : (s : ℕ) (b : Bool) (bs bs' : List ℕ) → Bytes bs → s + length bs ≡ e → s + cond b 1 0 ≤ m → Alike s m bs bs' → Related (ValueAlike s (cond b 1 0) m e) (byte_in p b bs) (byte_in p b bs')
  byte_alike s false bs bs' h z room k = record { both = record { at = s; value = refl; onward = omega arith; near = omega arith; ends = z; bytes = h; rest = k } }
  byte_alike s true [] [] h z room k = record { both = refl }
  byte_alike s true [] (b' ∷ bs') h z room k = let l = k.long in absurd (omega arith)
  byte_alike s true (b ∷ bs) [] h z room k = let l = k.long in absurd (omega arith)
  byte_alike s true (b ∷ bs) (b' ∷ bs') h z room k = record {
    both = record { at = s + 1; value = alike_first s m b b' bs bs' (omega arith) k; onward = omega arith; near = omega arith; ends = omega arith; bytes = h.1; rest = alike_rest s m b b' bs bs' k };
  }

  code_alike : (s : ℕ) (b : Bool) (bs bs' : List ℕ) → Bytes bs → s + length bs ≡ e → s + cond b 256 0 ≤ m → Alike s m bs bs' → Related (ValueAlike s (cond b 256 0) m e) (code_in p b bs) (code_in p b bs')
  code_alike s false bs bs' h z room k = record { both = record { at = s; value = refl; onward = omega arith; near = omega arith; ends = z; bytes = h; rest = k } }
  code_alike s true [] [] h z room k = record { both = refl }
  code_alike s true [] (n' ∷ bs') h z room k = let l = k.long in absurd (omega arith)
  code_alike s true (n ∷ bs) [] h z room k = let l = k.long in absurd (omega arith)
  code_alike s true (n ∷ bs) (n' ∷ bs') h z room k =
      let small = h.0 in
      related_weaker (PartAlike (s + 1) n m e) (ValueAlike s 256 m e) (part_in p n bs) (part_in p n' bs')
      (λ q q' d. let l = d.long in let w = d.ends in record {
        at = s + 1 + n;
        value = alike_all (s + 1) m q.0 q'.0 (omega arith) d.part;
        onward = omega arith;
        near = omega arith;
        ends = w;
        bytes = d.bytes;
        rest = d.rest;
      })
      (part_alike (s + 1) n n' bs bs' (alike_first s m n n' bs bs' (omega arith) k) h.1 (omega arith) (alike_rest s m n n' bs bs' k))

  length_alike : (s : ℕ) (b : Bool) (bs bs' : List ℕ) → Bytes bs → s + length bs ≡ e → s + cond b 2 0 ≤ m → Alike s m bs bs' → Related (ValueAlike s (cond b 2 0) m e) (length_in p b bs) (length_in p b bs')
  length_alike s false bs bs' h z room k = record { both = record { at = s; value = refl; onward = omega arith; near = omega arith; ends = z; bytes = h; rest = k } }
  length_alike s true [] [] h z room k = record { both = refl }
  length_alike s true [] (a' ∷ bs') h z room k = let l = k.long in absurd (omega arith)
  length_alike s true (a ∷ []) [] h z room k = let l = k.long in absurd (omega arith)
  length_alike s true (a ∷ []) (a' ∷ []) h z room k = record { both = refl }
  length_alike s true (a ∷ []) (a' ∷ b' ∷ bs') h z room k = let l = k.long in absurd (omega arith)
  length_alike s true (a ∷ b ∷ bs) [] h z room k = let l = k.long in absurd (omega arith)
  length_alike s true (a ∷ b ∷ bs) (a' ∷ []) h z room k = let l = k.long in absurd (omega arith)
  length_alike s true (a ∷ b ∷ bs) (a' ∷ b' ∷ bs') h z room k =
      let k1 = alike_rest s m a a' (b ∷ bs) (b' ∷ bs') k in
      let low = alike_first s m a a' (b ∷ bs) (b' ∷ bs') (omega arith) k in
      let high = alike_first (s + 1) m b b' bs bs' (omega arith) k1 in
      record {
        both = record {
          at = s + 1 + 1;
          value = λ i. low i + high i * 256;
          onward = omega arith;
          near = omega arith;
          ends = omega arith;
          bytes = h.1.1;
          rest = alike_rest (s + 1) m b b' bs bs' k1;
        };
      }

  -- Two blocks of the same lengths are taken alike.
  blocks_alike : (s at o o' : ℕ) (c c' : List ℕ) (x x' y y' : ℕ) (bs bs' : List ℕ) → s ≤ at → o ≡ o' → c ≡ c' → x ≡ x' → y ≡ y' → Bytes bs → at + length bs ≡ e → Alike at m bs bs' →
      Related (PartsAlike s m e)
      (part_in p x bs >>= (λ X. part_in p y X.1 >>= (λ Y. Ok (record { byte = o; code = c; first = X.0; second = Y.0; after = Y.1 }))))
      (part_in p x' bs' >>= (λ X. part_in p y' X.1 >>= (λ Y. Ok (record { byte = o'; code = c'; first = X.0; second = Y.0; after = Y.1 }))))
  blocks_alike s at o o' c c' x x' y y' bs bs' onward O C X≡ Y≡ h z k =
      related_then (PartsAlike s m e) (PartAlike at x m e) (part_in p x bs) (part_in p x' bs') _ _ (part_alike at x x' bs bs' X≡ h z k)
      (λ X X' P.
      related_then (PartsAlike s m e) (PartAlike (at + x) y m e) (part_in p y X.1) (part_in p y' X'.1) _ _ (part_alike (at + x) y y' X.1 X'.1 Y≡ P.bytes P.ends P.rest)
      (λ Y Y' Q.
      let l = P.long in let l' = Q.long in let ends = Q.ends in
      record {
        both = record {
          at = at;
          byte = O;
          code = C;
          onward = onward;
          ends = omega arith;
          first_bytes = P.part_bytes;
          second_bytes = Q.part_bytes;
          after_bytes = Q.bytes;
          first = P.part;
          second = subst (λ j. Alike (at + j) m Y.0 Y'.0) (sym l) Q.part;
          after = subst (λ j. Alike j m Y.1 Y'.1) (omega arith) Q.rest;
        };
      }))

  -- The same parts are read, where all bytes before the blocks stand before place m.
  parts_alike : (k : Form) (s : ℕ) (bs bs' : List ℕ) → Bytes bs → s + length bs ≡ e → s + 260 ≤ m → Alike s m bs bs' → Related (PartsAlike s m e) (parts_in p k bs) (parts_in p k bs')
  parts_alike k s bs bs' h z room l =
      let short = head_short k in
      related_then (PartsAlike s m e) (ValueAlike s (cond (has_byte k) 1 0) m e) (byte_in p (has_byte k) bs) (byte_in p (has_byte k) bs') _ _
      (byte_alike s (has_byte k) bs bs' h z (omega arith) l)
      (λ o o' O.
      let O1 = O.near in let O2 = O.onward in
      related_then (PartsAlike s m e) (ValueAlike O.at (cond (has_expression k) 256 0) m e) (code_in p (has_expression k) o.1) (code_in p (has_expression k) o'.1) _ _
      (code_alike O.at (has_expression k) o.1 o'.1 O.bytes O.ends (omega arith) O.rest)
      (λ c c' C.
      let C1 = C.near in let C2 = C.onward in
      related_then (PartsAlike s m e) (ValueAlike C.at (cond (has_block k) 2 0) m e) (length_in p (has_block k) c.1) (length_in p (has_block k) c'.1) _ _
      (length_alike C.at (has_block k) c.1 c'.1 C.bytes C.ends (omega arith) C.rest)
      (λ x x' X.
      let X1 = X.near in let X2 = X.onward in
      related_then (PartsAlike s m e) (ValueAlike X.at (cond (has_second_block k) 2 0) m e) (length_in p (has_second_block k) x.1) (length_in p (has_second_block k) x'.1) _ _
      (length_alike X.at (has_second_block k) x.1 x'.1 X.bytes X.ends (omega arith) X.rest)
      (λ y y' Y.
      let Y2 = Y.onward in
      blocks_alike s Y.at o.0 o'.0 c.0 c'.0 x.0 x'.0 y.0 y'.0 y.1 y'.1 (omega arith) O.value C.value X.value Y.value Y.bytes Y.ends Y.rest))))

-- The same statement before its blocks; its blocks and what comes after them are alike before place m.
pub record HeadAlike (s m e : ℕ) (h h' : Head) : Type 0 where
  pub form : h.form ≡ h'.form
  pub parts : PartsAlike s m e h.parts h'.parts
  pub expression : h.expression ≡ h'.expression

-- The same is read of a statement before its blocks, where all these bytes stand before place m.
pub head_alike : (ds : List Variable) (n t : ℕ) (a : Counts) (p c s m e : ℕ) (bs bs' : List ℕ) → Bytes bs → s + length bs ≡ e → s + 260 ≤ m → Alike s m bs bs' → Related (HeadAlike s m e) (read_head ds n t a p c bs) (read_head ds n t a p c bs')
head_alike ds n t a p c s m e bs bs' h z room l =
    let R = HeadAlike s m e in
    same_then R (from_some (numbered form_byte forms c) (Reading (Unknown p))) _ _ _ refl
    (λ k _. same_then R (ensure (within_limits n k a) (OverLimit p)) _ _ _ refl
    (λ _ _. related_then R (PartsAlike s m e) (refused_as Reading (parts_in p k bs)) (refused_as Reading (parts_in p k bs')) _ _
    (related_refused (PartsAlike s m e) Reading (parts_in p k bs) (parts_in p k bs') (parts_alike p m e k s bs bs' h z room l))
    (λ o o' O. same_then R (ensure (flags_known k o.byte) (Reading (Unknown p))) _ _ _ (ap (λ b. ensure (flags_known k b) (Reading (Unknown p))) O.byte)
    (λ _ _. same_then R (ensure (set_right ds t k o.byte) (WrongVariable p)) _ _ _ (ap (λ b. ensure (set_right ds t k b) (WrongVariable p)) O.byte)
    (λ _ _. same_then R (expression_of ds t (place_of_code k p) p (has_expression k) o.code) _ _ _ (ap (expression_of ds t (place_of_code k p) p (has_expression k)) O.code)
    (λ x _. record { both = record { form = refl; parts = O; expression = refl } }))))))
