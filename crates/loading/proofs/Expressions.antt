-- Expressions: what is written is read, and what is read was written and keeps the rules.
use Rattle.std.proofs.Common.{◌≡◌, ℕ, ◌+◌, ◌-◌, ◌<◌, ◌≤◌, ◌&&◌, eqb, leb, List, [], ◌∷◌, length, Some, None, Ok, Option, sym, refl, ap, subst, arith, w32, of_z}
use mir.ValLaws.{of_z_fits}
use Rattle.std.specs.List.{AllByRecursion as All}
use Rattle.std.proofs.lemmas.Bool.{eqb-true, leb-true, le-leb, eq-eqb, and_from, and_parts}
use Rattle.std.proofs.lemmas.Option.{none-some, same_Some}
use Rattle.arithmetic.specs.declared.operators.Operator.{Operator}
use Rattle.arithmetic.specs.declared.operators.Operator.TheVariants.{Add, Subtract, Multiply, Lesser, Greater, LessThan, Equal}
use Rattle.arithmetic.specs.Operators.{operator_byte}
use Rattle.evaluator.specs.Commands.{Command, constant, variable, operator, inversion, written, Writable, Placed, commands_of, one_more, all_read}
use Rattle.evaluator.specs.Evaluating.{deepest, longest}
use Rattle.evaluator.proofs.Reading.{Bytes, reading_inverts_writing}
use Rattle.rules.specs.Reading.{takes, stackable, command_readable, checked, read_expression}
use Rattle.rules.specs.Text.{Expression}
use Rattle.rules.specs.Valid.{StacksRight, RightExpression}
use Rattle.rules.specs.declared.program.Variable.{Variable}
use Rattle.rules.proofs.Results.{goes_on, ok_then, some_ok, some_then, ensure_ok, ensure_then, same_ok}

-- The byte of an operator is a byte.
operator_small : (o : Operator) → operator_byte o < 256
operator_small Add = omega arith
operator_small Subtract = omega arith
operator_small Multiply = omega arith
operator_small Lesser = omega arith
operator_small Greater = omega arith
operator_small LessThan = omega arith
operator_small Equal = omega arith

-- Commands that can be written are written in bytes.
written_bytes : (e : Expression) → All Writable e → Bytes (written e)
written_bytes [] w = tt
written_bytes (constant n ∷ e) w = let f : of_z w32 n < 4294967296 = (of_z_fits w32 n w.0).fits in (omega arith, (omega arith, (omega arith, (omega arith, (omega arith, written_bytes e w.1)))))
written_bytes (variable v ∷ e) w = (omega arith, (w.0, written_bytes e w.1))
written_bytes (operator o ∷ e) w = (operator_small o, written_bytes e w.1)
written_bytes (inversion ∷ e) w = (omega arith, written_bytes e w.1)

-- Commands that all could be read: the first, and the others.
one_more_inv : (o : Option Command) (r : Option (List Command)) (e : Expression) → one_more o r ≡ Some e → (c : Command) × (cs : Expression) × (o ≡ Some c) × (r ≡ Some cs) × (c ∷ cs ≡ e)
one_more_inv None r e h = absurd (none-some _ h)
one_more_inv (Some c) None e h = absurd (none-some _ h)
one_more_inv (Some c) (Some cs) e h = (c, cs, refl, refl, same_Some _ _ h)

module _ (ds : List Variable) (t : ℕ) where
  -- Commands that stack right can be written.
  writable : (d : ℕ) (e : Expression) → StacksRight ds t d e → All Writable e
  writable d [] r = tt
  writable d (c ∷ e) r = (r.3, writable (d - takes c + 1) e r.4)

  module _ (from at : ℕ) where
    -- Commands that could be read and stack right are accepted.
    checked_back : (ps : List Placed) (d : ℕ) (e : Expression) → all_read ps ≡ Some e → StacksRight ds t d e → checked ds t from at d ps ≡ Ok e
    checked_back [] d e h r =
        subst (λ l. StacksRight ds t d l → checked ds t from at d [] ≡ Ok l) (same_Some _ _ h) (λ r. goes_on _ (ensure_ok _ (eq-eqb d 1 r)) refl) r
    checked_back (p ∷ ps) d e h r =
        let o = one_more_inv p.command (all_read ps) e h in
        let c = o.0 in
        let s : StacksRight ds t d (c ∷ o.1) = subst (StacksRight ds t d) (sym o.4) r in
        goes_on _ (some_ok _ o.2)
        (goes_on _ (ensure_ok _ (and_from _ _ (le-leb (takes c) d s.0) (le-leb (d - takes c + 1) deepest s.1)))
        (goes_on _ (ensure_ok _ s.2)
        (goes_on _ (checked_back ps (d - takes c + 1) o.1 o.3 s.4) (ap Ok o.4))))

    -- Commands that are accepted could all be read, and stack right if they can be written.
    checked_from : (ps : List Placed) (d : ℕ) (e : Expression) → checked ds t from at d ps ≡ Ok e → (all_read ps ≡ Some e) × (All Writable e → StacksRight ds t d e)
    checked_from [] d e h =
        let u = ensure_then (eqb d 1) _ _ e h in
        let P : Expression → Type 0 = λ l. (Some [] ≡ Some l) × (All Writable l → StacksRight ds t d l) in
        subst P (same_ok u.1) (refl, λ _. eqb-true d 1 u.0)
    checked_from (p ∷ ps) d e h =
        let u = some_then p.command _ _ e h in
        let c = u.0 in
        let v = ensure_then (stackable c d) _ _ e u.2 in
        let w = ensure_then (command_readable ds t c) _ _ e v.1 in
        let y = ok_then (checked ds t from at (d - takes c + 1) ps) _ e w.1 in
        let ih = checked_from ps (d - takes c + 1) y.0 y.1 in
        let b = and_parts _ _ v.0 in
        let P : Expression → Type 0 = λ l. (one_more p.command (all_read ps) ≡ Some l) × (All Writable l → StacksRight ds t d l) in
        subst P (same_ok y.2) (
          (λ i. one_more (u.1 i) (ih.0 i)),
          λ k. (leb-true (takes c) d b.0, leb-true (d - takes c + 1) deepest b.1, w.0, k.0, ih.1 k.1),
        )

  -- A right expression has bytes.
  some_written : (e : Expression) → StacksRight ds t 0 e → 1 ≤ length (written e)
  some_written [] r = absurd (omega arith)
  some_written (c ∷ e) r = omega arith

  -- A right expression is read from what it is written as.
  pub expression_back : (from at : ℕ) (e : Expression) → RightExpression ds t e → read_expression ds t from at (written e) ≡ Ok e
  expression_back from at e h =
      let w = writable 0 e h.1 in
      goes_on _ (ensure_ok _ (and_from _ _ (le-leb 1 (length (written e)) (some_written e h.1)) (le-leb (length (written e)) longest h.0)))
      (checked_back from at (commands_of (written e)) 0 e ((reading_inverts_writing (written e) e (written_bytes e w)).1 (w, refl)) h.1)

  -- An expression that is read is right, and was written so.
  pub expression_from : (from at : ℕ) (bs : List ℕ) (e : Expression) → Bytes bs → read_expression ds t from at bs ≡ Ok e → RightExpression ds t e × (written e ≡ bs)
  expression_from from at bs e h r =
      let u = ensure_then (leb 1 (length bs) && leb (length bs) longest) _ _ e r in
      let k = checked_from from at (commands_of bs) 0 e u.1 in
      let w = (reading_inverts_writing bs e h).0 k.0 in
      let long = leb-true (length bs) longest (and_parts _ _ u.0).1 in
      ((subst (λ l. length l ≤ longest) (sym w.1) long, k.1 w.0), w.1)
