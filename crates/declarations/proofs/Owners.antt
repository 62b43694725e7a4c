-- The owners that declarations name.
use Rattle.std.proofs.Common.{◌≡◌, ℕ, ◌+◌, ◌*◌, Bool, leb, List, [], ◌∷◌, Option, Some, None, Ok, Err, Result, position, refl, sym, ap, ◌∙◌, inl, inr, arith}
use Rattle.std.specs.List.{position_from}
use Rattle.std.proofs.lemmas.Bool.{lt-ltb, le-ltb}
use Rattle.std.proofs.lemmas.Bool.Decides.{leb_tells}
use Rattle.std.proofs.lemmas.Iterator.Adapters.{position_from-zero}
use Rattle.rules.specs.Reading.{owners_live}
use Rattle.rules.specs.declared.program.Variable.{Variable}
use Rattle.rules.specs.declared.faults.LoadFault.{LoadFault}
use Rattle.rules.specs.declared.faults.LoadFault.TheVariants.{BadDeclaration}
use Rattle.declarations.specs.Declaring.{variable_of, variables_of}
use Rattle.declarations.specs.declared.declaration.Declaration.{Declaration}

-- The declaration of this number is bad, if there is one.
abbrev pub bad_at : Option ℕ → Result (Unit {0}) LoadFault
bad_at None = Ok tt
bad_at (Some i) = Err (BadDeclaration (1 + 16 * i))

module _ (threads : ℕ) where
  -- The owner is none of the threads.
  abbrev pub is_dead : Declaration → Bool
  is_dead d = leb threads (variable_of d).owner

  -- Of declarations from number i on, the first whose owner is none of the threads is bad.
  owners_live-first_dead : (i : ℕ) (ds : List Declaration) → owners_live threads (1 + 16 * i) (variables_of ds) ≡ bad_at (position_from is_dead i ds)
  owners_live-first_dead i [] = refl
  owners_live-first_dead i (d ∷ ds) =
      let place : 1 + 16 * i + 16 ≡ 1 + 16 * (i + 1) = omega arith in
      let others = ap (λ p. owners_live threads p (variables_of ds)) place ∙ owners_live-first_dead (i + 1) ds in
      elim (leb_tells threads (variable_of d).owner) [
        | inl t ↦ rw (t.0, le-ltb (variable_of d).owner threads t.1) refl
        | inr t ↦ rw (t.0, lt-ltb (variable_of d).owner threads t.1) others
      ]

  -- The first of all declarations whose owner is none of the threads decides.
  pub first_dead_decides : (ds : List Declaration) (vs : List Variable) → variables_of ds ≡ vs → bad_at (position is_dead ds) ≡ owners_live threads 1 vs
  first_dead_decides ds vs e = ap bad_at (position_from-zero is_dead ds) ∙ sym (owners_live-first_dead 0 ds) ∙ ap (owners_live threads 1) e
