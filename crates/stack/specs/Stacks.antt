-- What a stack over lent places holds.
use Rattle.std.specs.Prelude.{◌≡◌, ℕ, List, [], ◌∷◌, reverse, length, take, Some, None, Option}
use Rattle.stack.specs.declared.Stack.{Stack}

module _ {T : Type 0} where
  -- The stacked values, the last pushed first.
  abbrev pub stacked : Stack T → List T
  stacked s = reverse (take s.depth s.places.now)

  -- How many values can be stacked at once.
  abbrev pub room : Stack T → ℕ
  room s = length s.places.now

  -- Both stacks lie on the same places: as many values can be stacked, and they are lent by the same lender.
  pub record SamePlaces (old new : Stack T) : Type 0 where
    pub as_many : room new ≡ room old
    pub lender : new.places.ghost_name ≡ old.places.ghost_name

-- A pop takes the value that was pushed last.
abbrev pub popped_value : {T : Type 0} → List T → Option T
popped_value [] = None
popped_value (x ∷ xs) = Some x

-- A pop leaves the others; of nothing it leaves nothing.
abbrev pub popped_rest : {T : Type 0} → List T → List T
popped_rest [] = []
popped_rest (x ∷ xs) = xs
