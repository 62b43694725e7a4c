-- The value memory: which place holds what.
use Rattle.std.specs.Prelude.{ℕ, ◌-◌, ◌/◌, ◌%◌, true, false, cond, List, Some, None, Option, ◌==◌, nat_lt, slice_index_or}
use Rattle.arithmetic.specs.Meaning.{Meaning}
use Rattle.rules.specs.Scopes.{is_shared, is_private}
use Rattle.rules.specs.Threads.{Own, Arms, no_arms, both, Thread, Config}
use Rattle.rules.specs.Values.{declared, zero_value}
use Rattle.rules.specs.declared.program.Variable.{Variable}

-- The first where it is there, else the second.
abbrev pub or_else : {A : Type 0} → Option A → Option A → Option A
or_else None o = o
or_else (Some a) o = Some a

module _ {V : Type 0} where
  -- Thread number t among arms and the threads below them, if it is there.
  abbrev pub thread_below : ℕ → Arms V → Option (Own V)
  thread_below t no_arms = None
  thread_below t (both a b l L r R rest) = elim (t == a) [
    | true ↦ Some l
    | false ↦ elim (t == b) [ true ↦ Some r | false ↦ or_else (thread_below t L) (or_else (thread_below t R) (thread_below t rest)) ]
  ]

  -- Thread number t, if the program has it.
  abbrev pub thread_at : ℕ → Thread V → Option (Own V)
  thread_at t h = elim (t == 0) [ true ↦ Some h.own | false ↦ thread_below t h.below ]

module _ {V : Type 0} (M : Meaning V) (ds : List Variable) where
  -- What a thread holds of variable v; the constant 0 without such a thread.
  abbrev pub value_of : Option (Own V) → ℕ → V
  value_of None v = zero_value M
  value_of (Some o) v = slice_index_or o.memo.values v (zero_value M)

  -- Variable v's store; a private's is what its owner has.
  abbrev pub store_at : Config V → ℕ → V
  store_at σ v = cond (is_private (declared ds v).kind) (value_of (thread_at (declared ds v).owner σ.main) v) (slice_index_or σ.stores v (zero_value M))

  -- Thread t's copy of variable v; what is no shared variable's holds constant 0.
  abbrev pub copy_at : Config V → (t v : ℕ) → V
  copy_at σ t v = cond (is_shared (declared ds v).kind) (value_of (thread_at t σ.main) v) (zero_value M)

  -- Place v below 32 is variable v's store, place 32 × (t + 1) + v is thread t's copy of shared variable v.
  abbrev pub place_at : Config V → ℕ → V
  place_at σ i = cond (nat_lt i 32) (store_at σ i) (copy_at σ (i / 32 - 1) (i % 32))
