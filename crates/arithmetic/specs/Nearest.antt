-- Limiting a number gives the nearest number within the limits.
use Rattle.std.specs.Prelude.{ℤ, ◌≤ℤ◌}
use Rattle.std.proofs.Common.{arith}
use Rattle.std.proofs.lemmas.Int.{ints, clamps}
use Rattle.arithmetic.specs.Meaning.{Nearest}
use Rattle.arithmetic.specs.Plain.{clamped}

pub clamped_nearest : (low high z : ℤ) → low ≤ℤ high → Nearest low high z (clamped low high z)
clamped_nearest low high z h = record {
  above = omega (arith, ints, clamps);
  below = omega (arith, ints, clamps);
  near = λ n p q. omega (arith, ints, clamps);
}
