-- The declarations that are read, and those that are left.
use Rattle.std.proofs.Common.{◌≡◌, ◌+◌, ◌-◌, ◌*◌, length}
use Rattle.declarations.specs.Listing.{listed}
use Rattle.declarations.proofs.InOrder.{Ahead}
use Rattle.declarations.proofs.program.read_declarations.Given as goal

abbrev pub invariant-loop-i : goal.invariant-loop-i
invariant-loop-i l = (length (listed l.declarations) ≡ l.i) × Ahead l.program (listed l.declarations) (l.count - l.i) (1 + 16 * l.i)
