-- The extents of statements and blocks, by the extents of their parts.
use Rattle.std.proofs.Common.{◌≡◌, ℕ, zero, suc, ◌+◌, ◌*◌, false, refl, arith}
use Rattle.std.proofs.lemmas.Grind.{common_steps}
use Rattle.rules.specs.Lengths.{block_length}
use Rattle.rules.specs.Text.{Expression, Stmt, loop, Block, ◌then◌}
use Rattle.rules.specs.Forms.{build}
use Rattle.rules.specs.declared.program.Form.{Form}
use Rattle.reader.specs.declared.extents.Extent.{Extent}
use Rattle.reader.specs.Extents.{capped, extent, extent_of, joined, looped, built}

-- A statement and then a block extend what was before.
pub joins : (x : Extent) (s : Stmt (Unit {0})) (B : Block (Unit {0})) → joined x (extent (s then B)) ≡ joined (joined x (extent_of s)) (extent B)
joins x s B = grind (arith, common_steps)

-- Nothing before a block.
pub joins_none : (B : Block (Unit {0})) → joined (record { length = 0; pauses = false }) (extent B) ≡ extent B
joins_none B = grind (arith, common_steps)

-- A product is exact up to the cap, if it has a factor that is.
times : (n x : ℕ) → capped (suc n * capped x) ≡ capped (suc n * x)
times n x = grind (arith, common_steps)

loops : (n : ℕ) (e : Expression) (X : Block (Unit {0})) → looped n (extent X) ≡ extent_of (loop tt n e X)
loops zero e X = let h : capped (1 + capped (2 * capped (block_length X))) ≡ capped (1 + 2 * block_length X) = omega arith in λ i. record { length = h i; pauses = false }
loops (suc n) e X = let t = times n (block_length X) in grind (arith, common_steps)

-- A statement is as long as its blocks say.
pub builds : (k : Form) (o : ℕ) (e : Expression) (X Y : Block (Unit {0})) → built k o (extent X) (extent Y) ≡ extent_of (build k o e X Y)
builds Form.Nothing o e X Y = refl
builds Form.Set o e X Y = refl
builds Form.Pause o e X Y = refl
builds Form.If o e X Y = grind (arith, common_steps)
builds Form.Loop o e X Y = loops o e X
builds Form.Par o e X Y = grind (arith, common_steps)
builds Form.Abort o e X Y = grind (arith, common_steps)
