-- What the readers of statements and blocks answer, as a summary of what reading gives.
use Rattle.std.specs.Prelude.{ℕ, suc, ◌+◌, ◌-◌, List, length, Ok, Err, Result}
use Rattle.rules.specs.Outcomes.{refused_as}
use Rattle.rules.specs.Reading.{Counts as Counted, Head as Headed, read_head, after_statement}
use Rattle.rules.specs.Text.{Stmt, Block, count, pars, arms}
use Rattle.rules.specs.declared.faults.LoadFault.{LoadFault}
use Rattle.rules.specs.declared.faults.LoadFault.TheVariants.{Statement}
use Rattle.rules.specs.declared.program.Variable.{Variable}
use Rattle.reader.specs.declared.extents.Extent.{Extent}
use Rattle.reader.specs.declared.faults.SitedFault.{SitedFault}
use Rattle.reader.specs.declared.heads.Head.{Head}
use Rattle.reader.specs.Extents.{extent, extent_of}
use Rattle.reader.specs.Seen.{Seen, seen}

-- A head with the bytes left after it, or the fault of the program that a sited fault is.
abbrev pub told_head : List ℕ → Result Head SitedFault → Result Seen LoadFault
told_head l (Ok h) = Ok (seen l h)
told_head l (Err f) = Err (Statement f.fault f.site)

-- The head of a statement in a block that ends at `end`, as reading a statement begins.
abbrev pub head_at : List Variable → (n t : ℕ) → Counted → (end c : ℕ) → List ℕ → Result Headed LoadFault
head_at ds n t a e c bs = refused_as (λ f. Statement f (record { statement = a.statements; thread = t })) (read_head ds n t a (e - suc (length bs)) c bs)

-- The counts after a block.
abbrev pub after_block : Block (Unit {0}) → Counted → Counted
after_block B a = record { statements = a.statements + count B; pars = a.pars + pars B; threads = a.threads + arms B }

-- A block's extent with the counts that it leaves.
abbrev pub with_counts : Counted → Extent → Extent × Counted
with_counts a x = (x, a)

-- A statement's extent with the counts that it leaves, and the bytes left after it.
abbrev pub with_counts_and_left : Counted → List ℕ → Extent → Extent × Counted × List ℕ
with_counts_and_left a l x = (x, a, l)

-- The summary of a block that was read: its extent, and the counts after it.
abbrev pub sum_block : Counted → Block (Unit {0}) → Extent × Counted
sum_block a B = (extent B, after_block B a)

-- The summary of a statement that was read, with the bytes after it.
abbrev pub sum_statement : Counted → Stmt (Unit {0}) × List ℕ → Extent × Counted × List ℕ
sum_statement a q = (extent_of q.0, after_statement q.0 a, q.1)
