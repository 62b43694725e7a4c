-- The forms of statements by what operands they have, so that reading has one case for all.
use Rattle.std.specs.Prelude.{ℕ, ◌%◌, Bool, true, false, List, [], ◌∷◌, ◌==◌, nat_le, nat_lt}
use Rattle.rules.specs.Text.{Expression, Stmt, nothing, assign, pause, branch, loop, par, abort, Block}
use Rattle.rules.specs.declared.program.Form.{Form}
use Rattle.rules.specs.declared.program.Form.TheVariants.{Nothing, Set, Pause, If, Loop, Par, Abort}

-- The seven forms, in the order of their command bytes.
abbrev pub forms : List Form
forms = Nothing ∷ Set ∷ Pause ∷ If ∷ Loop ∷ Par ∷ Abort ∷ []

-- A set has a variable, a loop its bound, an abort its flags: one byte.
abbrev pub has_byte : Form → Bool
has_byte Nothing = false
has_byte Set = true
has_byte Pause = false
has_byte If = false
has_byte Loop = true
has_byte Par = false
has_byte Abort = true

-- A set, an if, a loop and an abort have an expression.
abbrev pub has_expression : Form → Bool
has_expression Nothing = false
has_expression Set = true
has_expression Pause = false
has_expression If = true
has_expression Loop = true
has_expression Par = false
has_expression Abort = true

-- An if, a loop, a par and an abort have a block.
abbrev pub has_block : Form → Bool
has_block Nothing = false
has_block Set = false
has_block Pause = false
has_block If = true
has_block Loop = true
has_block Par = true
has_block Abort = true

-- An if and a par have a second block.
abbrev pub has_second_block : Form → Bool
has_second_block Nothing = false
has_second_block Set = false
has_second_block Pause = false
has_second_block If = true
has_second_block Loop = false
has_second_block Par = true
has_second_block Abort = false

-- A par is one par, a statement of another form none.
abbrev pub par_count : Form → ℕ
par_count Nothing = 0
par_count Set = 0
par_count Pause = 0
par_count If = 0
par_count Loop = 0
par_count Par = 1
par_count Abort = 0

-- The flags of an abort are bits 0 and 1.
abbrev pub flags_known : Form → ℕ → Bool
flags_known Nothing o = true
flags_known Set o = true
flags_known Pause o = true
flags_known If o = true
flags_known Loop o = true
flags_known Par o = true
flags_known Abort o = nat_lt o 4

-- The statement of a form, with its byte, its expression and its blocks as far as it has them.
abbrev pub build : Form → ℕ → Expression → (X Y : Block (Unit {0})) → Stmt (Unit {0})
build Nothing o e X Y = nothing tt
build Set o e X Y = assign tt o e
build Pause o e X Y = pause tt
build If o e X Y = branch tt e X Y
build Loop o e X Y = loop tt o e X
build Par o e X Y = par tt X Y
build Abort o e X Y = abort tt (o % 2 == 1) (nat_le 2 o) e X
