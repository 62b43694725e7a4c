-- Writing a valid program, and reading it back.
use Rattle.std.proofs.Common.{◌≡◌, Ok, Result, sym, refl, ◌∙◌}
use Rattle.rules.specs.Encoding.{encode}
use Rattle.rules.specs.Text.{Program}
use Rattle.rules.specs.declared.faults.LoadFault.{LoadFault}
use Rattle.loading.specs.Writing.{WrittenIsRead, WritingTellsApart}
use Rattle.loading.proofs.Whole.{loading_accepts_the_valid}

pub written_is_read : WrittenIsRead
written_is_read p v b = (loading_accepts_the_valid (encode p) p b).1 (v, refl)

pub writing_tells_apart : WritingTellsApart
writing_tells_apart p q v w b e =
    let r : ◌≡◌ {A = Result Program LoadFault} (Ok p) (Ok q) = sym (written_is_read p v b) ∙ (loading_accepts_the_valid (encode p) q b).1 (w, sym e) in
    cc
