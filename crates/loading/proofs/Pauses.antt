-- Pausing loops: the check after all bytes accepts exactly the blocks whose pausing loops always pause.
use Rattle.std.proofs.Common.{◌≡◌, ℕ, zero, suc, Bool, true, false, not, ◌&&◌, eqb, Ok, refl, ap, arith}
use lib.Dec.{eqb-suc-zero}
use Rattle.rules.specs.Lengths.{must_pause}
use Rattle.rules.specs.Reading.{idle, statement_pauses, loops_pause}
use Rattle.rules.specs.Text.{Stmt, nothing, assign, pause, branch, loop, par, abort, Block, end, ◌then◌}
use Rattle.rules.specs.Valid.{Pausing, PausingStatement}
use Rattle.rules.proofs.Results.{goes_on, ok_then, ensure_ok, ensure_then}

-- A loop is not idle exactly if with bound 0 its block always pauses.
busy : (n : ℕ) (b : Bool) → (n ≡ 0 → b ≡ true) → not (eqb n 0 && not b) ≡ true
busy zero b h = ap (λ c. not (not c)) (h refl)
busy (suc n) b h = ap (λ c. not (c && not b)) (eqb-suc-zero n)

busy_from : (n : ℕ) (b : Bool) → not (eqb n 0 && not b) ≡ true → n ≡ 0 → b ≡ true
busy_from zero true h e = refl
busy_from zero false h e = h
busy_from (suc n) b h e = absurd (omega arith)

-- Where pausing loops always pause, the check accepts.
mutual
  statement_pauses_back : (s : Stmt (Unit {0})) (p n t u : ℕ) → PausingStatement s → statement_pauses p n t u s ≡ Ok tt
  statement_pauses_back (nothing a) p n t u h = refl
  statement_pauses_back (assign a v e) p n t u h = refl
  statement_pauses_back (pause a) p n t u h = refl
  statement_pauses_back (branch a e X Y) p n t u h = goes_on _ (loops_pause_back X _ _ _ _ h.0) (loops_pause_back Y _ _ _ _ h.1)
  statement_pauses_back (loop a b e X) p n t u h = goes_on _ (ensure_ok _ (busy b (must_pause X) h.0)) (loops_pause_back X _ _ _ _ h.1)
  statement_pauses_back (par a X Y) p n t u h = goes_on _ (loops_pause_back X _ _ _ _ h.0) (loops_pause_back Y _ _ _ _ h.1)
  statement_pauses_back (abort a w i e X) p n t u h = loops_pause_back X _ _ _ _ h

  pub loops_pause_back : (B : Block (Unit {0})) (p n t u : ℕ) → Pausing B → loops_pause p n t u B ≡ Ok tt
  loops_pause_back end p n t u h = refl
  loops_pause_back (s then B) p n t u h = goes_on _ (statement_pauses_back s _ _ _ _ h.0) (loops_pause_back B _ _ _ _ h.1)

-- Where the check accepts, pausing loops always pause.
mutual
  statement_pauses_from : (s : Stmt (Unit {0})) (p n t u : ℕ) (z : Unit {0}) → statement_pauses p n t u s ≡ Ok z → PausingStatement s
  statement_pauses_from (nothing a) p n t u z h = tt
  statement_pauses_from (assign a v e) p n t u z h = tt
  statement_pauses_from (pause a) p n t u z h = tt
  statement_pauses_from (branch a e X Y) p n t u z h = let k = ok_then (loops_pause _ _ _ _ X) _ z h in (loops_pause_from X _ _ _ _ _ k.1, loops_pause_from Y _ _ _ _ _ k.2)
  statement_pauses_from (loop a b e X) p n t u z h = let k = ensure_then (not (idle b X)) _ _ z h in (busy_from b (must_pause X) k.0, loops_pause_from X _ _ _ _ _ k.1)
  statement_pauses_from (par a X Y) p n t u z h = let k = ok_then (loops_pause _ _ _ _ X) _ z h in (loops_pause_from X _ _ _ _ _ k.1, loops_pause_from Y _ _ _ _ _ k.2)
  statement_pauses_from (abort a w i e X) p n t u z h = loops_pause_from X _ _ _ _ z h

  pub loops_pause_from : (B : Block (Unit {0})) (p n t u : ℕ) (z : Unit {0}) → loops_pause p n t u B ≡ Ok z → Pausing B
  loops_pause_from end p n t u z h = tt
  loops_pause_from (s then B) p n t u z h = let k = ok_then (statement_pauses _ _ _ _ s) _ z h in (statement_pauses_from s _ _ _ _ _ k.1, loops_pause_from B _ _ _ _ _ k.2)
