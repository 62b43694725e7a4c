-- What an accepted program's text keeps: its loops are numbered in order, its pausing loops pause, its tick length is the program's.
use Rattle.std.proofs.Common.{◌≡◌, ℕ, zero, suc, ◌+◌, ◌*◌, ◌≤◌, max, Bool, true, false, not, ◌&&◌, ◌||◌, T, leb, List, [], ◌∷◌, length, Ok, Err, Result, sym, refl, ap, subst, ap₂, arith}
use Rattle.rules.specs.Encoding.{block_bytes}
use Rattle.rules.specs.Lengths.{length_of, block_length, loop_length, pauses, must_pause, longest_tick, tick_length}
use Rattle.rules.specs.Numbering.{number_statement, number_block, text_of}
use Rattle.rules.specs.Outcomes.{◌>>=◌, ensure}
use Rattle.rules.specs.Reading.{head_size, idle, statement_pauses, loops_pause, read, read_all, read_declarations, read_block, owners_live, start, most_nested, most_bytes}
use Rattle.rules.specs.Text.{Stmt, nothing, assign, pause, branch, loop, par, abort, Block, end, ◌then◌, Program, arms}
use Rattle.laws.proofs.Bound.{Pausing, Sound, SoundS}

-- A step that was gone on with had a result.
pub bind_ok : {A B E : Type 0} (r : Result A E) (f : A → Result B E) (b : B) → (r >>= f) ≡ Ok b → (a : A) × (r ≡ Ok a) × (f a ≡ Ok b)
bind_ok (Ok a) f b e = (a, refl, e)
bind_ok (Err x) f b e = absurd (let z : ◌≡◌ {A = ℕ} 0 1 = cc in omega arith)

pub ensured : {E : Type 0} (t : Bool) (x : E) (u : Unit {0}) → ensure t x ≡ Ok u → t ≡ true
ensured true x u e = refl
ensured false x u e = absurd (let z : ◌≡◌ {A = ℕ} 0 1 = cc in omega arith)

pub ok_same : {A E : Type 0} (a b : A) → ◌≡◌ {A = Result A E} (Ok a) (Ok b) → a ≡ b
ok_same a b e = cc

-- Numbering keeps which blocks must pause.
mutual
  pauses_numbered : (s : Stmt (Unit {0})) (n p t u : ℕ) → pauses (number_statement n p t u s) ≡ pauses s
  pauses_numbered (nothing a) n p t u = refl
  pauses_numbered (assign a v e) n p t u = refl
  pauses_numbered (pause a) n p t u = refl
  pauses_numbered (branch a e X Y) n p t u = ap₂ (λ x y. x && y) (must_pause_numbered X _ _ _ _) (must_pause_numbered Y _ _ _ _)
  pauses_numbered (loop a bound e X) n p t u = refl
  pauses_numbered (par a X Y) n p t u = ap₂ (λ x y. x || y) (must_pause_numbered X _ _ _ _) (must_pause_numbered Y _ _ _ _)
  pauses_numbered (abort a w i e X) n p t u = refl

  pub must_pause_numbered : (B : Block (Unit {0})) (n p t u : ℕ) → must_pause (number_block n p t u B) ≡ must_pause B
  must_pause_numbered end n p t u = refl
  must_pause_numbered (s then B) n p t u = ap₂ (λ x y. x || y) (pauses_numbered s _ _ _ _) (must_pause_numbered B _ _ _ _)

-- Numbering keeps the tick length.
mutual
  length_numbered : (s : Stmt (Unit {0})) (n p t u : ℕ) → length_of (number_statement n p t u s) ≡ length_of s
  length_numbered (nothing a) n p t u = refl
  length_numbered (assign a v e) n p t u = refl
  length_numbered (pause a) n p t u = refl
  length_numbered (branch a e X Y) n p t u = ap₂ (λ x y. 1 + max x y) (block_length_numbered X _ _ _ _) (block_length_numbered Y _ _ _ _)
  length_numbered (loop a bound e X) n p t u = ap (loop_length bound) (block_length_numbered X _ _ _ _)
  length_numbered (par a X Y) n p t u = ap₂ (λ x y. 3 + x + y) (block_length_numbered X _ _ _ _) (block_length_numbered Y _ _ _ _)
  length_numbered (abort a w i e X) n p t u = ap (λ x. 1 + x) (block_length_numbered X _ _ _ _)

  pub block_length_numbered : (B : Block (Unit {0})) (n p t u : ℕ) → block_length (number_block n p t u B) ≡ block_length B
  block_length_numbered end n p t u = refl
  block_length_numbered (s then B) n p t u = ap₂ (λ x y. x + y) (length_numbered s _ _ _ _) (block_length_numbered B _ _ _ _)

-- A pausing loop that is not idle pauses.
pausing : (bound n p t u : ℕ) (X : Block (Unit {0})) → not (idle bound X) ≡ true → Pausing bound (number_block n p t u X)
pausing zero n p t u X h = go (must_pause X) (must_pause_numbered X n p t u) h where
  go : (b : Bool) → must_pause (number_block n p t u X) ≡ b → not (true && not b) ≡ true → T (must_pause (number_block n p t u X))
  go true e h = subst T (sym e) tt
  go false e h = absurd (let z : ◌≡◌ {A = ℕ} 0 1 = cc in omega arith)
pausing (suc bound) n p t u X h = tt

-- Where no pausing loop was found that may not pause, the numbered text is sound.
mutual
  sound_statement : (s : Stmt (Unit {0})) (n p q t u x : ℕ) (o : Unit {0}) → x ≤ n → statement_pauses p n t u s ≡ Ok o → SoundS (number_statement n q t u s) x
  sound_statement (nothing a) n p q t u x o h e = tt
  sound_statement (assign a v f) n p q t u x o h e = tt
  sound_statement (pause a) n p q t u x o h e = tt
  sound_statement (branch a f X Y) n p q t u x o h e =
      let i = bind_ok (loops_pause (p + head_size (branch a f X Y) (length (block_bytes X) + length (block_bytes Y))) (n + 1) t u X) _ o e in
      (sound_block X _ _ _ _ _ x i.0 (omega arith) i.1, sound_block Y _ _ _ _ _ x o (omega arith) i.2)
  sound_statement (loop a bound f X) n p q t u x o h e =
      let i = bind_ok (ensure (not (idle bound X)) _) _ o e in
      (h, sound_block X _ _ _ _ _ (suc n) o (omega arith) i.2, pausing bound _ _ _ _ X (ensured (not (idle bound X)) _ i.0 i.1))
  sound_statement (par a X Y) n p q t u x o h e =
      let i = bind_ok (loops_pause (p + head_size (par a X Y) (length (block_bytes X) + length (block_bytes Y))) (n + 1) u (u + 1) X) _ o e in
      (sound_block X _ _ _ _ _ 0 i.0 (omega arith) i.1, sound_block Y _ _ _ _ _ 0 o (omega arith) i.2)
  sound_statement (abort a w j f X) n p q t u x o h e = sound_block X _ _ _ _ _ x o (omega arith) e

  pub sound_block : (B : Block (Unit {0})) (n p q t u x : ℕ) (o : Unit {0}) → x ≤ n → loops_pause p n t u B ≡ Ok o → Sound (number_block n q t u B) x
  sound_block end n p q t u x o h e = tt
  sound_block (s then B) n p q t u x o h e =
      let i = bind_ok (statement_pauses p n t u s) _ o e in
      (sound_statement s n p q t u x i.0 h i.1, sound_block B _ _ _ _ _ x o (omega arith) i.2)

-- The text of a program that was read: sound, and as long as the program.
pub accepted_sound : (bs : List ℕ) (p : Program) → read bs ≡ Ok p → Sound (text_of p) 0
accepted_sound bs p e =
    let a = bind_ok (ensure (leb 1 (length bs) && leb (length bs) most_bytes) _) _ p e in
    go bs (length bs) a.2 where
      go : (bs : List ℕ) (l : ℕ) → read_all l bs ≡ Ok p → Sound (text_of p) 0
      go [] l e = absurd (let z : ◌≡◌ {A = ℕ} 0 1 = cc in omega arith)
      go (n ∷ bs) l e =
          let a = bind_ok (ensure (leb n 32) _) _ p e in
          let b = bind_ok (read_declarations n l bs) _ p a.2 in
          let c = bind_ok (read_block b.0.0 most_nested 0 start l b.0.1) _ p b.2 in
          let d = bind_ok (owners_live (1 + arms c.0) 1 b.0.0) _ p c.2 in
          let f = bind_ok (loops_pause (1 + 16 * n) 0 0 1 c.0) _ p d.2 in
          let g = bind_ok (ensure (leb (block_length c.0 + 1) longest_tick) _) _ p f.2 in
          let same : record { variables = b.0.0; main = c.0 } ≡ p = ok_same _ p g.2 in
          subst (λ (q : Program). Sound (text_of q) 0) same (sound_block c.0 0 (1 + 16 * n) (1 + 16 * length b.0.0) 0 1 0 f.0 (omega arith) f.1)

pub text_length : (p : Program) → block_length (text_of p) + 1 ≡ tick_length p
text_length p = ap (λ x. x + 1) (block_length_numbered p.main 0 (1 + 16 * length p.variables) 0 1)
