-- Declarations that are read one after another.
use Rattle.std.proofs.Common.{◌≡◌, ℕ, zero, suc, ◌+◌, ◌-◌, ◌*◌, ◌<◌, ◌≤◌, Bool, true, false, leb, List, [], ◌∷◌, ◌++◌, length, take, drop, Ok, Err, Result, sym, refl, ap, ◌∙◌, subst, append_assoc, arith}
use Rattle.std.proofs.lemmas.List.{length-drop, drop-drop}
use Rattle.std.proofs.lemmas.Bool.{leb-true}
use Rattle.rules.specs.Outcomes.{◌>>=◌, ensure}
use Rattle.rules.specs.Reading.{read_declaration, read_declarations}
use Rattle.rules.specs.declared.program.Variable.{Variable}
use Rattle.rules.specs.declared.faults.LoadFault.{LoadFault}
use Rattle.rules.specs.declared.faults.LoadFault.TheVariants.{CutDeclaration, BadDeclaration}
use Rattle.rules.specs.declared.faults.ReadingFault.TheVariants.{Cut}
use Rattle.rules.proofs.Results.{same_ok, ensure_then, ok_then}
use Rattle.declarations.specs.Listing.{first_declaration, declarations_in}

-- Declarations, and the bytes after them.
abbrev pub Several : Type 0
Several = List Variable × List ℕ

-- One declaration more before others.
abbrev pub with_first : Variable → Several → Result Several LoadFault
with_first d q = Ok (d ∷ q.0, q.1)

-- Other declarations before those that are read.
abbrev pub behind : List Variable → Result Several LoadFault → Result (List Variable) LoadFault
behind ds (Ok q) = Ok (ds ++ q.0)
behind ds (Err f) = Err f

module _ {A B : Type 0} (f : LoadFault) (r : Result A LoadFault) (k : A → Result B LoadFault) where
  -- A test before a row of two stands before its first part.
  test_first : (b : Bool) → (ensure b f >>= λ _. r >>= k) ≡ (ensure b f >>= (λ _. r) >>= k)
  test_first true = refl
  test_first false = refl

module _ (n e : ℕ) (bs : List ℕ) where
  -- The first declaration is read alone, and then the others.
  first_alone : read_declarations (suc n) e bs ≡ (first_declaration e bs >>= λ d. read_declarations n e (drop 16 bs) >>= with_first d)
  first_alone = test_first (CutDeclaration (Cut (e - length bs))) (read_declaration (BadDeclaration (e - length bs)) (take 16 bs)) (λ d. read_declarations n e (drop 16 bs) >>= with_first d) (leb 16 (length bs))

module _ (ds : List Variable) (d : Variable) where
  -- A declaration between those before and those after is the last of the former.
  between : (r : Result Several LoadFault) → behind ds (r >>= with_first d) ≡ behind (ds ++ d ∷ []) r
  between (Ok q) = ap Ok (sym (append_assoc ds (d ∷ []) q.0))
  between (Err f) = refl

-- Declarations `ds` are read of a program, and n are left from place i on.
pub record Ahead (p : List ℕ) (ds : List Variable) (n i : ℕ) : Type 0 where
  pub within : i ≤ length p
  pub gives : behind ds (read_declarations n (length p) (drop i p)) ≡ declarations_in p

module _ (p : List ℕ) (ds : List Variable) (n i : ℕ) (a : Ahead p ds (suc n) i) where
  -- What is read of the next declaration decides.
  next_decides : (r : Result Variable LoadFault) → r ≡ first_declaration (length p) (drop i p) → behind ds (r >>= λ d. read_declarations n (length p) (drop 16 (drop i p)) >>= with_first d) ≡ declarations_in p
  next_decides r e =
      ap (λ r. behind ds (r >>= λ d. read_declarations n (length p) (drop 16 (drop i p)) >>= with_first d)) e
      ∙ sym (ap (behind ds) (first_alone n (length p) (drop i p)))
      ∙ a.gives

  -- The next declaration is read.
  one_read : (d : Variable) → Ok d ≡ first_declaration (length p) (drop i p) → Ahead p (ds ++ d ∷ []) n (i + 16)
  one_read d e =
      let l = leb-true 16 (length (drop i p)) (ensure_then _ _ _ d (sym e)).0 in
      record {
        within = omega (arith, length-drop i p, a.within);
        gives =
            ap (λ l. behind (ds ++ d ∷ []) (read_declarations n (length p) l)) (sym (drop-drop 16 i p))
            ∙ sym (between ds d (read_declarations n (length p) (drop 16 (drop i p))))
            ∙ next_decides (Ok d) e;
      }

module _ (p : List ℕ) (ds : List Variable) (count k : ℕ) (h : k < count) (a : Ahead p ds (count - k) (1 + 16 * k)) (i : ℕ) (at : i ≡ 1 + 16 * k) where
  -- Of the declarations that are left, one is the next.
  one_next : Ahead p ds (suc (count - (k + 1))) i
  one_next = let e : count - k ≡ suc (count - (k + 1)) = omega arith in subst (λ n. Ahead p ds n i) e (subst (Ahead p ds (count - k)) (sym at) a)

  -- A turn that reads a declaration.
  pub turn_read : (d : Variable) (es : List Variable) → Ok d ≡ first_declaration (length p) (drop i p) → es ≡ ds ++ d ∷ [] → Ahead p es (count - (k + 1)) (1 + 16 * (k + 1))
  turn_read d es e m =
      let j : i + 16 ≡ 1 + 16 * (k + 1) = omega arith in
      let n = count - (k + 1) in
      subst (λ l. Ahead p l n (1 + 16 * (k + 1))) (sym m) (subst (Ahead p (ds ++ d ∷ []) n) j (one_read p ds n i one_next d e))

  -- A turn that refuses one.
  pub turn_refused : (f : LoadFault) → Err f ≡ first_declaration (length p) (drop i p) → Err f ≡ declarations_in p
  turn_refused f = next_decides p ds (count - (k + 1)) i one_next (Err f)

-- Where n declarations are read, they are within the bytes, there are n of them, and what follows them are the bytes from 16 n on.
pub record Counted (n : ℕ) (bs : List ℕ) (r : Several) : Type 0 where
  pub within : 16 * n ≤ length bs
  pub count : length r.0 ≡ n
  pub after : r.1 ≡ drop (16 * n) bs

pub declarations_counted : (n e : ℕ) (bs : List ℕ) (r : Several) → read_declarations n e bs ≡ Ok r → Counted n bs r
declarations_counted zero e bs r h = subst (Counted zero bs) (same_ok h) (record { within = omega arith; count = refl; after = refl })
declarations_counted (suc n) e bs r h =
    let z = ok_then (first_declaration e bs) _ r (sym (first_alone n e bs) ∙ h) in
    let y = ok_then (read_declarations n e (drop 16 bs)) (with_first z.0) r z.2 in
    let l = leb-true 16 (length bs) (ensure_then _ _ _ z.0 z.1).0 in
    let t = declarations_counted n e (drop 16 bs) y.0 y.1 in
    let m : 16 + 16 * n ≡ 16 * suc n = omega arith in
    subst (Counted (suc n) bs) (same_ok y.2) (record {
      within = omega (arith, t.within, length-drop 16 bs);
      count = ap suc t.count;
      after = t.after ∙ drop-drop (16 * n) 16 bs ∙ ap (λ i. drop i bs) m;
    })
