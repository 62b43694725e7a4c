-- Declarations: what is written is read, and what is read was written and keeps the rules.
use Rattle.std.proofs.Common.{◌≡◌, ℕ, zero, suc, ◌+◌, Bool, true, false, ◌&&◌, T, ltb, leb, List, [], ◌∷◌, ◌++◌, length, take, drop, ◌≤ℤ◌, Ok, sym, refl, ap, ◌∙◌, subst, append_assoc, arith, length-append, take-append-drop, length-take, w32, SFits}
use lib.Signed.{le_z}
use Rattle.std.specs.List.{AllByRecursion as All}
use Rattle.std.proofs.ByRecursion.{All-take, All-drop}
use Rattle.std.proofs.lemmas.List.{take_at, drop_at}
use Rattle.std.proofs.lemmas.Bool.{leb-true, ltb-true, le-leb, lt-ltb, and_from, and_parts}
use Rattle.arithmetic.specs.Operators.{combining_number}
use Rattle.evaluator.specs.Commands.{signed_of}
use Rattle.evaluator.proofs.Reading.{Bytes, signed_back, signed_fits, signed_bytes_back}
use Rattle.rules.specs.Encoding.{kind_number, policy_number, declaration_bytes, declarations_bytes}
use Rattle.rules.specs.Outcomes.{numbered}
use Rattle.rules.specs.Reading.{kinds, policies, combinings, zeros_right, read_declaration, read_declarations, owners_live}
use Rattle.rules.specs.Valid.{Declared}
use Rattle.rules.specs.declared.faults.LoadFault.{LoadFault}
use Rattle.rules.specs.declared.program.Variable.{Variable}
use Rattle.rules.proofs.Numbers.{kind_found, policy_found, operator_found}
use Rattle.rules.proofs.Results.{goes_on, ok_then, some_ok, some_then, ensure_ok, ensure_then, same_ok, has_number}

-- A test that holds is true.
is_true : (b : Bool) → T b → b ≡ true
is_true true h = refl
is_true false h = absurd h

-- What reading tells of one declaration; of its owner only all bytes tell.
pub record Made (bs : List ℕ) (d : Variable) : Type 0 where
  pub same : declaration_bytes d ≡ bs
  pub zeros : zeros_right d.kind (policy_number d.policy) (combining_number d.operator) d.owner ≡ true
  pub not_under : d.low ≤ℤ d.initial
  pub not_over : d.initial ≤ℤ d.high
  pub low_fits : SFits w32 d.low
  pub initial_fits : SFits w32 d.initial
  pub high_fits : SFits w32 d.high

-- P holds of each list of n elements.
abbrev OfAll : ℕ → (List ℕ → Type 0) → Type 0
OfAll zero P = P []
OfAll (suc n) P = (b : ℕ) → OfAll n (λ l. P (b ∷ l))

-- What holds of each list of n elements holds of a list of length n.
by_length : (n : ℕ) (P : List ℕ → Type 0) → OfAll n P → (bs : List ℕ) → length bs ≡ n → P bs
by_length zero P h [] e = h
by_length zero P h (b ∷ bs) e = absurd (omega arith)
by_length (suc n) P h [] e = absurd (omega arith)
by_length (suc n) P h (b ∷ bs) e = by_length n (λ l. P (b ∷ l)) (h b) bs (omega arith)

module _ (f : LoadFault) (d : Variable) where
  -- A declaration that is read from 16 bytes was written as them.
  sixteen : (b0 b1 b2 b3 b4 b5 b6 b7 b8 b9 b10 b11 b12 b13 b14 b15 : ℕ) → Bytes (b0 ∷ b1 ∷ b2 ∷ b3 ∷ b4 ∷ b5 ∷ b6 ∷ b7 ∷ b8 ∷ b9 ∷ b10 ∷ b11 ∷ b12 ∷ b13 ∷ b14 ∷ b15 ∷ []) → read_declaration f (b0 ∷ b1 ∷ b2 ∷ b3 ∷ b4 ∷ b5 ∷ b6 ∷ b7 ∷ b8 ∷ b9 ∷ b10 ∷ b11 ∷ b12 ∷ b13 ∷ b14 ∷ b15 ∷ []) ≡ Ok d → Made (b0 ∷ b1 ∷ b2 ∷ b3 ∷ b4 ∷ b5 ∷ b6 ∷ b7 ∷ b8 ∷ b9 ∷ b10 ∷ b11 ∷ b12 ∷ b13 ∷ b14 ∷ b15 ∷ []) d
  sixteen b0 b1 b2 b3 b4 b5 b6 b7 b8 b9 b10 b11 b12 b13 b14 b15 (_, (_, (_, (_, (h4, (h5, (h6, (h7, (h8, (h9, (h10, (h11, (h12, (h13, (h14, (h15, _)))))))))))))))) e =
      let z0 = some_then (numbered kind_number kinds b0) f _ d e in
      let z1 = some_then (numbered policy_number policies b1) f _ d z0.2 in
      let z2 = some_then (numbered combining_number combinings b2) f _ d z1.2 in
      let z3 = ensure_then (zeros_right z0.0 b1 b2 b3) f _ d z2.2 in
      let initial = signed_of b4 b5 b6 b7 in let low = signed_of b8 b9 b10 b11 in let high = signed_of b12 b13 b14 b15 in
      let z4 = ensure_then (le_z low initial && le_z initial high) f _ d z3.1 in
      let le = and_parts _ _ z4.0 in
      let k = has_number kind_number kinds b0 z0.0 z0.1 in
      let p = has_number policy_number policies b1 z1.0 z1.1 in
      let o = has_number combining_number combinings b2 z2.0 z2.1 in
      subst (Made (b0 ∷ b1 ∷ b2 ∷ b3 ∷ b4 ∷ b5 ∷ b6 ∷ b7 ∷ b8 ∷ b9 ∷ b10 ∷ b11 ∷ b12 ∷ b13 ∷ b14 ∷ b15 ∷ [])) {x = record { kind = z0.0; policy = z1.0; operator = z2.0; owner = b3; initial = initial; low = low; high = high }} (same_ok z4.1) (record {
        same = λ i. k i ∷ p i ∷ o i ∷ b3 ∷ (signed_bytes_back b4 b5 b6 b7 h4 h5 h6 h7 i ++ (signed_bytes_back b8 b9 b10 b11 h8 h9 h10 h11 i ++ signed_bytes_back b12 b13 b14 b15 h12 h13 h14 h15 i));
        zeros = (λ i. zeros_right z0.0 (p i) (o i) b3) ∙ z3.0;
        not_under = record { le = subst T (sym le.0) tt };
        not_over = record { le = subst T (sym le.1) tt };
        low_fits = signed_fits b8 b9 b10 b11 h8 h9 h10 h11;
        initial_fits = signed_fits b4 b5 b6 b7 h4 h5 h6 h7;
        high_fits = signed_fits b12 b13 b14 b15 h12 h13 h14 h15;
      })

  -- The same of a list of 16 bytes.
  declaration_from : (bs : List ℕ) → length bs ≡ 16 → Bytes bs → read_declaration f bs ≡ Ok d → Made bs d
  declaration_from = by_length 16 (λ l. Bytes l → read_declaration f l ≡ Ok d → Made l d) sixteen

-- A declaration that keeps the rules is read from what it is written as.
declaration_back : (f : LoadFault) (n : ℕ) (d : Variable) → Declared n d → read_declaration f (declaration_bytes d) ≡ Ok d
declaration_back f n d h =
    let i = signed_back d.initial h.initial_fits in let l = signed_back d.low h.low_fits in let u = signed_back d.high h.high_fits in
    goes_on _ (some_ok f (kind_found d.kind))
    (goes_on _ (some_ok f (policy_found d.policy))
    (goes_on _ (some_ok f (operator_found d.operator))
    (goes_on _ (ensure_ok f h.zeros)
    (goes_on _ (ensure_ok f ((λ j. le_z (l j) (i j) && le_z (i j) (u j)) ∙ and_from _ _ (is_true _ h.not_under.le) (is_true _ h.not_over.le)))
    (λ j. Ok (record { kind = d.kind; policy = d.policy; operator = d.operator; owner = d.owner; initial = i j; low = l j; high = u j }))))))

-- Declarations that keep the rules are read from what they are written as, whatever follows them.
pub declarations_back : (n e : ℕ) (ds : List Variable) (rest : List ℕ) → All (Declared n) ds → read_declarations (length ds) e (declarations_bytes ds ++ rest) ≡ Ok (ds, rest)
declarations_back n e [] rest h = refl
declarations_back n e (d ∷ ds) rest h =
    let X = declaration_bytes d in let bs = declarations_bytes ds ++ rest in
    subst (λ l. read_declarations (suc (length ds)) e l ≡ Ok (d ∷ ds, rest)) (sym (append_assoc X (declarations_bytes ds) rest))
    (goes_on _ (ensure_ok _ (le-leb 16 (length (X ++ bs)) (let l = length-append X bs in omega arith)))
    (goes_on _ (ap (read_declaration _) (take_at X bs 16 refl) ∙ declaration_back _ n d h.0)
    (goes_on _ (ap (read_declarations (length ds) e) (drop_at X bs 16 refl) ∙ declarations_back n e ds rest h.1) refl)))

-- What reading tells of a list of declarations and of the bytes after it.
pub record Many (n : ℕ) (bs : List ℕ) (ds : List Variable) (rest : List ℕ) : Type 0 where
  pub same : declarations_bytes ds ++ rest ≡ bs
  pub long : length ds ≡ n
  pub made : All (λ d. Made (declaration_bytes d) d) ds
  pub bytes : Bytes rest

-- Declarations that are read were written so.
pub declarations_from : (n e : ℕ) (bs : List ℕ) (r : List Variable × List ℕ) → Bytes bs → read_declarations n e bs ≡ Ok r → Many n bs r.0 r.1
declarations_from zero e bs r h z = let P : List Variable × List ℕ → Type 0 = λ q. Many 0 bs q.0 q.1 in subst P (same_ok z) (record { same = refl; long = refl; made = tt; bytes = h })
declarations_from (suc n) e bs r h z =
    let z0 = ensure_then (leb 16 (length bs)) _ _ r z in
    let le = leb-true 16 (length bs) z0.0 in
    let l = length-take 16 bs in
    let z1 = ok_then (read_declaration _ (take 16 bs)) _ r z0.1 in
    let m = declaration_from _ z1.0 (take 16 bs) (omega arith) (All-take _ 16 bs h) z1.1 in
    let z2 = ok_then (read_declarations n e (drop 16 bs)) _ r z1.2 in
    let ih = declarations_from n e (drop 16 bs) z2.0 (All-drop _ 16 bs h) z2.1 in
    let P : List Variable × List ℕ → Type 0 = λ q. Many (suc n) bs q.0 q.1 in
    subst P (same_ok z2.2) (record {
      same = append_assoc (declaration_bytes z1.0) (declarations_bytes z2.0.0) z2.0.1 ∙ (λ i. m.same i ++ ih.same i) ∙ take-append-drop 16 bs;
      long = ap suc ih.long;
      made = (subst (λ l. Made l z1.0) (sym m.same) m, ih.made);
      bytes = ih.bytes;
    })

-- Where each owner is one of the threads, the check of owners accepts.
pub owners_back : (n p : ℕ) (ds : List Variable) → All (Declared n) ds → owners_live n p ds ≡ Ok tt
owners_back n p [] h = refl
owners_back n p (d ∷ ds) h = goes_on _ (ensure_ok _ (lt-ltb d.owner n h.0.owner_lives)) (owners_back n (p + 16) ds h.1)

-- Declarations that are read, and whose owners are accepted, keep the rules.
pub owners_from : (n p : ℕ) (ds : List Variable) (u : Unit {0}) → All (λ d. Made (declaration_bytes d) d) ds → owners_live n p ds ≡ Ok u → All (Declared n) ds
owners_from n p [] u m h = tt
owners_from n p (d ∷ ds) u m h =
    let z = ensure_then (ltb d.owner n) _ _ u h in
    let k = m.0 in
    (record { zeros = k.zeros; not_under = k.not_under; not_over = k.not_over; low_fits = k.low_fits; initial_fits = k.initial_fits; high_fits = k.high_fits; owner_lives = ltb-true _ _ z.0 }, owners_from n (p + 16) ds u m.1 z.1)
