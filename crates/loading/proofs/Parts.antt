-- The parts of a statement's bytes by the table of forms: what is written is read, and what is read was written.
use Rattle.std.proofs.Common.{◌≡◌, ℕ, ◌+◌, ◌*◌, ◌/◌, ◌%◌, ◌<◌, Bool, true, false, leb, List, [], ◌∷◌, ◌++◌, length, Ok, sym, refl, ap, ◌∙◌, subst, arith, length-append, take-append-drop, length-take}
use Rattle.std.proofs.ByRecursion.{All-take, All-drop}
use Rattle.std.proofs.lemmas.List.{take_at, drop_at}
use Rattle.std.proofs.lemmas.Bool.{true≢false, false≢true, leb-true, le-leb}
use Rattle.evaluator.proofs.Reading.{Bytes}
use Rattle.rules.specs.Encoding.{two_bytes}
use Rattle.rules.specs.Forms.{has_byte, has_expression, has_block, has_second_block}
use Rattle.rules.specs.Reading.{Parts, byte_in, part_in, code_in, length_in, parts_in}
use Rattle.rules.specs.declared.program.Form.{Form}
use Rattle.rules.proofs.Results.{goes_on, ok_then, ensure_ok, ensure_then, same_ok, not_both}

-- From false that is true, or true that is false, anything follows.
pub no_way : {P : Type 0} → false ≡ true → P
no_way e = absurd (false≢true e)

pub no_way' : {P : Type 0} → true ≡ false → P
no_way' e = absurd (true≢false e)

-- The two bytes of a length hold that length.
pub length_back : (n : ℕ) → n % 256 + n / 256 * 256 ≡ n
length_back n = omega arith

-- Two bytes are the low and the high byte of the length that they hold.
pub length_low : (a b : ℕ) → a < 256 → (a + b * 256) % 256 ≡ a
length_low a b h = omega arith

pub length_high : (a b : ℕ) → a < 256 → (a + b * 256) / 256 ≡ b
length_high a b h = omega arith

-- A byte, an expression's bytes and the length of a block, where the form has them.
abbrev byte_out : Bool → ℕ → List ℕ
byte_out false o = []
byte_out true o = o ∷ []

abbrev pub code_out : Bool → List ℕ → List ℕ
code_out false c = []
code_out true c = length c ∷ c

abbrev length_out : Bool → List ℕ → List ℕ
length_out false X = []
length_out true X = two_bytes (length X)

-- The bytes after the command byte, from the parts of a statement.
abbrev pub joined : Form → Parts → List ℕ
joined k o = byte_out (has_byte k) o.byte ++ (code_out (has_expression k) o.code ++ (length_out (has_block k) o.first ++ (length_out (has_second_block k) o.second ++ (o.first ++ (o.second ++ o.after)))))

-- There are no parts but those that the form has.
pub record Fitting (k : Form) (o : Parts) : Type 0 where
  pub no_byte : has_byte k ≡ false → o.byte ≡ 0
  pub no_code : has_expression k ≡ false → o.code ≡ []
  pub no_block : has_block k ≡ false → o.first ≡ []
  pub no_second : has_second_block k ≡ false → o.second ≡ []

module _ (p : ℕ) where
  -- Each part is read from what it is written as, whatever follows it.
  part_back : (X bs : List ℕ) → part_in p (length X) (X ++ bs) ≡ Ok (X, bs)
  part_back X bs =
      let long = length-append X bs in
      goes_on _ (ensure_ok _ (le-leb (length X) (length (X ++ bs)) (omega arith))) (λ i. Ok (take_at X bs (length X) refl i, drop_at X bs (length X) refl i))

  byte_back : (b : Bool) (o : ℕ) (bs : List ℕ) → (b ≡ false → o ≡ 0) → byte_in p b (byte_out b o ++ bs) ≡ Ok (o, bs)
  byte_back true o bs h = refl
  byte_back false o bs h = ap (λ n. Ok (n, bs)) (sym (h refl))

  code_back : (b : Bool) (c bs : List ℕ) → (b ≡ false → c ≡ []) → code_in p b (code_out b c ++ bs) ≡ Ok (c, bs)
  code_back true c bs h = part_back c bs
  code_back false c bs h = ap (λ l. Ok (l, bs)) (sym (h refl))

  lengths_back : (b : Bool) (X bs : List ℕ) → (b ≡ false → X ≡ []) → length_in p b (length_out b X ++ bs) ≡ Ok (length X, bs)
  lengths_back true X bs h = ap (λ n. Ok (n, bs)) (length_back (length X))
  lengths_back false X bs h = ap (λ l. Ok (length l, bs)) (sym (h refl))

  -- The parts of a statement are read from what they are written as.
  pub parts_back : (k : Form) (o : Parts) → Fitting k o → parts_in p k (joined k o) ≡ Ok o
  parts_back k o h =
      goes_on _ (byte_back (has_byte k) o.byte _ h.no_byte)
      (goes_on _ (code_back (has_expression k) o.code _ h.no_code)
      (goes_on _ (lengths_back (has_block k) o.first _ h.no_block)
      (goes_on _ (lengths_back (has_second_block k) o.second _ h.no_second)
      (goes_on _ (part_back o.first _)
      (goes_on _ (part_back o.second o.after) refl)))))

-- Bytes cut after the first n.
record Divided (n : ℕ) (bs X rest : List ℕ) : Type 0 where
  same : X ++ rest ≡ bs
  long : length X ≡ n
  left : Bytes X
  right : Bytes rest

-- No elements are the empty list.
empty_by_length : (X : List ℕ) → length X ≡ 0 → X ≡ []
empty_by_length [] h = refl
empty_by_length (x ∷ X) h = absurd (omega arith)

-- What reading tells of the parts of a statement.
pub record Parted (k : Form) (bs : List ℕ) (o : Parts) : Type 0 where
  pub same : joined k o ≡ bs
  pub fitting : Fitting k o
  pub byte_small : o.byte < 256
  pub code_bytes : Bytes o.code
  pub first_bytes : Bytes o.first
  pub second_bytes : Bytes o.second
  pub after_bytes : Bytes o.after

module _ (p : ℕ) where
  -- Each part that is read was written so.
  part_from : (n : ℕ) (bs : List ℕ) (r : List ℕ × List ℕ) → Bytes bs → part_in p n bs ≡ Ok r → Divided n bs r.0 r.1
  part_from n bs r h e =
      let u = ensure_then (leb n (length bs)) _ _ r e in
      let le = leb-true n (length bs) u.0 in
      let l = length-take n bs in
      let P : List ℕ × List ℕ → Type 0 = λ q. Divided n bs q.0 q.1 in
      subst P (same_ok u.1) (record { same = take-append-drop n bs; long = omega arith; left = All-take _ n bs h; right = All-drop _ n bs h })

  byte_from : (b : Bool) (bs : List ℕ) (r : ℕ × List ℕ) → Bytes bs → byte_in p b bs ≡ Ok r → (byte_out b r.0 ++ r.1 ≡ bs) × (b ≡ false → r.0 ≡ 0) × (r.0 < 256) × Bytes r.1
  byte_from false bs r h e =
      let P : ℕ × List ℕ → Type 0 = λ q. (q.1 ≡ bs) × (false ≡ false → q.0 ≡ 0) × (q.0 < 256) × Bytes q.1 in
      subst P (same_ok e) (refl, λ _. refl, omega arith, h)
  byte_from true [] r h e = not_both e
  byte_from true (b ∷ bs) r h e =
      let P : ℕ × List ℕ → Type 0 = λ q. (q.0 ∷ q.1 ≡ b ∷ bs) × (true ≡ false → q.0 ≡ 0) × (q.0 < 256) × Bytes q.1 in
      subst P (same_ok e) (refl, no_way', h.0, h.1)

  code_from : (b : Bool) (bs : List ℕ) (r : List ℕ × List ℕ) → Bytes bs → code_in p b bs ≡ Ok r → (code_out b r.0 ++ r.1 ≡ bs) × (b ≡ false → r.0 ≡ []) × Bytes r.0 × Bytes r.1
  code_from false bs r h e =
      let P : List ℕ × List ℕ → Type 0 = λ q. (q.1 ≡ bs) × (false ≡ false → q.0 ≡ []) × Bytes q.0 × Bytes q.1 in
      subst P (same_ok e) (refl, λ _. refl, tt, h)
  code_from true [] r h e = not_both e
  code_from true (n ∷ bs) r h e = let c = part_from n bs r h.1 e in ((λ i. c.long i ∷ c.same i), no_way', c.left, c.right)

  length_from : (b : Bool) (bs : List ℕ) (r : ℕ × List ℕ) → Bytes bs → length_in p b bs ≡ Ok r → ((X : List ℕ) → length X ≡ r.0 → length_out b X ++ r.1 ≡ bs) × (b ≡ false → r.0 ≡ 0) × Bytes r.1
  length_from false bs r h e =
      let P : ℕ × List ℕ → Type 0 = λ q. ((X : List ℕ) → length X ≡ q.0 → q.1 ≡ bs) × (false ≡ false → q.0 ≡ 0) × Bytes q.1 in
      subst P (same_ok e) (λ _ _. refl, λ _. refl, h)
  length_from true [] r h e = not_both e
  length_from true (a ∷ []) r h e = not_both e
  length_from true (a ∷ b ∷ bs) r h e =
      let P : ℕ × List ℕ → Type 0 = λ q. ((X : List ℕ) → length X ≡ q.0 → length_out true X ++ q.1 ≡ a ∷ b ∷ bs) × (true ≡ false → q.0 ≡ 0) × Bytes q.1 in
      subst P (same_ok e) ((λ X l i. (ap (λ n. n % 256) l ∙ length_low a b h.0) i ∷ (ap (λ n. n / 256) l ∙ length_high a b h.0) i ∷ bs), no_way', h.1.1)

  -- Parts of a statement that are read were written so.
  pub parts_from : (k : Form) (bs : List ℕ) (o : Parts) → Bytes bs → parts_in p k bs ≡ Ok o → Parted k bs o
  parts_from k bs o h e =
      let b = ok_then (byte_in p (has_byte k) bs) _ o e in
      let b' = byte_from (has_byte k) bs b.0 h b.1 in
      let c = ok_then (code_in p (has_expression k) b.0.1) _ o b.2 in
      let c' = code_from (has_expression k) b.0.1 c.0 b'.3 c.1 in
      let m = ok_then (length_in p (has_block k) c.0.1) _ o c.2 in
      let m' = length_from (has_block k) c.0.1 m.0 c'.3 m.1 in
      let n = ok_then (length_in p (has_second_block k) m.0.1) _ o m.2 in
      let n' = length_from (has_second_block k) m.0.1 n.0 m'.2 n.1 in
      let X = ok_then (part_in p m.0.0 n.0.1) _ o n.2 in
      let X' = part_from m.0.0 n.0.1 X.0 n'.2 X.1 in
      let Y = ok_then (part_in p n.0.0 X.0.1) _ o X.2 in
      let Y' = part_from n.0.0 X.0.1 Y.0 X'.right Y.1 in
      let B = byte_out (has_byte k) b.0.0 in
      let C = code_out (has_expression k) c.0.0 in
      let M = length_out (has_block k) X.0.0 in
      let N = length_out (has_second_block k) Y.0.0 in
      subst (Parted k bs) (same_ok Y.2) (record {
        same =
            ap (λ l. B ++ (C ++ (M ++ (N ++ (X.0.0 ++ l))))) Y'.same
            ∙ ap (λ l. B ++ (C ++ (M ++ (N ++ l)))) X'.same
            ∙ ap (λ l. B ++ (C ++ (M ++ l))) (n'.0 Y.0.0 Y'.long)
            ∙ ap (λ l. B ++ (C ++ l)) (m'.0 X.0.0 X'.long)
            ∙ ap (λ l. B ++ l) c'.0
            ∙ b'.0;
        fitting = record {
          no_byte = b'.1;
          no_code = c'.1;
          no_block = λ z. empty_by_length X.0.0 (X'.long ∙ m'.1 z);
          no_second = λ z. empty_by_length Y.0.0 (Y'.long ∙ n'.1 z);
        };
        byte_small = b'.2;
        code_bytes = c'.2;
        first_bytes = X'.left;
        second_bytes = Y'.left;
        after_bytes = Y'.right;
      })
