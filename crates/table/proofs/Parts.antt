-- Part of a list is replaced by another list of its length.
use Rattle.std.proofs.Common.{◌≡◌, ℕ, suc, ◌+◌, ◌<◌, ◌≤◌, List, [], ◌∷◌, ◌++◌, length, get_or, take, drop, set, sym, ap, ◌∙◌, append_assoc, add-zero, arith}
use Rattle.std.proofs.lemmas.List.{length-append, length-take-le, length-drop, take-append-drop, take_at, drop_at, drop-drop, take_more, set_at}

module _ {X : Type 0} where
  -- The list T with R over its elements from n on.
  abbrev pub over : ℕ → List X → List X → List X
  over n R T = take n T ++ (R ++ drop (n + length R) T)

  -- Nothing over a list leaves it.
  pub over_nothing : (n : ℕ) (T : List X) → over n [] T ≡ T
  over_nothing n T = ap (λ k. take n T ++ drop k T) (add-zero n) ∙ take-append-drop n T

  -- A part over a list that is long enough leaves its length.
  pub length_over : (n : ℕ) (R T : List X) → n + length R ≤ length T → length (over n R T) ≡ length T
  length_over n R T h =
      let a = length-append (take n T) (R ++ drop (n + length R) T) in
      let b = length-append R (drop (n + length R) T) in
      let c = length-take-le n T (omega arith) in
      let d = length-drop (n + length R) T in
      omega arith

  -- Two parts, one behind the other, are one part.
  pub over_both : (n m : ℕ) (R S T : List X) → length R ≡ m → n + m ≤ length T → over (n + m) S (over n R T) ≡ over n (R ++ S) T
  over_both n m R S T e h =
      let A = take n T in
      let D = drop (n + length R) T in
      let c = length-take-le n T (omega arith) in
      let q : length (A ++ R) ≡ n + m = omega (arith, length-append A R) in
      let k : n + length R + length S ≡ n + length (R ++ S) = omega (arith, length-append R S) in
      let front : take (n + m) (A ++ (R ++ D)) ≡ A ++ R = ap (take (n + m)) (sym (append_assoc A R D)) ∙ take_at (A ++ R) D (n + m) q in
      let back : drop (n + m) (A ++ (R ++ D)) ≡ D = ap (drop (n + m)) (sym (append_assoc A R D)) ∙ drop_at (A ++ R) D (n + m) q in
      let rest : drop (n + m + length S) (A ++ (R ++ D)) ≡ drop (n + length (R ++ S)) T =
      sym (drop-drop (length S) (n + m) (A ++ (R ++ D))) ∙ ap (drop (length S)) back ∙ drop-drop (length S) (n + length R) T ∙ ap (λ i. drop i T) k in
      (λ i. front i ++ (S ++ rest i))
      ∙ append_assoc A R (S ++ drop (n + length (R ++ S)) T)
      ∙ ap (λ l. A ++ l) (sym (append_assoc R S (drop (n + length (R ++ S)) T)))

  -- An element set before a part is the first of the part.
  pub over_first : (n : ℕ) (x : X) (R T : List X) → n < length T → set (over (n + 1) R T) n x ≡ over n (x ∷ R) T
  over_first n x R T h =
      let k : n + 1 + length R ≡ n + suc (length R) = omega arith in
      let D = R ++ drop (n + 1 + length R) T in
      ap (λ l. set (l ++ D) n x) (take_more T n x h)
      ∙ ap (λ l. set l n x) (append_assoc (take n T) (get_or T n x ∷ []) D)
      ∙ set_at (take n T) (get_or T n x) D x n (length-take-le n T (omega arith))
      ∙ ap (λ i. take n T ++ x ∷ (R ++ drop i T)) k
