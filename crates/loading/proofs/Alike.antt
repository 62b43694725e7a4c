-- Two lists of bytes that are equally long, and the same before a certain place.
use Rattle.std.proofs.Common.{◌≡◌, ℕ, suc, ◌+◌, ◌<◌, ◌≤◌, List, ◌∷◌, length, get_or, take, drop, sym, refl, ap, ◌∙◌, ⊎_elim, arith, length-drop, length-take}
use Rattle.std.proofs.lemmas.List.{ext_get_or, get_or-take, get_or-drop, get_or_past}
use Rattle.std.proofs.lemmas.Bool.{cases_lt}

-- Bytes that begin at place s: equally many, and the same before place m.
pub record Alike (s m : ℕ) (bs bs' : List ℕ) : Type 0 where
  pub long : length bs ≡ length bs'
  pub same : (i : ℕ) → s + i < m → get_or bs i 0 ≡ get_or bs' i 0

-- Bytes are alike themselves.
pub alike_self : (s m : ℕ) (bs : List ℕ) → Alike s m bs bs
alike_self s m bs = record { long = refl; same = λ i h. refl }

-- Equally many bytes with the same front are alike.
pub alike_by_front : (m : ℕ) (bs bs' : List ℕ) → length bs ≡ length bs' → take m bs ≡ take m bs' → Alike 0 m bs bs'
alike_by_front m bs bs' l h = record {
  long = l;
  same = λ i lt. let k : i < m = omega arith in sym (get_or-take m bs i 0 k) ∙ ap (λ xs. get_or xs i 0) h ∙ get_or-take m bs' i 0 k;
}

module _ (s m : ℕ) where
  -- The first bytes are the same, where that is before m.
  pub alike_first : (b b' : ℕ) (bs bs' : List ℕ) → s < m → Alike s m (b ∷ bs) (b' ∷ bs') → b ≡ b'
  alike_first b b' bs bs' lt h = h.same 0 (omega arith)

  -- What comes after the first bytes is alike.
  pub alike_rest : (b b' : ℕ) (bs bs' : List ℕ) → Alike s m (b ∷ bs) (b' ∷ bs') → Alike (s + 1) m bs bs'
  alike_rest b b' bs bs' h = let l = h.long in record { long = omega arith; same = λ i lt. h.same (suc i) (omega arith) }

  -- Fronts of alike bytes are alike.
  pub alike_take : (n : ℕ) (bs bs' : List ℕ) → Alike s m bs bs' → Alike s m (take n bs) (take n bs')
  alike_take n bs bs' h =
      let l = h.long in let k = length-take n bs in let k' = length-take n bs' in
      record {
        long = omega arith;
        same = λ i lt.
            ⊎_elim
            (λ under. get_or-take n bs i 0 under ∙ h.same i lt ∙ sym (get_or-take n bs' i 0 under))
            (λ over. get_or_past (take n bs) i 0 (omega arith) ∙ sym (get_or_past (take n bs') i 0 (omega arith)))
            (cases_lt i n);
      }

  -- What comes after a front of alike bytes is alike.
  pub alike_drop : (n : ℕ) (bs bs' : List ℕ) → Alike s m bs bs' → Alike (s + n) m (drop n bs) (drop n bs')
  alike_drop n bs bs' h =
      let l = h.long in let k = length-drop n bs in let k' = length-drop n bs' in
      record { long = omega arith; same = λ i lt. get_or-drop n bs i 0 ∙ h.same (n + i) (omega arith) ∙ sym (get_or-drop n bs' i 0) }

  -- Alike bytes that end before m are the same.
  pub alike_all : (bs bs' : List ℕ) → s + length bs ≤ m → Alike s m bs bs' → bs ≡ bs'
  alike_all bs bs' short h = ext_get_or 0 bs bs' h.long (λ i lt. h.same i (omega arith))
