-- What stands at the front of a text where it is that of a term.
use Rattle.std.proofs.Common.{◌≡◌, ℕ, List, [], ◌∷◌, ◌++◌, length, refl, sym, ap, subst, ◌∙◌, arith}
use Rattle.poly_print.specs.Inner.{behind_first, HasNoPlus, EndsTerm}

-- texts without a `+`, and what ends them, are told apart
pub cut-term : (a b s t : List ℕ) → HasNoPlus a → HasNoPlus b → EndsTerm s → EndsTerm t → a ++ s ≡ b ++ t → (a ≡ b) × (s ≡ t)
cut-term [] [] s t h k u v e = (refl, e)
cut-term [] (y ∷ b) [] t h k u v e = cc
cut-term [] (y ∷ b) (x ∷ s) t h k u v e = let w : x ≡ y = cc in absurd (k.0 (sym w ∙ u))
cut-term (x ∷ a) [] s [] h k u v e = cc
cut-term (x ∷ a) [] s (y ∷ t) h k u v e = let w : x ≡ y = cc in absurd (h.0 (w ∙ v))
cut-term (x ∷ a) (y ∷ b) s t h k u v e =
    let w : x ≡ y = cc in
    let z : a ++ s ≡ b ++ t = cc in
    let r = cut-term a b s t h.1 k.1 u v z in
    (λ i. w i ∷ r.0 i, r.1)

no_bytes : (xs : List ℕ) → length xs ≡ 0 → xs ≡ []
no_bytes [] e = refl
no_bytes (x ∷ xs) e = absurd (omega arith)

module _ (monomial text tail rest front : List ℕ) (mine : HasNoPlus monomial) (free : HasNoPlus text) (ends : EndsTerm tail) (left : front
    ≡ monomial ++ rest) (whole : front ≡ text ++ tail) where
  -- nothing is behind the monomial
  pub found-end : length rest ≡ 0 → (text ≡ monomial) × (rest ≡ behind_first tail)
  found-end l =
      let none = no_bytes rest l in
      let c = cut-term text monomial tail rest free mine ends (subst EndsTerm (sym none) tt) (sym whole ∙ left) in
      (c.0, none ∙ sym (ap behind_first (c.1 ∙ none)))

  -- a `+` is behind it
  pub found-plus : (b : ℕ) (behind : List ℕ) → rest ≡ b ∷ behind → b ≡ 43 → (text ≡ monomial) × (behind ≡ behind_first tail)
  found-plus b behind e p =
      let c = cut-term text monomial tail rest free mine ends (subst EndsTerm (sym e) p) (sym whole ∙ left) in
      (c.0, sym (ap behind_first (c.1 ∙ e)))

  -- another byte is behind it
  pub found-other : (b : ℕ) (behind : List ℕ) → rest ≡ b ∷ behind → (b ≡ 43 → ⊥) → text ≡ monomial → ⊥
  found-other b behind e n s = other tail (same monomial tail rest (ap (λ m. m ++ tail) (sym s) ∙ sym whole ∙ left) ∙ e) ends
    where
      same : (m s t : List ℕ) → m ++ s ≡ m ++ t → s ≡ t
      same [] s t h = h
      same (x ∷ m) s t h = let z : m ++ s ≡ m ++ t = cc in same m s t z

      other : (t : List ℕ) → t ≡ b ∷ behind → EndsTerm t → ⊥
      other [] h u = cc
      other (x ∷ t) h u = let w : b ≡ x = cc in n (w ∙ u)
