-- The order of words by cases, and two ways to put one word together.
use Rattle.std.proofs.Common.{◌≡◌, ◌<◌, ◌⊎◌, inl, inr, List, [], ◌∷◌, ◌++◌, length, refl, sym, ap, ◌∙◌, arith}
use Rattle.zeta_model.specs.declared.Letter.{Letter}
use Rattle.zeta_model.specs.declared.Letter.TheVariants.{X, Y}
use Rattle.zeta_model.specs.Words.{letter_rank}
use Rattle.lyndon_words.specs.Lyndon.{IsBefore}

abbrev pub Precedes : List Letter → List Letter → Type 0
Precedes [] [] = ⊥
Precedes [] (b ∷ v) = Unit {0}
Precedes (a ∷ u) [] = ⊥
Precedes (a ∷ u) (b ∷ v) = (letter_rank a < letter_rank b) ⊎ ((a ≡ b) × Precedes u v)

-- u is less than v at a letter that both have
abbrev pub Differs : List Letter → List Letter → Type 0
Differs [] v = ⊥
Differs (a ∷ u) [] = ⊥
Differs (a ∷ u) (b ∷ v) = (letter_rank a < letter_rank b) ⊎ ((a ≡ b) × Differs u v)

pub before : (u v : List Letter) → Precedes u v → IsBefore u v
before [] [] p = absurd p
before [] (b ∷ v) p = refl
before (a ∷ u) [] p = absurd p
before (X ∷ u) (X ∷ v) (inl p) = absurd (omega arith)
before (X ∷ u) (X ∷ v) (inr p) = before u v p.1
before (X ∷ u) (Y ∷ v) p = refl
before (Y ∷ u) (X ∷ v) (inl p) = absurd (omega arith)
before (Y ∷ u) (X ∷ v) (inr p) = let e : Y ≡ X = p.0 in cc
before (Y ∷ u) (Y ∷ v) (inl p) = absurd (omega arith)
before (Y ∷ u) (Y ∷ v) (inr p) = before u v p.1

pub precedes : (u v : List Letter) → IsBefore u v → Precedes u v
precedes [] [] e = cc
precedes [] (b ∷ v) e = tt
precedes (a ∷ u) [] e = cc
precedes (X ∷ u) (X ∷ v) e = inr (refl, precedes u v e)
precedes (X ∷ u) (Y ∷ v) e = inl (omega arith)
precedes (Y ∷ u) (X ∷ v) e = cc
precedes (Y ∷ u) (Y ∷ v) e = inr (refl, precedes u v e)

pub precedes-trans : (u v w : List Letter) → Precedes u v → Precedes v w → Precedes u w
precedes-trans [] [] w p q = absurd p
precedes-trans [] (b ∷ v) [] p q = absurd q
precedes-trans [] (b ∷ v) (c ∷ w) p q = tt
precedes-trans (a ∷ u) [] w p q = absurd p
precedes-trans (a ∷ u) (b ∷ v) [] p q = absurd q
precedes-trans (a ∷ u) (b ∷ v) (c ∷ w) (inl p) (inl q) = inl (omega arith)
precedes-trans (a ∷ u) (b ∷ v) (c ∷ w) (inl p) (inr q) = inl (omega (arith, ap letter_rank q.0))
precedes-trans (a ∷ u) (b ∷ v) (c ∷ w) (inr p) (inl q) = inl (omega (arith, ap letter_rank p.0))
precedes-trans (a ∷ u) (b ∷ v) (c ∷ w) (inr p) (inr q) = inr (p.0 ∙ q.0, precedes-trans u v w p.1 q.1)

-- of two words one is before the other, or they are one
pub precedes_cases : (u v : List Letter) → Precedes u v ⊎ ((u ≡ v) ⊎ Precedes v u)
precedes_cases [] [] = inr (inl refl)
precedes_cases [] (b ∷ v) = inl tt
precedes_cases (a ∷ u) [] = inr (inr tt)
precedes_cases (X ∷ u) (Y ∷ v) = inl (inl (omega arith))
precedes_cases (Y ∷ u) (X ∷ v) = inr (inr (inl (omega arith)))
precedes_cases (X ∷ u) (X ∷ v) = elim (precedes_cases u v) [
  | inl p ↦ inl (inr (refl, p))
  | inr q ↦ elim q [ inl same ↦ inr (inl (λ i. X ∷ same i)) | inr p ↦ inr (inr (inr (refl, p))) ]
]
precedes_cases (Y ∷ u) (Y ∷ v) = elim (precedes_cases u v) [
  | inl p ↦ inl (inr (refl, p))
  | inr q ↦ elim q [ inl same ↦ inr (inl (λ i. Y ∷ same i)) | inr p ↦ inr (inr (inr (refl, p))) ]
]

-- a proper prefix comes first
pub precedes-longer : (u t : List Letter) → 0 < length t → Precedes u (u ++ t)
precedes-longer [] [] h = absurd (omega arith)
precedes-longer [] (b ∷ t) h = tt
precedes-longer (a ∷ u) t h = inr (refl, precedes-longer u t h)

-- either a letter tells, or u is a proper prefix of v
pub letter_or_prefix : (u v : List Letter) → Precedes u v → Differs u v ⊎ ((t : List Letter) × (v ≡ u ++ t) × (0 < length t))
letter_or_prefix [] [] p = absurd p
letter_or_prefix [] (b ∷ v) p = inr (b ∷ v, refl, omega arith)
letter_or_prefix (a ∷ u) [] p = absurd p
letter_or_prefix (a ∷ u) (b ∷ v) (inl p) = inl (inl p)
letter_or_prefix (a ∷ u) (b ∷ v) (inr p) = elim (letter_or_prefix u v p.1) [
  | inl d ↦ inl (inr (p.0, d))
  | inr e ↦ inr (e.0, (λ i. sym p.0 i ∷ e.1 i), e.2)
]

pub precedes-differs : (u v s t : List Letter) → Differs u v → Precedes (u ++ s) (v ++ t)
precedes-differs [] v s t d = absurd d
precedes-differs (a ∷ u) [] s t d = absurd d
precedes-differs (a ∷ u) (b ∷ v) s t (inl d) = inl d
precedes-differs (a ∷ u) (b ∷ v) s t (inr d) = inr (d.0, precedes-differs u v s t d.1)

-- a common front may be put on
pub precedes-front : (u v w : List Letter) → Precedes v w → Precedes (u ++ v) (u ++ w)
precedes-front [] v w p = p
precedes-front (a ∷ u) v w p = inr (refl, precedes-front u v w p)

-- where a ++ b and c ++ d are one word, and a is the shorter front
pub record Split (a b c d : List Letter) : Type 0 where
  pub middle : List Letter
  pub first : c ≡ a ++ middle
  pub second : b ≡ middle ++ d

pub split : (a b c d : List Letter) → a ++ b ≡ c ++ d → Split a b c d ⊎ Split c d a b
split [] b c d e = inl (record { middle = c; first = refl; second = e })
split (x ∷ a) b [] d e = inr (record { middle = x ∷ a; first = refl; second = sym e })
split (x ∷ a) b (y ∷ c) d e =
    let head : x ≡ y = cc in
    let rest : a ++ b ≡ c ++ d = cc in
    elim (split a b c d rest) [
      | inl s ↦ inl (record { middle = s.middle; first = λ i. sym head i ∷ s.first i; second = s.second })
      | inr s ↦ inr (record { middle = s.middle; first = λ i. head i ∷ s.first i; second = s.second })
    ]

pub nothing_left : (u : List Letter) → length u ≡ 0 → u ≡ []
nothing_left [] e = refl
nothing_left (a ∷ u) e = absurd (omega arith)
