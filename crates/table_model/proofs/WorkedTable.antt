-- The table of weight 3 and depth 2 modulo 5: it is a table, and its shuffles convert.
use Rattle.std.specs.Prelude.{◌≡◌, ◌*◌, ◌%◌, ◌<◌, ◌⊎◌, ◌↔◌, IsTrue, List, [], ◌∷◌, length}
use Rattle.std.proofs.Common.{refl, sym, ◌∙◌, ap, subst, inl, inr, arith}
use Rattle.std.specs.List.{Contains}
use Rattle.zeta_model.specs.declared.Letter.{Letter}
use Rattle.zeta_model.specs.declared.Letter.TheVariants.{X, Y}
use Rattle.std.specs.List.Sorted.{IsStrictlySortedBy}
use Rattle.zeta_model.specs.Words.{is_admissible}
use Rattle.lyndon_words.specs.Lyndon.{IsLyndon, joined, IsFactors}
use Rattle.lyndon_words.proofs.Suffixes.{IsLyndon-from_test}
use Rattle.lyndon_words.proofs.OneWay.{IsFactors-unique}
use Rattle.column_order.specs.declared.ranks.Mode.TheVariants.{Lex}
use Rattle.column_order.specs.Columns.{ColumnList, IsColumn}
use Rattle.lyndon_words.proofs.AdmissibleFactors.{joined-admissible}
use Rattle.zeta_model.proofs.ListLemmas.{none_contained, contains_cases, contains_first, contains_later}
use Rattle.table_model.specs.MonomialWords.{words_of_monomial}
use Rattle.zeta_model.specs.Inverses.{HasInverse}
use Rattle.table_model.specs.Conversion.{IsTable, Converts, ConvertsAt}

abbrev Word : Type 0
Word = List Letter

abbrev xxy : Word
xxy = X ∷ X ∷ Y ∷ []

abbrev xyy : Word
xyy = X ∷ Y ∷ Y ∷ []

abbrev columns : ColumnList
columns = record { weight = 3; depth = 2; preference = record { mode = Lex; words = [] }; list = (xyy ∷ []) ∷ (xxy ∷ []) ∷ [] }

lyndon_xxy : IsLyndon xxy
lyndon_xxy = IsLyndon-from_test xxy refl

lyndon_xyy : IsLyndon xyy
lyndon_xyy = IsLyndon-from_test xyy refl

factors_xxy : IsFactors xxy (xxy ∷ [])
factors_xxy = record { lyndon = (lyndon_xxy, tt); falls = (tt, tt); whole = refl }

factors_xyy : IsFactors xyy (xyy ∷ [])
factors_xyy = record { lyndon = (lyndon_xyy, tt); falls = (tt, tt); whole = refl }

column_xxy : IsColumn 3 2 (xxy ∷ [])
column_xxy = record {
  monomial = record { lyndon = (lyndon_xxy, tt); admissible = (refl, tt); falls = (tt, tt); within = omega arith };
  weight =
      refl;
  depth = omega arith;
}

column_xyy : IsColumn 3 2 (xyy ∷ [])
column_xyy = record {
  monomial = record { lyndon = (lyndon_xyy, tt); admissible = (refl, tt); falls = (tt, tt); within = omega arith };
  weight =
      refl;
  depth = omega arith;
}

-- the two words of the table
two_words : (t : Word) → IsTrue (is_admissible t) → length t ≡ 3 → (t ≡ xyy) ⊎ (t ≡ xxy)
two_words (X ∷ X ∷ Y ∷ []) a e = inr refl
two_words (X ∷ Y ∷ Y ∷ []) a e = inl refl
two_words (X ∷ X ∷ X ∷ []) a e = cc
two_words (X ∷ Y ∷ X ∷ []) a e = cc
two_words (Y ∷ b ∷ c ∷ []) a e = cc
two_words [] a e = absurd (omega arith)
two_words (b ∷ []) a e = absurd (omega arith)
two_words (b ∷ c ∷ []) a e = absurd (omega arith)
two_words (b ∷ c ∷ f ∷ g ∷ t) a e = absurd (omega arith)

some : (p : List Word) → 0 < length (joined p) → 0 < length p
some [] h = absurd (omega arith)
some (u ∷ p) h = omega arith

two_columns : (p : List Word) → IsColumn 3 2 p → (p ≡ xyy ∷ []) ⊎ (p ≡ xxy ∷ [])
two_columns p c =
    let m = c.monomial in
    elim (two_words (joined p) (joined-admissible p m.admissible (some p (omega (arith, c.weight)))) c.weight) [
      | inl e ↦ inl (IsFactors-unique xyy p (xyy ∷ []) (record { lyndon = m.lyndon; falls = m.falls; whole = e }) factors_xyy)
      | inr e ↦ inr (IsFactors-unique xxy p (xxy ∷ []) (record { lyndon = m.lyndon; falls = m.falls; whole = e }) factors_xxy)
    ]

whole_list : (p : List Word) → Contains columns.list p ↔ IsColumn 3 2 p
whole_list p = (
  λ c. elim (contains_cases (xyy ∷ []) p ((xxy ∷ []) ∷ []) c) [
    | inl e ↦ subst (IsColumn 3 2) e column_xyy
    | inr r ↦ elim (contains_cases (xxy ∷ []) p [] r) [
      | inl e ↦ subst (IsColumn 3 2) e column_xxy
      | inr n ↦ absurd (none_contained p n)
    ]
  ],
  λ c. elim (two_columns p c) [
    | inl e ↦ subst (Contains columns.list) (sym e) (contains_first (xyy ∷ []) ((xxy ∷ []) ∷ []))
    | inr e ↦ subst (Contains columns.list) (sym e) (contains_later (xyy ∷ []) (xxy ∷ []) ((xxy ∷ []) ∷ []) (contains_first (xxy ∷ []) []))
  ],
)

pub worked_table : IsTable 5 columns
unfolding IsStrictlySortedBy
worked_table = record {
  modulus = omega arith;
  limits = record { least = omega arith; most = omega arith; some = omega arith; below = omega arith };
  whole = record { in_order = ((refl, tt), (tt, tt)); whole = whole_list };
}

-- a Lyndon word is its own and only word
alone : (u : Word) → IsFactors u (u ∷ []) → words_of_monomial (u ∷ []) u % 5 ≡ 1 → ConvertsAt 5 u
unfolding words_of_monomial
alone u f one p g = subst (λ q. HasInverse 5 (words_of_monomial q u)) (IsFactors-unique u (u ∷ []) p f g)
    (1, ap (λ x. x % 5) (let e : words_of_monomial (u ∷ []) u * 1 ≡ words_of_monomial (u ∷ []) u = omega arith in e) ∙ one)

one_xxy : words_of_monomial (xxy ∷ []) xxy % 5 ≡ 1
unfolding words_of_monomial
one_xxy = refl

one_xyy : words_of_monomial (xyy ∷ []) xyy % 5 ≡ 1
unfolding words_of_monomial
one_xyy = refl

pub worked_converts : Converts 5 columns
worked_converts u x = elim (two_words u x.admissible x.weight) [
  | inl e ↦ subst (ConvertsAt 5) (sym e) (alone xyy factors_xyy one_xyy)
  | inr e ↦ subst (ConvertsAt 5) (sym e) (alone xxy factors_xxy one_xxy)
]
