-- A word of the table: its factors, their column, and the inverse of its coefficient.
use Rattle.std.proofs.Common.{◌≡◌, ℕ, ◌+◌, ◌-◌, ◌*◌, ◌%◌, ◌<◌, ◌≤◌, inl, inr, Bool, true, List, [], ◌∷◌, length, slice_get, Some, sym, ◌∙◌, ap}
use Rattle.std.proofs.Common.{subst, arith, mod-eq_of_lt}
use Rattle.std.specs.Prelude.{◌≢◌, ◌⊎◌}
use Rattle.std.proofs.lemmas.Option.{get_or_from_slice_get, slice_get_within}
use Rattle.zeta_model.specs.declared.Letter.{Letter}
use Rattle.zeta_model.specs.Inverses.{HasInverse}
use Rattle.zeta_model.specs.Modular.{Same}
use Rattle.zeta_model.specs.Sums.{Sum, single}
use Rattle.zeta_model.specs.Words.{depth_of}
use Rattle.word_sums.specs.Terms.{coefficient_of, IsTerms, AllIn as AllTermsIn}
use Rattle.lyndon_words.specs.Lyndon.{IsFactors, joined}
use Rattle.lyndon_words.specs.Monomials.{IsMonomial}
use Rattle.column_order.specs.Columns.{ColumnList, IsColumn}
use Rattle.table_model.specs.MonomialWords.{column_at, words_of_monomial}
use Rattle.table_model.specs.Conversion.{IsTableWord, Converts, IsCols}
use Rattle.table_model.proofs.Inverses.{same-HasInverse}
use Rattle.lyndon_polys.specs.Tables.{entries_of}
use Rattle.lyndon_polys.specs.Inner.{leading, IsRowOf}
use Rattle.lyndon_polys.proofs.Inverting.{undone_by_opposite}
use Rattle.lyndon_polys.proofs.ColsLemmas.{cols_entry}
use Rattle.lyndon_polys.proofs.LesserWords.{row_of_word}

abbrev Word : Type 0
Word = List Letter

module _ (m : ℕ) (columns : ColumnList) (u : Word) (is : IsTableWord columns.weight columns.depth u) (p : List Word) (factors : IsFactors u p) where
  -- its coefficient has an inverse
  pub no_fault : Converts m columns → (residue : ℕ) → Same m (leading p) residue → ¬ (HasInverse m residue) → ⊥
  no_fault converts residue told none =
      none (same-HasInverse m (leading p) residue told (subst (λ v. HasInverse m (words_of_monomial p v)) (sym factors.whole) (converts u is p factors)))

  -- its factors are a column
  pub is_placed : (length (joined p) ≢ columns.weight) ⊎ (columns.depth < depth_of (joined p)) → ⊥
  is_placed (inl ne) = ne (ap length factors.whole ∙ is.weight)
  is_placed (inr deeper) = let e : depth_of (joined p) ≡ depth_of u = ap depth_of factors.whole in let h : depth_of u ≤ columns.depth = is.depth in
      absurd (omega arith)

  pub as_column : IsMonomial p → IsColumn columns.weight columns.depth p
  as_column monomial = record {
    monomial = monomial;
    weight = ap length factors.whole ∙ is.weight;
    depth = let e : depth_of (joined p) ≡ depth_of u =
        ap depth_of factors.whole in let h : depth_of u ≤ columns.depth = is.depth in omega arith;
  }

pub opposite_of : (m a k : ℕ) → 0 < m → a < m → k ≡ (m - a) % m → Same m (a + k) 0
opposite_of m a k pos small is = undone_by_opposite m a k pos (is ∙ ap (λ x. (m - x) % m) (sym (mod-eq_of_lt small)))

-- a row that is made of the column of the word and the lesser words
pub made_row : {E : Type 0} (m : ℕ) (pos : 0 < m) (zero_element : E) (has : E → Bool) (value : E
    → ℕ) (has_zero : has zero_element ≡ true) (value_zero : value zero_element ≡ 0)
    (value_injective : (a b : E) → has a ≡ true → has b ≡ true → value a ≡ value b → a ≡ b) (value_below : (a : E) → has a ≡ true → value a < m)
    (terms : List (Word × E)) (are : IsTerms zero_element terms) (all : AllTermsIn has terms) (p : List Word) (u : Word) (is_word : joined p ≡ u)
    (lesser : (t : Word) → Same m (coefficient_of value terms t + leading p * single (joined p) t) (words_of_monomial p t))
    (columns : ColumnList) (col : ℕ) (a : E) (k : ℕ) (row : List (ℕ × E)) → slice_get columns.list col ≡ Some p → Same m (leading p * value a) 1
    → Same m (value a + k) 0
    → ((s : Sum) → IsCols m columns s (entries_of value ((col, a) ∷ [])) → IsRowOf m has value columns (λ t. s t + k * coefficient_of value terms t) row)
    → IsRowOf m has value columns (single u) row
made_row m pos zero_element has value has_zero value_zero value_injective value_below terms are all p u is_word lesser columns col a k row placed inverse
    opposite made =
    let at : column_at columns.list col ≡ p = get_or_from_slice_get columns.list col p [] placed in
    row_of_word m pos zero_element has value has_zero value_zero value_injective value_below terms are all p u is_word lesser columns a k row inverse opposite
    (made (λ t. value a * words_of_monomial p t)
    (subst (λ q. IsCols m columns (λ t. value a * words_of_monomial q t) (entries_of value ((col, a) ∷ []))) at
    (cols_entry m columns value col a (slice_get_within columns.list col p placed))))
