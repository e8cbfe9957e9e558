-- The rows of sums that are added.
use Rattle.std.specs.Prelude.{◌≡◌, ℕ, ◌+◌, ◌*◌, ◌%◌, ◌<◌, cond, eqb, List, [], ◌∷◌, length}
use Rattle.std.proofs.Common.{refl, sym, ◌∙◌, ap, inl, inr, arith}
use Rattle.std.proofs.lemmas.Bool.Decides.{eqb_tells}
use Rattle.zeta_model.specs.declared.Letter.{Letter}
use Rattle.zeta_model.specs.Sums.{Sum, SameSum}
use Rattle.zeta_model.proofs.ModularLemmas.{same-add, same-mul_left}
use Rattle.linear_model.specs.Rows.{total, SameRow}
use Rattle.linear_model.proofs.Totals.{total-add, mul-total, total_alike, total_vanishes}
use Rattle.column_order.specs.Columns.{ColumnList}
use Rattle.table_model.specs.MonomialWords.{column_at, words_of_monomial, words_of_row}
use Rattle.table_model.specs.Conversion.{IsCols}
use Rattle.table_model.proofs.RowWords.{same-words_of_row}
use Rattle.table_model.proofs.Bridges.{unit_row-is}
use Rattle.lyndon_polys.specs.Tables.{entries_of}

abbrev Word : Type 0
Word = List Letter

parts : (a b c x : ℕ) → (a + c * b) * x ≡ a * x + c * (b * x)
parts a b c x = grind arith

-- the words of a row and a multiple of another
pub words_of_row-plus : (list : List (List Word)) (p q : ℕ → ℕ) (c : ℕ) (t : Word)
    → words_of_row list (λ col. p col + c * q col) t ≡ words_of_row list p t + c * words_of_row list q t
words_of_row-plus list p q c t =
    let n : ℕ = length list in
    let w : ℕ → ℕ = λ col. words_of_monomial (column_at list col) t in
    total_alike n (λ col. (p col + c * q col) * w col) (λ col. p col * w col + c * (q col * w col)) (λ col. parts (p col) (q col) c (w col))
    ∙ total-add n (λ col. p col * w col) (λ col. c * (q col * w col))
    ∙ ap (λ x. total n (λ col. p col * w col) + x) (sym (mul-total n c (λ col. q col * w col)))

module _ (m : ℕ) (columns : ColumnList) where
  pub cols_same : (s r : Sum) (p q : ℕ → ℕ) → SameSum m s r → SameRow m p q → IsCols m columns s p → IsCols m columns r q
  cols_same s r p q sums rows h = record {
    over = λ col past. sym (rows col) ∙ h.over col past;
    words = λ t. sym (same-words_of_row m columns p q rows t) ∙ h.words t ∙ sums t;
  }

  pub cols_plus : (s r : Sum) (p q : ℕ → ℕ) (c : ℕ) → IsCols m columns s p → IsCols m columns r q
      → IsCols m columns (λ t. s t + c * r t) (λ col. p col + c * q col)
  cols_plus s r p q c hp hq = record {
    over = λ col past. same-add m (p col) 0 (c * q col) (c * 0) (hp.over col past) (same-mul_left m (q col) 0 c (hq.over col past))
        ∙ ap (λ x. x % m) (omega arith);
    words = λ t.
        ap (λ x. x % m) (words_of_row-plus columns.list p q c t)
        ∙ same-add m (words_of_row columns.list p t) (s t) (c * words_of_row columns.list q t) (c * r t) (hp.words t)
        (same-mul_left m (words_of_row columns.list q t) (r t) c (hq.words t));
  }

  pub cols_zero : IsCols m columns (λ t. 0) (λ col. 0)
  cols_zero = record {
    over = λ col past. refl;
    words = λ t. total_vanishes m (length columns.list) (λ col. 0 * words_of_monomial (column_at columns.list col) t)
        (λ col l. ap (λ x. x % m) (let e : 0 * words_of_monomial (column_at columns.list col) t ≡ 0 = omega arith in e));
  }

  -- one entry is a multiple of the words of its column
  pub cols_entry : {E : Type 0} (value : E → ℕ) (col : ℕ) (a : E) → col < length columns.list
      → IsCols m columns (λ t. value a * words_of_monomial (column_at columns.list col) t) (entries_of value ((col, a) ∷ []))
  cols_entry value col a l =
      cols_same (λ t. 0 + value a * words_of_monomial (column_at columns.list col) t) (λ t. value a * words_of_monomial (column_at columns.list col) t)
      (λ j. 0 + value a * cond (eqb j col) 1 0) (entries_of value ((col, a) ∷ [])) (λ t. ap (λ x. x % m) (omega arith)) (λ j. ap (λ x. x % m) (at j))
      (cols_plus (λ t. 0) (words_of_monomial (column_at columns.list col)) (λ j. 0) (λ j. cond (eqb j col) 1 0) (value a) cols_zero
      (unit_row-is m columns col l))
    where
      at : (j : ℕ) → 0 + value a * cond (eqb j col) 1 0 ≡ cond (eqb col j) (value a) 0 + 0
      at j = elim (eqb_tells j col) [
        | inl y ↦ elim (eqb_tells col j) [
          | inl z ↦ (λ i. 0 + value a * cond (y.0 i) 1 0) ∙ omega arith ∙ (λ i. cond (sym z.0 i) (value a) 0 + 0)
          | inr z ↦ absurd (z.1 (sym y.1))
        ]
        | inr y ↦ elim (eqb_tells col j) [
          | inl z ↦ absurd (y.1 (sym z.1))
          | inr z ↦ (λ i. 0 + value a * cond (y.0 i) 1 0) ∙ omega arith ∙ (λ i. cond (sym z.0 i) (value a) 0 + 0)
        ]
      ]
