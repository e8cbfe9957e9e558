-- The terms of a row's text mean the words of the row.
use Rattle.std.proofs.Common.{◌≡◌, ℕ, zero, suc, ◌+◌, ◌*◌, ◌<◌, ◌≤◌, inl, inr, List, [], ◌∷◌, length, map, get_or, refl, sym, ap, ◌∙◌, arith}
use Rattle.std.specs.Prelude.{nat_eq, if◌then◌else◌}
use Rattle.std.specs.List.{AllByRecursion}
use Rattle.std.proofs.lemmas.Bool.{cases_eq, eq-eqb, ne_eqb}
use Rattle.linear_model.specs.Rows.{total}
use Rattle.linear_model.proofs.Totals.{total-zero, total-add, total_alike}
use Rattle.sparse_rows.specs.Entries.{entry_of}
use Rattle.zeta_expr.specs.Meaning.{sum_of_terms}
use Rattle.poly_print.specs.Polynomials.{ArePairs}
use Rattle.table_model.specs.MonomialWords.{words_of_monomial, words_of_row}
use Rattle.poly_lines.specs.Lines.{term_form, row_terms}
use Rattle.poly_lines.proofs.MonomialMeaning.{Word, IsAdmissible, term-words}

abbrev residue_at : List (ℕ × ℕ) → ℕ → ℕ
residue_at es col = entry_of (λ c. c) (λ r. r) es col

times-plus : (a b w : ℕ) → (a + b) * w ≡ a * w + b * w
times-plus a b w = omega arith

-- one residue at one column
abbrev one_at : ℕ → ℕ → ℕ → ℕ
one_at c r col = if nat_eq c col then r else 0

none-at : (n c r : ℕ) (f : ℕ → ℕ) → n ≤ c → total n (λ col. one_at c r col * f col) ≡ 0
none-at zero c r f h = refl
none-at (suc n) c r f h =
    let a = none-at n c r f (omega arith) in
    let b : one_at c r n ≡ 0 = ap (λ b. if b then r else 0) (ne_eqb c n (λ e. absurd (omega arith))) in
    (λ i. a i + b i * f n) ∙ omega arith

total-one : (n c r : ℕ) (f : ℕ → ℕ) → c < n → total n (λ col. one_at c r col * f col) ≡ r * f c
total-one zero c r f h = absurd (omega arith)
total-one (suc n) c r f h = elim (cases_eq c n) [
  | inl e ↦
      let a = none-at n c r f (omega arith) in
      let b : one_at c r c ≡ r = ap (λ b. if b then r else 0) (eq-eqb c c refl) in
      (λ i. a i + one_at c r (sym e i) * f (sym e i)) ∙ (λ i. 0 + b i * f c) ∙ omega arith
  | inr d ↦
      let a = total-one n c r f (omega arith) in
      let b : one_at c r n ≡ 0 = ap (λ b. if b then r else 0) (ne_eqb c n d) in
      (λ i. a i + b i * f n) ∙ omega arith
]

-- each column's monomial is of admissible words
abbrev pub AreAdmissible : List (List Word) → Type 0
AreAdmissible columns = (col : ℕ) → col < length columns → AllByRecursion IsAdmissible (get_or columns col [])

module _ (m : ℕ) (columns : List (List Word)) (admissible : AreAdmissible columns) where
  terms-words : (low k : ℕ) (es : List (ℕ × ℕ)) (t : Word) → ArePairs k (length columns) low es → sum_of_terms m (map (term_form columns) es) t
      ≡ words_of_row columns (residue_at es) t
  terms-words low k [] t a = sym (total_alike (length columns) (λ col. 0 * words_of_monomial (get_or columns col []) t) (λ _. 0) (λ col. omega arith)
      ∙ total-zero (length columns))
  terms-words low k (e ∷ es) t (a, b, c, d, r) =
      let n = length columns in
      let f : ℕ → ℕ = λ col. words_of_monomial (get_or columns col []) t in
      (λ i. term-words m e.1 (get_or columns e.0 []) t (admissible e.0 b) i + terms-words (e.0 + 1) k es t r i)
      ∙ (λ i. sym (total-one n e.0 e.1 f b) i + total n (λ col. residue_at es col * f col))
      ∙ sym (total-add n (λ col. one_at e.0 e.1 col * f col) (λ col. residue_at es col * f col))
      ∙ total_alike n _ _ (λ col. sym (times-plus (one_at e.0 e.1 col) (residue_at es col) (f col)))

  pub row-words : (k : ℕ) (es : List (ℕ × ℕ)) (t : Word) → ArePairs k (length columns) 0 es → sum_of_terms m (row_terms columns es) t
      ≡ words_of_row columns (residue_at es) t
  row-words k [] t a = (let z : sum_of_terms m (row_terms columns []) t ≡ 0 = omega arith in z) ∙ terms-words 0 k [] t a
  row-words k (e ∷ es) t a = terms-words 0 k (e ∷ es) t a
