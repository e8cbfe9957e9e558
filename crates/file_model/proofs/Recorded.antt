-- What is written beside sums of recorded rows.
use Rattle.std.specs.Prelude.{◌≡◌, ℕ, zero, suc, ◌+◌, ◌*◌, ◌%◌, ◌<◌, ◌≤◌, cond, eqb, List, length}
use Rattle.std.proofs.Common.{refl, sym, ◌∙◌, ap, subst, inl, inr, arith}
use Rattle.std.proofs.lemmas.Bool.{cases_eq, ne_eqb}
use Rattle.zeta_model.specs.declared.Letter.{Letter}
use Rattle.zeta_model.specs.Modular.{Same}
use Rattle.zeta_model.specs.Sums.{Sum, SameSum}
use Rattle.zeta_model.proofs.ModularLemmas.{same-mod, same-add, same-add_left, same-mul_left, same-mul_right}
use Rattle.linear_model.specs.Rows.{total, combination, SameRow}
use Rattle.column_order.specs.Columns.{ColumnList}
use Rattle.table_model.specs.MonomialWords.{column_at, words_of_monomial, sum_combination, words_of_row}
use Rattle.table_model.specs.ReducedRows.{IsAccepted}
use Rattle.linear_model.proofs.Combinations.{combination-one}
use Rattle.table_model.proofs.SumSpans.{sum_combination-add, sum_combination-scaled}
use Rattle.table_model.proofs.RowWords.{same-words_of_row}
use Rattle.file_model.specs.Pages.{Work, IsWork, Pairs, pairs_of, IsPairs, IsWritten, IsRecorded}

-- pairs of a row are that row modulo m
pub pairs_same : (m : ℕ) (p : ℕ → ℕ) (pairs : Pairs) → IsPairs m p pairs → SameRow m p (pairs_of pairs)
pairs_same m p pairs h q = sym (same-mod m (p q)) ∙ ap (λ x. x % m) (h.residues q)

zero_total : (n : ℕ) (f : ℕ → ℕ) → total n (λ i. 0 * f i) ≡ 0
zero_total zero f = refl
zero_total (suc n) f = omega (arith, zero_total n f)

module _ (m : ℕ) (columns : ColumnList) (work : Work) where
  pub recorded_same : (n : ℕ) (p q g h : ℕ → ℕ) → SameRow m p q → SameRow m g h → IsRecorded m columns work n p g → IsRecorded m columns work n q h
  recorded_same n p q g h pq gh r = let c = r.is_combination in record {
    coefficients = r.coefficients;
    is_combination = record {
      accepted = c.accepted;
      within = c.within;
      evaluates = λ t. same-words_of_row m columns q p (λ col. sym (pq col)) t ∙ c.evaluates t;
    };
    written = λ k. r.written k ∙ gh k;
  }

  -- what is recorded over the numbers below n is so over one more
  pub recorded_more : (n : ℕ) (p g : ℕ → ℕ) → IsRecorded m columns work n p g → IsRecorded m columns work (suc n) p g
  recorded_more n p g h =
      let c = h.is_combination in record {
        coefficients = h.coefficients;
        written = h.written;
        is_combination = record {
          accepted = λ k l none. elim (cases_eq k n) [
            | inl at ↦ c.within k (omega arith)
            | inr ne ↦ c.accepted k (omega arith) none
          ];
          within = λ k l. c.within k (omega arith);
          evaluates = λ t.
              c.evaluates t ∙ ap (λ x. x % m) (let z : sum_combination n work.sums h.coefficients t ≡ sum_combination n work.sums h.coefficients t + 0 =
              omega arith in z)
              ∙ same-add_left m 0 (h.coefficients n * work.sums n t) (sum_combination n work.sums h.coefficients t)
              (sym (same-mul_right m (h.coefficients n) 0 (work.sums n t) (c.within n (omega arith))
              ∙ ap (λ x. x % m) (let z : 0 * work.sums n t ≡ 0 = omega arith in z)));
        };
      }

  -- and over any more
  pub recorded_upto : (k n : ℕ) → n ≤ k → (p g : ℕ → ℕ) → IsRecorded m columns work n p g → IsRecorded m columns work k p g
  recorded_upto zero n l p g r = subst (λ x. IsRecorded m columns work x p g) (omega arith) r
  recorded_upto (suc k) n l p g r = elim (cases_eq n (suc k)) [
    | inl at ↦ subst (λ x. IsRecorded m columns work x p g) at r
    | inr ne ↦ recorded_more k p g (recorded_upto k n (omega arith) p g r)
  ]

  -- a sum of two recorded rows is recorded with the same sum
  pub recorded_sum : IsWork m columns work → (n a b : ℕ) (p q g h : ℕ → ℕ) → IsRecorded m columns work n p g → IsRecorded m columns work n q h
      → IsRecorded m columns work n (λ col. a * p col + b * q col) (λ k. a * g k + b * h k)
  recorded_sum is_work n a b p q g h x y =
      let c = x.is_combination in let d = y.is_combination in record {
        coefficients = λ k. a * x.coefficients k + b * y.coefficients k;
        is_combination = record {
          accepted = λ k l none. zero_sum (x.coefficients k) (y.coefficients k) (c.accepted k l none) (d.accepted k l none);
          within = λ k l. zero_sum (x.coefficients k) (y.coefficients k) (c.within k l) (d.within k l);
          evaluates = λ t.
              ap (λ x. x % m) (words_of_two t)
              ∙ same-add m (a * words_of_row columns.list p t) (a * sum_combination n work.sums x.coefficients t) (b * words_of_row columns.list q t)
              (b * sum_combination n work.sums y.coefficients t)
              (same-mul_left m (words_of_row columns.list p t) _ a (c.evaluates t)) (same-mul_left m (words_of_row columns.list q t) _ b (d.evaluates t))
              ∙ ap (λ x. x % m) (sym (sum_combination-add n work.sums (λ k. a * x.coefficients k) (λ k. b * y.coefficients k) t
              ∙ (λ z. sum_combination-scaled n work.sums a x.coefficients t z + sum_combination-scaled n work.sums b y.coefficients t z)));
        };
        written = λ j. is_work.linear a b x.coefficients y.coefficients j
            ∙ same-add m (a * work.beside x.coefficients j) (a * g j) (b * work.beside y.coefficients j) (b * h j)
            (same-mul_left m (work.beside x.coefficients j) (g j) a (x.written j)) (same-mul_left m (work.beside y.coefficients j) (h j) b (y.written j));
      }
    where
      zero_sum : (u v : ℕ) → Same m u 0 → Same m v 0 → Same m (a * u + b * v) 0
      zero_sum u v hu hv = same-add m (a * u) 0 (b * v) 0 (same-mul_left m u 0 a hu ∙ ap (λ x. x % m) (omega arith))
          (same-mul_left m v 0 b hv ∙ ap (λ x. x % m) (omega arith))

      words_of_two : (t : List Letter) → words_of_row columns.list
          (λ col. a * p col + b * q col) t ≡ a * words_of_row columns.list p t + b * words_of_row columns.list q t
      words_of_two t =
          let ms : ℕ → Sum = λ col. words_of_monomial (column_at columns.list col) in
          sum_combination-add (length columns.list) ms (λ col. a * p col) (λ col. b * q col) t
          ∙ (λ z. sum_combination-scaled (length columns.list) ms a p t z + sum_combination-scaled (length columns.list) ms b q t z)

  -- the row of an accepted sum is recorded with what is written of that sum alone
  pub recorded_own : (n : ℕ) (p : ℕ → ℕ) → IsAccepted m columns work.sums n → SameSum m (words_of_row columns.list p) (work.sums n)
      → IsRecorded m columns work (suc n) p (work.beside (λ k. cond (eqb k n) 1 0))
  recorded_own n p is e = record {
    coefficients = λ k. cond (eqb k n) 1 0;
    written = λ j. refl;
    is_combination = record {
      accepted = λ k l none. elim (cases_eq k n) [
        | inl at ↦ absurd (none (subst (IsAccepted m columns work.sums) (sym at) is))
        | inr ne ↦ ap (λ b. cond b 1 0 % m) (ne_eqb k n ne)
      ];
      within = λ k l. ap (λ b. cond b 1 0 % m) (ne_eqb k n (omega arith));
      evaluates = λ t. e t ∙ ap (λ x. x % m) (let z : work.sums n t ≡ 1 * work.sums n t = omega arith in z)
          ∙ sym (combination-one m (suc n) (λ i _. work.sums i t) n 1 0 (omega arith));
    };
  }

  -- pairs of a recorded row and of what is recorded are what is written
  pub written_recorded : (n : ℕ) (p g : ℕ → ℕ) (row combination : Pairs) → IsRecorded m columns work n p g → IsPairs m p row → IsPairs m g combination
      → IsWritten m columns work n p row combination
  written_recorded n p g row combination h hr hc =
      record {
        is_row = hr;
        coefficients = h.coefficients;
        is_combination = h.is_combination;
        is_written =
            record { row = hc.row; residues = λ q. h.written q ∙ hc.residues q };
      }

  -- pairs that are written are recorded
  pub recorded_written : (n : ℕ) (p : ℕ → ℕ) (row combination : Pairs) → IsWritten m columns work n p row combination
      → IsRecorded m columns work n (pairs_of row) (pairs_of combination)
  recorded_written n p row combination w =
      recorded_same n p (pairs_of row) (work.beside w.coefficients) (pairs_of combination) (pairs_same m p row w.is_row)
      (pairs_same m (work.beside w.coefficients) combination w.is_written)
      (record { coefficients = w.coefficients; is_combination = w.is_combination; written = λ k. refl })

  module _ (is_work : IsWork m columns work) (n : ℕ) where
    -- a recorded row and a sum of such
    pub recorded_combination : (a : ℕ) (p g : ℕ → ℕ) → IsRecorded m columns work n p g → (count : ℕ) (rows gs : ℕ → ℕ → ℕ) (c : ℕ → ℕ)
        → ((i : ℕ) → i < count → IsRecorded m columns work n (rows i) (gs i))
        → IsRecorded m columns work n (λ q. a * p q + combination count rows c q) (λ q. a * g q + combination count gs c q)
    recorded_combination a p g r zero rows gs c each =
        recorded_same n (λ q. a * p q + 0 * p q) (λ q. a * p q + 0) (λ q. a * g q + 0 * g q) (λ q. a * g q + 0)
        (λ q. ap (λ x. x % m) (omega arith)) (λ q. ap (λ x. x % m) (omega arith)) (recorded_sum is_work n a 0 p p g g r r)
    recorded_combination a p g r (suc count) rows gs c each =
        recorded_same n (λ q. 1 * (a * p q + combination count rows c q) + c count * rows count q)
        (λ q. a * p q + (combination count rows c q + c count * rows count q))
        (λ q. 1 * (a * g q + combination count gs c q) + c count * gs count q) (λ q. a * g q + (combination count gs c q + c count * gs count q))
        (λ q. ap (λ x. x % m) (omega arith)) (λ q. ap (λ x. x % m) (omega arith))
        (recorded_sum is_work n 1 (c count) (λ q. a * p q + combination count rows c q) (rows count)
        (λ q. a * g q + combination count gs c q) (gs count)
        (recorded_combination a p g r count rows gs c (λ i l. each i (omega arith))) (each count (omega arith)))

module _ (m : ℕ) (columns : ColumnList) (work : Work) (is_work : IsWork m columns work) (n : ℕ) where
  -- the row without entries
  pub recorded_zero : IsRecorded m columns work n (λ _. 0) (λ _. 0)
  recorded_zero = record {
    coefficients = λ _. 0;
    is_combination = record {
      accepted = λ k l none. refl;
      within = λ k l. refl;
      evaluates = λ t. ap (λ x. x % m) (zero_total (length columns.list) (λ col. words_of_monomial (column_at columns.list col) t)
          ∙ sym (zero_total n (λ i. work.sums i t)));
    };
    written = λ j. is_work.beside (λ _. 0) (λ k. 0 * 0 + 0 * 0) (λ k. ap (λ x. x % m) (omega arith)) j
        ∙ is_work.linear 0 0 (λ _. 0) (λ _. 0) j ∙ ap (λ x. x % m) (omega arith);
  }
