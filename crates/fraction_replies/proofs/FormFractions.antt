-- The replies with fractions by the polynomials of the words are the replies of the table.
use Rattle.std.specs.Prelude.{◌≡◌, ◌⊎◌, ℕ, ◌<◌, ◌≤◌, length}
use Rattle.std.proofs.Common.{refl, subst, inl, inr, arith}
use Rattle.std.proofs.lemmas.Bool.{cases_lt}
use Rattle.zeta_model.specs.Sums.{Sum, single}
use Rattle.lyndon_words.specs.Lyndon.{joined}
use Rattle.column_order.specs.Columns.{ColumnList}
use Rattle.table_model.specs.MonomialWords.{column_at}
use Rattle.table_model.specs.Computed.{cols_by}
use Rattle.table_model.specs.Conversion.{IsTable, IsTableSum}
use Rattle.table_model.specs.Complete.{IsPolynomial}
use Rattle.zeta_expr.specs.LineMeaning.{LineMeaning, means, refused, IsMeaning}
use Rattle.zeta_expr.proofs.OneMeaning.{some_meaning}
use Rattle.word_forms.proofs.FormSums.{sum_polynomial}
use Rattle.fraction_print.specs.FractionTexts.{AreCoefficients}
use Rattle.fraction_print.proofs.SomeFractions.{some_coefficients}
use Rattle.table_rewrite.proofs.LineReplies.{line_within}
use Rattle.fraction_replies.specs.Replies.{AnswersByFractions, AreFractionReplies}
use Rattle.fraction_replies.specs.Forms.{coefficient_at, coefficients, answer_by, reply_by}

-- what is printed for a residue is its coefficient
pub are_coefficients : (m : ℕ) → 3 ≤ m → AreCoefficients m (coefficients m)
are_coefficients m from = at (cases_lt m 3)
  where
    at : (which : (m < 3) ⊎ (3 ≤ m)) → AreCoefficients m (coefficient_at m which)
    at (inl few) = absurd (omega arith)
    at (inr enough) = (some_coefficients m enough).1

module _ (m : ℕ) (columns : ColumnList) (table : IsTable m columns) (count : ℕ) (lead : ℕ → ℕ) (rows forms : ℕ → ℕ → ℕ)
    (each : (col : ℕ) → col < length columns.list
    → IsPolynomial m columns count lead rows (single (joined (column_at columns.list col))) (forms col)) where
  answered : (a : LineMeaning) → ((s : Sum) → a ≡ means s → IsTableSum m columns s)
      → AnswersByFractions m columns count lead rows a (answer_by m columns forms a)
  answered (means s) within = record {
    rest = cols_by columns.list forms s;
    polynomial = sum_polynomial m columns table count lead rows forms each s (within s refl);
    prints = record { coefficient = coefficients m; are = are_coefficients m (omega (arith, table.modulus)); prints = refl };
  }
  answered (refused fault) within = refl

  -- the replies by the forms of the words are those of the table
  pub replies_by_forms : AreFractionReplies m columns count lead rows (reply_by m columns forms)
  replies_by_forms line =
      let given : (a : LineMeaning) × IsMeaning m columns.weight columns.depth line a = some_meaning m columns.weight columns.depth line in
      record {
        meaning = given.0;
        is_meaning = given.1;
        answers = answered given.0 (λ s e. line_within m columns table line s (subst (IsMeaning m columns.weight columns.depth line) e given.1));
      }
