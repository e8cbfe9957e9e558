-- Each line has a reply with fractions, reduced rows of all listed relations give it one, and what such replies tell of the lines.
use Rattle.std.specs.Prelude.{◌≡◌, ◌↔◌, ◌⊎◌, ℕ, ◌%◌, ◌^◌, ◌<◌, ◌≤◌, List, length}
use Rattle.std.proofs.Common.{refl, sym, subst, ◌∙◌, inl, inr, arith}
use Rattle.std.proofs.lemmas.Bool.{cases_lt}
use Rattle.std.proofs.lemmas.Nat.{mod_below}
use Rattle.zeta_model.specs.Modular.{Same}
use Rattle.zeta_model.specs.Sums.{Sum, difference}
use Rattle.linear_model.specs.Rows.{SameRow}
use Rattle.linear_model.specs.Reduced.{IsReduced}
use Rattle.column_order.specs.Columns.{ColumnList}
use Rattle.table_model.specs.Conversion.{IsTable, IsTableSum, Converts, IsOver}
use Rattle.table_model.specs.ListedSpan.{values_of, count_of, InSpanOfAll}
use Rattle.table_model.specs.ReducedRows.{IsReducedRows}
use Rattle.table_model.proofs.CompleteRows.{reduced_rows_tell}
use Rattle.table_model.proofs.Polynomials.{polynomial_exists, polynomial_unique, polynomial_over}
use Rattle.zeta_expr.specs.LineMeaning.{LineMeaning, means, refused, IsMeaning}
use Rattle.zeta_expr.proofs.OneMeaning.{some_meaning, one_meaning}
use Rattle.poly_print.specs.Polynomials.{ArePairs, pairs_from}
use Rattle.poly_print.proofs.PairLemmas.{pairs_from-pairs, pairs_from-same}
use Rattle.fraction_print.specs.FractionTexts.{IsFractionsText}
use Rattle.fraction_print.proofs.TextLaws.{some_text, one_text, rows_same}
use Rattle.table_rewrite.specs.Replies.{fault_text}
use Rattle.table_rewrite.proofs.LineReplies.{line_within}
use Rattle.fraction_replies.specs.Replies.{IsFractionsOfSum, AnswersByFractions, IsFractionReply, AreFractionReplies}
use Rattle.fraction_replies.specs.Telling.{BeginsAsNumber, TellsByFractions}
use Rattle.fraction_replies.proofs.FirstBytes.{no_number, fractions_begin}

module _ (m : ℕ) (columns : ColumnList) (table : IsTable m columns) where
  abbrev w : ℕ
  w = columns.weight

  abbrev d : ℕ
  d = columns.depth

  -- the residues of a row, with their columns
  abbrev pub pairs_at : (ℕ → ℕ) → List (ℕ × ℕ)
  pairs_at p = pairs_from 0 (length columns.list) (λ col. p col % m)

  pos : 0 < m
  pos = omega (arith, table.modulus)

  some_weight : 2 ≤ columns.weight
  some_weight = let limits = table.limits in limits.least

  are_pairs : (p : ℕ → ℕ) → ArePairs m (length columns.list) 0 (pairs_at p)
  are_pairs p = pairs_from-pairs m (length columns.list) 0 (length columns.list) (λ col. p col % m) (omega arith) (λ j _. mod_below (p j) m pos)

  -- a meaning is answered
  answer_of : Converts m columns → (count : ℕ) (lead : ℕ → ℕ) (rows : ℕ → ℕ → ℕ) → IsReduced m count lead rows → (a : LineMeaning)
      → ((s : Sum) → a ≡ means s → IsTableSum m columns s) → (bytes : List ℕ) × AnswersByFractions m columns count lead rows a bytes
  answer_of converts count lead rows reduced (means s) within =
      let (q, is) = polynomial_exists m columns table converts count lead rows reduced s (within s refl) in
      let (text, prints) = some_text m columns (pairs_at q) (omega (arith, table.modulus)) in
      (text, record { rest = q; polynomial = is; prints = prints })
  answer_of converts count lead rows reduced (refused fault) within = (fault_text fault, refl)

  pub some_reply : Converts m columns → (count : ℕ) (lead : ℕ → ℕ) (rows : ℕ → ℕ → ℕ) → IsReduced m count lead rows → (line : List ℕ)
      → (bytes : List ℕ) × IsFractionReply m columns count lead rows line bytes
  some_reply converts count lead rows reduced line =
      let (a, is) = some_meaning m w d line in
      let r = answer_of converts count lead rows reduced a (λ s e. line_within m columns table line s (subst (IsMeaning m w d line) e is)) in
      (r.0, record { meaning = a; is_meaning = is; answers = r.1 })

  -- one row has one text
  same_texts : (p q : ℕ → ℕ) (x y : List ℕ) → SameRow m p q → IsFractionsText m columns.list (pairs_at p) x
      → IsFractionsText m columns.list (pairs_at q) y → x ≡ y
  same_texts p q x y same tp tq =
      one_text m (length columns.list) columns (pairs_at p) x y (are_pairs p) tp
      (subst (λ r. IsFractionsText m columns.list r y) (λ i. pairs_from 0 (length columns.list) (λ col. sym (same col) i)) tq)

  module _ (converts : Converts m columns) (count k : ℕ) (lead other_lead : ℕ → ℕ) (rows others : ℕ → ℕ → ℕ)
      (h : IsReducedRows m columns (values_of m columns) (count_of columns) count lead rows)
      (g : IsReducedRows m columns (values_of m columns) (count_of columns) k other_lead others) where
    one_answer : (a : LineMeaning) (x y : List ℕ) → AnswersByFractions m columns count lead rows a x → AnswersByFractions m columns k other_lead others a y
        → x ≡ y
    one_answer (means s) x y p q =
        let same : SameRow m p.rest q.rest =
        polynomial_unique m columns table converts (values_of m columns) (count_of columns) count k lead other_lead rows others h g s p.rest q.rest
        p.polynomial q.polynomial in
        same_texts p.rest q.rest x y same p.prints q.prints
    one_answer (refused fault) x y p q = p ∙ sym q

    -- two lists of the reduced rows of all relations give a line one reply
    pub one_reply : (line a b : List ℕ) → IsFractionReply m columns count lead rows line a → IsFractionReply m columns k other_lead others line b → a ≡ b
    one_reply line a b x y =
        one_answer x.meaning a b x.answers
        (subst (λ v. AnswersByFractions m columns k other_lead others v b) (one_meaning m w d line y.meaning x.meaning y.is_meaning x.is_meaning) y.answers)

  module _ (small : m < 2 ^ 64) where
    -- two rows over the columns with one text are the same
    same_rows : (p q : ℕ → ℕ) (text : List ℕ) → IsOver m columns p → IsOver m columns q → IsFractionsText m columns.list (pairs_at p) text
        → IsFractionsText m columns.list (pairs_at q) text → SameRow m p q
    same_rows p q text op oq tp tq col = by (cases_lt col (length columns.list))
      where
        by : (col < length columns.list) ⊎ (length columns.list ≤ col) → Same m (p col) (q col)
        by (inl l) =
            let same : pairs_at p ≡ pairs_at q =
            rows_same columns some_weight table.whole m (pairs_at p) (pairs_at q) text (omega (arith, table.modulus)) small (are_pairs p) (are_pairs q) tp tq in
            pairs_from-same 0 (length columns.list) (λ j. p j % m) (λ j. q j % m) same col (omega arith) (omega arith)
        by (inr past) = op col past ∙ sym (oq col past)

    module _ (count : ℕ) (lead : ℕ → ℕ) (rows : ℕ → ℕ → ℕ)
        (reduced : IsReducedRows m columns (values_of m columns) (count_of columns) count lead rows)
        (reply : List ℕ → List ℕ) (each : AreFractionReplies m columns count lead rows reply) where
      -- the reply answers the meaning that is known of the line
      answer : (line : List ℕ) (a : LineMeaning) → IsMeaning m w d line a → AnswersByFractions m columns count lead rows a (reply line)
      answer line a is =
          let r : IsFractionReply m columns count lead rows line (reply line) = each line in
          subst (λ v. AnswersByFractions m columns count lead rows v (reply line)) (one_meaning m w d line r.meaning a r.is_meaning is) r.answers

      canonical : (a b : List ℕ) (s t : Sum) → IsMeaning m w d a (means s) → IsMeaning m w d b (means t)
          → (reply a ≡ reply b) ↔ InSpanOfAll m w d (difference m s t)
      canonical a b s t ma mb =
          let x : IsFractionsOfSum m columns count lead rows s (reply a) = answer a (means s) ma in
          let y : IsFractionsOfSum m columns count lead rows t (reply b) = answer b (means t) mb in
          let tells : SameRow m x.rest y.rest ↔ InSpanOfAll m w d (difference m s t) =
          reduced_rows_tell m columns table count lead rows reduced s t x.rest y.rest x.polynomial y.polynomial in
          let over_x : IsOver m columns x.rest = polynomial_over m columns count lead rows reduced.over s x.rest x.polynomial in
          let over_y : IsOver m columns y.rest = polynomial_over m columns count lead rows reduced.over t y.rest y.polynomial in (
            λ e. tells.0 (same_rows x.rest y.rest (reply b) over_x over_y (subst (IsFractionsText m columns.list (pairs_at x.rest)) e x.prints) y.prints),
            λ h. same_texts x.rest y.rest (reply a) (reply b) (tells.1 h) x.prints y.prints,
          )

      pub classes_told : TellsByFractions m w d reply
      classes_told = record {
        whole = some_meaning m w d;
        canonical = canonical;
        exact = λ line fault is. answer line (refused fault) is;
        accepted = λ line s is.
            let x : IsFractionsOfSum m columns count lead rows s (reply line) = answer line (means s) is in
            let t : IsFractionsText m columns.list (pairs_at x.rest) (reply line) = x.prints in
            subst BeginsAsNumber (sym t.prints)
            (fractions_begin m pos small columns.list t.coefficient (length columns.list) (pairs_at x.rest) t.are (are_pairs x.rest));
        apart = λ line fault is h.
            let e : reply line ≡ fault_text fault = answer line (refused fault) is in no_number fault (subst BeginsAsNumber e h);
      }
