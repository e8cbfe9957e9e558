-- Each line has a reply, reduced rows of all listed relations give it one, and what such replies tell of the lines.
use Rattle.std.specs.Prelude.{◌≡◌, ◌↔◌, ℕ, ◌%◌, ◌^◌, ◌<◌, ◌≤◌, ◌⊎◌, Some, List, [], ◌∷◌, length, slice_get}
use Rattle.std.proofs.Common.{refl, sym, ap, subst, ◌∙◌, inl, inr, arith}
use Rattle.std.proofs.lemmas.Bool.{cases_lt}
use Rattle.std.proofs.lemmas.Nat.{mod_below}
use Rattle.zeta_model.specs.Modular.{Same}
use Rattle.zeta_model.specs.Sums.{Sum, difference}
use Rattle.linear_model.specs.Rows.{SameRow}
use Rattle.linear_model.specs.Reduced.{IsReduced}
use Rattle.column_order.specs.Columns.{ColumnList}
use Rattle.echelon.specs.Lists.{lead_at, row_at}
use Rattle.table_model.specs.Conversion.{IsTable, IsTableSum, Converts, IsOver}
use Rattle.table_model.specs.ListedSpan.{values_of, count_of, InSpanOfAll}
use Rattle.table_model.specs.ReducedRows.{IsReducedRows}
use Rattle.table_model.proofs.CompleteRows.{reduced_rows_tell}
use Rattle.table_model.proofs.Polynomials.{polynomial_exists, polynomial_unique, polynomial_over}
use Rattle.zeta_expr.specs.declared.fault.LineFault.{LineFault}
use Rattle.zeta_expr.specs.declared.fault.LineFault.TheVariants.{LineTooLong, Syntax, NoInverse, WeightIs, DepthIs, Memory}
use Rattle.zeta_expr.specs.LineMeaning.{LineMeaning, means, refused, IsMeaning}
use Rattle.zeta_expr.proofs.OneMeaning.{some_meaning, one_meaning}
use Rattle.poly_print.specs.Polynomials.{pairs_from, residues_text}
use Rattle.poly_print.proofs.CutTexts.{IsDigit}
use Rattle.poly_print.proofs.PairLemmas.{pairs_from-pairs}
use Rattle.poly_print.proofs.TextLaws.{residues-one, begins-with_digit}
use Rattle.table_rewrite.specs.declared.reply.Reply.{Reply}
use Rattle.table_rewrite.specs.declared.reply.Reply.TheVariants.{Poly, Refused}
use Rattle.table_rewrite.specs.Replies.{IsPolynomialText, IsReply, fault_text, text_of_reply, AnswersMeaning, IsLineReply, AreReplies}
use Rattle.table_rewrite.specs.Telling.{BeginsWithDigit, TellsClasses}
use Rattle.table_rewrite.proofs.AcceptedWords.{none_in_line}

begins_with : (text : List ℕ) (b : ℕ) → slice_get text 0 ≡ Some b → IsDigit b → BeginsWithDigit text
begins_with [] b e d = cc
begins_with (x ∷ xs) b e d = let same : x ≡ b = cc in let from = d.0 in let to = d.1 in (omega arith, omega arith)

-- no refusal begins with a digit
not_a_digit : (fault : LineFault) → BeginsWithDigit (fault_text fault) → ⊥
not_a_digit LineTooLong h = let l : 108 < 58 = h.1 in omega arith
not_a_digit (Syntax at) h = let s : 115 < 58 = h.1 in omega arith
not_a_digit (NoInverse b) h = let n : 110 < 58 = h.1 in omega arith
not_a_digit (WeightIs k) h = let w : 119 < 58 = h.1 in omega arith
not_a_digit (DepthIs k) h = let d : 100 < 58 = h.1 in omega arith
not_a_digit (Memory e) h = let o : 111 < 58 = h.1 in omega arith

-- the text of a reply answers the line
pub reply_answers : {E : Type 0} (m : ℕ) (value : E → ℕ) (columns : ColumnList) (rows : List (List (ℕ × E))) (line : List ℕ) (reply : Reply)
    → IsReply m value columns rows line reply → IsLineReply m columns (length rows) (lead_at rows) (row_at value rows) line (text_of_reply reply)
reply_answers m value columns rows line (Poly text) (s, is, poly) = record { meaning = means s; is_meaning = is; answers = poly }
reply_answers m value columns rows line (Refused fault) is = record { meaning = refused fault; is_meaning = is; answers = refl }

module _ (m : ℕ) (columns : ColumnList) (table : IsTable m columns) where
  abbrev w : ℕ
  w = columns.weight

  abbrev d : ℕ
  d = columns.depth

  pos : 0 < m
  pos = omega (arith, table.modulus)

  some_weight : 2 ≤ columns.weight
  some_weight = let limits = table.limits in limits.least

  -- what an accepted line means is a sum of words of the table
  pub line_within : (line : List ℕ) (s : Sum) → IsMeaning m w d line (means s) → IsTableSum m columns s
  line_within line s is t other = ap (λ n. n % m) (none_in_line m w d line s t (omega (arith, some_weight)) pos is other)

  -- a meaning is answered
  answer_of : Converts m columns → (count : ℕ) (lead : ℕ → ℕ) (rows : ℕ → ℕ → ℕ) → IsReduced m count lead rows → (a : LineMeaning)
      → ((s : Sum) → a ≡ means s → IsTableSum m columns s) → (bytes : List ℕ) × AnswersMeaning m columns count lead rows a bytes
  answer_of converts count lead rows reduced (means s) within =
      let (q, is) = polynomial_exists m columns table converts count lead rows reduced s (within s refl) in
      (residues_text columns.list (λ col. q col % m), record { rest = q; polynomial = is; prints = refl })
  answer_of converts count lead rows reduced (refused fault) within = (fault_text fault, refl)

  pub some_reply : Converts m columns → (count : ℕ) (lead : ℕ → ℕ) (rows : ℕ → ℕ → ℕ) → IsReduced m count lead rows → (line : List ℕ)
      → (bytes : List ℕ) × IsLineReply m columns count lead rows line bytes
  some_reply converts count lead rows reduced line =
      let (a, is) = some_meaning m w d line in
      let r = answer_of converts count lead rows reduced a (λ s e. line_within line s (subst (IsMeaning m w d line) e is)) in
      (r.0, record { meaning = a; is_meaning = is; answers = r.1 })

  module _ (converts : Converts m columns) (count k : ℕ) (lead other_lead : ℕ → ℕ) (rows others : ℕ → ℕ → ℕ)
      (h : IsReducedRows m columns (values_of m columns) (count_of columns) count lead rows)
      (g : IsReducedRows m columns (values_of m columns) (count_of columns) k other_lead others) where
    one_answer : (a : LineMeaning) (x y : List ℕ) → AnswersMeaning m columns count lead rows a x → AnswersMeaning m columns k other_lead others a y → x ≡ y
    one_answer (means s) x y p q =
        let same : SameRow m p.rest q.rest =
        polynomial_unique m columns table converts (values_of m columns) (count_of columns) count k lead other_lead rows others h g s p.rest q.rest
        p.polynomial q.polynomial in
        p.prints ∙ (λ i. residues_text columns.list (λ col. same col i)) ∙ sym q.prints
    one_answer (refused fault) x y p q = p ∙ sym q

    -- two lists of the reduced rows of all relations give a line one reply
    pub one_reply : (line a b : List ℕ) → IsLineReply m columns count lead rows line a → IsLineReply m columns k other_lead others line b → a ≡ b
    one_reply line a b x y =
        one_answer x.meaning a b x.answers
        (subst (λ v. AnswersMeaning m columns k other_lead others v b) (one_meaning m w d line y.meaning x.meaning y.is_meaning x.is_meaning) y.answers)

  module _ (small : m < 2 ^ 64) where
    -- two rows over the columns with one text are the same
    same_rows : (p q : ℕ → ℕ) → IsOver m columns p → IsOver m columns q
        → residues_text columns.list (λ col. p col % m) ≡ residues_text columns.list (λ col. q col % m) → SameRow m p q
    same_rows p q op oq e col = by (cases_lt col (length columns.list))
      where
        by : (col < length columns.list) ⊎ (length columns.list ≤ col) → Same m (p col) (q col)
        by (inl l) =
            residues-one columns some_weight table.whole m (λ j. p j % m) (λ j. q j % m) small (λ j _. mod_below (p j) m pos) (λ j _. mod_below (q j) m pos) e
            col l
        by (inr past) = op col past ∙ sym (oq col past)

    -- the text of a row begins with a digit
    text_begins : (p : ℕ → ℕ) → BeginsWithDigit (residues_text columns.list (λ col. p col % m))
    text_begins p =
        let n = length columns.list in
        let f = begins-with_digit columns.list m n (pairs_from 0 n (λ col. p col % m)) small
        (pairs_from-pairs m n 0 n (λ col. p col % m) (omega arith) (λ j _. mod_below (p j) m pos)) in
        begins_with (residues_text columns.list (λ col. p col % m)) f.0 f.1 f.2

    module _ (count : ℕ) (lead : ℕ → ℕ) (rows : ℕ → ℕ → ℕ)
        (reduced : IsReducedRows m columns (values_of m columns) (count_of columns) count lead rows)
        (reply : List ℕ → List ℕ) (each : AreReplies m columns count lead rows reply) where
      -- the reply answers the meaning that is known of the line
      answer : (line : List ℕ) (a : LineMeaning) → IsMeaning m w d line a → AnswersMeaning m columns count lead rows a (reply line)
      answer line a is =
          let r : IsLineReply m columns count lead rows line (reply line) = each line in
          subst (λ v. AnswersMeaning m columns count lead rows v (reply line)) (one_meaning m w d line r.meaning a r.is_meaning is) r.answers

      canonical : (a b : List ℕ) (s t : Sum) → IsMeaning m w d a (means s) → IsMeaning m w d b (means t)
          → (reply a ≡ reply b) ↔ InSpanOfAll m w d (difference m s t)
      canonical a b s t ma mb =
          let x : IsPolynomialText m columns count lead rows s (reply a) = answer a (means s) ma in
          let y : IsPolynomialText m columns count lead rows t (reply b) = answer b (means t) mb in
          let tells : SameRow m x.rest y.rest ↔ InSpanOfAll m w d (difference m s t) =
          reduced_rows_tell m columns table count lead rows reduced s t x.rest y.rest x.polynomial y.polynomial in
          let over_x : IsOver m columns x.rest = polynomial_over m columns count lead rows reduced.over s x.rest x.polynomial in
          let over_y : IsOver m columns y.rest = polynomial_over m columns count lead rows reduced.over t y.rest y.polynomial in (
            λ e. tells.0 (same_rows x.rest y.rest over_x over_y (sym x.prints ∙ e ∙ y.prints)),
            λ h. let same : SameRow m x.rest y.rest = tells.1 h in x.prints ∙ (λ i. residues_text columns.list (λ col. same col i)) ∙ sym y.prints,
          )

      pub classes_told : TellsClasses m w d reply
      classes_told = record {
        whole = some_meaning m w d;
        canonical = canonical;
        exact = λ line fault is. answer line (refused fault) is;
        accepted = λ line s is.
            let x : IsPolynomialText m columns count lead rows s (reply line) = answer line (means s) is in
            subst BeginsWithDigit (sym x.prints) (text_begins x.rest);
        apart = λ line fault is h.
            let e : reply line ≡ fault_text fault = answer line (refused fault) is in not_a_digit fault (subst BeginsWithDigit e h);
      }
