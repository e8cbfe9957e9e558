-- A sealed forward page whose entries are the kept rows is the page of the work that goes on from them.
use Rattle.std.specs.Prelude.{◌≡◌, ℕ, suc, ◌*◌, ◌%◌, ◌<◌, if◌then◌else◌, cond, eqb, Some, List, slice_get}
use Rattle.std.proofs.Common.{sym, ◌∙◌, ap, subst, arith}
use Rattle.std.proofs.Math.Nat.{mod-eq_of_lt}
use Rattle.std.proofs.lemmas.Bool.{lt-ltb}
use Rattle.zeta_model.specs.Sums.{Sum, SameSum}
use Rattle.linear_model.specs.Rows.{SameRow}
use Rattle.column_order.specs.Columns.{ColumnList}
use Rattle.table_model.specs.MonomialWords.{words_of_row}
use Rattle.table_model.specs.Conversion.{IsTable, Converts}
use Rattle.table_model.specs.ListedSpan.{count_of}
use Rattle.table_model.specs.ReducedRows.{IsAccepted, IsForwardRow}
use Rattle.linear_model.proofs.Combinations.{combination-one}
use Rattle.table_model.proofs.RowWords.{same-words_of_row}
use Rattle.table_model.proofs.ForwardRowLaws.{forward_row_unique}
use Rattle.page_codec.specs.declared.parts.ForwardEntry.{ForwardEntry}
use Rattle.file_model.specs.Pages.{Work, IsWritten, IsForwardBlock}
use Rattle.file_model.specs.Resuming.{Kept, written_of, AreForward, AreKept, resumed_work}
use Rattle.file_model.proofs.Recorded.{recorded_own, written_recorded}
use Rattle.file_model.proofs.TrueRows.{work, sum_kept, sums_table}
use Rattle.file_model.proofs.SuitingRows.{going_on_forward, going_on_accepted}
use Rattle.file_model.proofs.SamePages.{number_stands}

-- what is written of one number alone is what is written beside its sum
pub beside_one : (m : ℕ) (columns : ColumnList) (kept : Kept) (n : ℕ) → n < count_of columns
    → SameRow m ((resumed_work m columns kept).beside (λ k. cond (eqb k n) 1 0)) (written_of kept n)
beside_one m columns kept n l j = combination-one m (count_of columns) (written_of kept) n 1 j l ∙ ap (λ x. x % m)
    (let e : 1 * written_of kept n j ≡ written_of kept n j = omega arith in e)

module _ (m : ℕ) (columns : ColumnList) (table : IsTable m columns) (converts : Converts m columns) (kept : Kept) (rows : AreForward m columns kept) where
  abbrev W : Work
  W = work m columns table converts kept

  entry_written : (b : ℕ) (es : List ForwardEntry) → AreKept m columns kept rows b es → (i : ℕ) (e : ForwardEntry) → slice_get es i ≡ Some e → (p : ℕ → ℕ)
      → IsForwardRow m columns W.sums e.number p → IsWritten m columns W (suc e.number) p e.row e.combination
  entry_written b es h i e at p f =
      let n : ℕ = e.number in
      let (found, from, to, few) = (h.numbers n).0 (number_stands es i e at) in
      let (j, lj, is) = found in
      let low : n < kept.below = omega (arith, to, h.block) in
      let (spelled, row) = h.row i e at in
      let (told, combination) = h.combination i e at in
      let own : IsForwardRow m columns W.sums n (kept.rows n) =
      subst (λ x. IsForwardRow m columns W.sums x (kept.rows x)) is (going_on_forward m columns table converts kept rows j lj) in
      let same : SameRow m p (kept.rows n) = forward_row_unique m columns table W.sums (sums_table m columns table converts kept) converts n p
      (kept.rows n) f own in
      let accepted : IsAccepted m columns W.sums n = (going_on_accepted m columns table converts kept rows n low).1 (j, lj, is) in
      let words : SameSum m (words_of_row columns.list p) (W.sums n) =
      λ t. same-words_of_row m columns p (kept.rows n) same t ∙ ap (λ (s : Sum). s t % m) (sym (sum_kept m columns table converts kept n low)) in
      let here : (k : ℕ) → written_of kept n k ≡ kept.combinations n k =
      λ k. ap (λ x. if x then kept.combinations n k else cond (eqb k n) 1 0) (lt-ltb n kept.below low) in
      written_recorded m columns W (suc n) p (W.beside (λ k. cond (eqb k n) 1 0)) e.row e.combination (recorded_own m columns W n p accepted words)
      (record { row = spelled; residues = λ q. let (small, r) = row q in same q ∙ ap (λ x. x % m) r ∙ mod-eq_of_lt small })
      (record {
        row = told;
        residues = λ q. let (small, r) = combination q in
            beside_one m columns kept n few q ∙ ap (λ x. x % m) (here q ∙ r) ∙ mod-eq_of_lt small;
      })

  pub kept_page : (b : ℕ) (es : List ForwardEntry) → AreKept m columns kept rows b es → IsForwardBlock m columns W b es
  kept_page b es h = record {
    increasing = h.increasing;
    whole = λ n. (
      λ c. let (found, from, to, few) = (h.numbers n).0 c in
          ((going_on_accepted m columns table converts kept rows n (omega (arith, to, h.block))).1 found, from, to, few),
      λ (is, from, to, few). (h.numbers n).1 ((going_on_accepted m columns table converts kept rows n (omega (arith, to, h.block))).0 is, from, to, few),
    );
    rows = entry_written b es h;
  }
