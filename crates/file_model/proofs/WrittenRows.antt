-- A row and its combination are written in one way.
use Rattle.std.specs.Prelude.{◌≡◌, ℕ, true, [], ◌∷◌}
use Rattle.std.proofs.Common.{refl, sym, ◌∙◌}
use Rattle.linear_model.specs.Rows.{SameRow}
use Rattle.column_order.specs.Columns.{ColumnList}
use Rattle.sparse_rows.specs.Entries.{AllIn}
use Rattle.sparse_rows.proofs.SameRows.{same_row}
use Rattle.table_model.specs.Conversion.{IsTable, Converts}
use Rattle.table_model.specs.ReducedRows.{IsCombination, IsUnbroken}
use Rattle.table_model.proofs.ForwardRowLaws.{combination_unique}
use Rattle.table_model.proofs.RowWords.{same-words_of_row}
use Rattle.file_model.specs.Pages.{Work, IsWork, Pairs, IsPairs, IsWritten, IsRecorded}

all_in : (pairs : Pairs) → AllIn {K = ℕ} {E = ℕ} (λ _. true) pairs
all_in [] = tt
all_in (e ∷ es) = (refl, all_in es)

pub pairs_unique : (m : ℕ) (p q : ℕ → ℕ) (a b : Pairs) → SameRow m p q → IsPairs m p a → IsPairs m q b → a ≡ b
pairs_unique m p q a b e ha hb = same_row (λ k. k) (λ j k same. same) 0 (λ _. true) (λ v. v) m refl refl (λ v w _ _ same. same) 0 a b ha.row hb.row (all_in a)
    (all_in b) (λ n. sym (ha.residues n) ∙ e n ∙ hb.residues n)

pub written_unique : (m : ℕ) (columns : ColumnList) (work : Work) → IsWork m columns work → IsTable m columns → Converts m columns → (n : ℕ)
    → IsUnbroken m columns work.sums n → (p q : ℕ → ℕ) (a b c d : Pairs) → SameRow m p q
    → IsWritten m columns work n p a c → IsWritten m columns work n q b d → (a ≡ b) × (c ≡ d)
written_unique m columns work is_work table converts n whole p q a b c d e ha hb =
    let k = hb.is_combination in
    let moved : IsCombination m columns work.sums n p hb.coefficients =
    record { accepted = k.accepted; within = k.within; evaluates = λ t. same-words_of_row m columns p q e t ∙ k.evaluates t } in (
      pairs_unique m p q a b e ha.is_row hb.is_row,
      pairs_unique m (work.beside ha.coefficients) (work.beside hb.coefficients) c d
          (is_work.beside ha.coefficients hb.coefficients
          (combination_unique m columns table work.sums is_work.sums converts n whole p ha.coefficients hb.coefficients ha.is_combination moved))
          ha.is_written hb.is_written,
    )

-- what is recorded of a row is one
pub recorded_unique : (m : ℕ) (columns : ColumnList) (work : Work) → IsWork m columns work → IsTable m columns → Converts m columns → (n : ℕ)
    → IsUnbroken m columns work.sums n → (p g h : ℕ → ℕ) → IsRecorded m columns work n p g → IsRecorded m columns work n p h → SameRow m g h
recorded_unique m columns work is_work table converts n whole p g h a b k =
    sym (a.written k)
    ∙ is_work.beside a.coefficients b.coefficients
    (combination_unique m columns table work.sums is_work.sums converts n whole p a.coefficients b.coefficients a.is_combination b.is_combination) k
    ∙ b.written k
