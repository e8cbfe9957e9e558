-- What is found of the rows that were read is found of the pages.
use Rattle.std.proofs.Common.{◌≡◌, ℕ, Bool, List, length, get_or, Option, Some, None, refl, sym, subst}
use Rattle.std.specs.Prelude.{IfSome, IsSomeAnd}
use Rattle.zeta_model.specs.declared.Letter.{Letter}
use Rattle.sparse_rows.specs.Entries.{IsBelow}
use Rattle.column_order.specs.Columns.{ColumnList}
use Rattle.outside_io.specs.Traces.{Trace}
use Rattle.page_codec.specs.declared.params.Params.{Params}
use Rattle.page_codec.specs.declared.parts.FinalEntry.{FinalEntry}
use Rattle.page_rows.specs.Written.{AreResidues}
use Rattle.echelon.specs.Lists.{lead_of, lead_at, row_at}
use Rattle.table_model.specs.Faults.{Verdict, IsVerdict, IsNotInvertible, NoInverse, BadRow, NotReduced, Missing}
use Rattle.file_model.specs.TableOf.{IsTableOf}
use Rattle.file_model.specs.FinalRows.{no_entry}
use Rattle.file_model.specs.Pages.{pairs_of}
use Rattle.file_model.proofs.ParamColumns.{columns_are}
use Rattle.lyndon_polys.specs.declared.fault.LyndonFault.{LyndonFault}
use Rattle.lyndon_polys.specs.declared.fault.LyndonFault.TheVariants as conversion
use Rattle.cert_checker.specs.Certified.{residues_at}
use Rattle.cert_checker.specs.Verdicts.{IsVerdictOf}
use Rattle.table_checker.specs.Checks.{Found, Finds, IsRowOf, IsRefusal}
use Rattle.table_checker.specs.Inner.{AreRowsOf, ClosesWith, conversion_fault, rows_fault}
use Rattle.cert_checker.specs.declared.fault.CompletenessFault.{CompletenessFault}
use Rattle.cert_checker.specs.declared.fault.CompletenessFault.TheVariants as rows
use Rattle.table_checker.proofs.RowsRead.{as_many_rows, same_rows, same_combinations, same_leads}

-- what is told of a header that is there
pub at_header : (header : Option Params) (params : Params) (P : Params → Type 0) → header ≡ Some params → IfSome header P → P params
at_header header params P is told = subst (λ o. IfSome o P) is told

pub of_header : (header : Option Params) (params : Params) (P : Params → Type 0) → header ≡ Some params → P params → IsSomeAnd header P
of_header header params P is holds = subst (λ o. IsSomeAnd o P) (sym is) holds

module _ (told : Option Trace) (params : Params) (columns : ColumnList) (are_columns : IsTableOf params columns) (entries : List FinalEntry)
    (closes : ClosesWith told params entries) where
  abbrev IsEntryVerdict : List FinalEntry → Verdict → Type 0
  IsEntryVerdict es v =
      IsVerdict params.modulus columns (length es) (λ i. lead_of (get_or es i no_entry).row) (λ i. pairs_of (get_or es i no_entry).row)
      (λ i. pairs_of (get_or es i no_entry).combination) v

  -- what is found of the entries is found of the pages
  found_of : (v : Verdict) → IsEntryVerdict entries v → Finds told (Found v)
  found_of v is = by told closes
    where
      by : (o : Option Trace) → ClosesWith o params entries → Finds o (Found v)
      by None closed = tt
      by (Some t) closed = λ pages sealed.
          let here = closed pages sealed in
          record {
            params = params;
            closed = here.0;
            columns = columns;
            are_columns = are_columns;
            is_verdict = subst (λ es. IsEntryVerdict es v) (sym here.1) is;
          }

  module _ {E : Type 0} (nought : E) (has : E → Bool) (value : E → ℕ) (list combinations : List (List (ℕ × E)))
      (are : AreRowsOf nought has value entries list combinations) (m : ℕ) (modulus : m ≡ params.modulus) where
    -- so is what is found of the rows
    pub found : (v : Verdict) → IsVerdictOf m value columns list combinations v → Finds told (Found v)
    found v is =
        found_of v
        (subst (λ k. IsVerdict k columns (length entries) (λ i. lead_of (get_or entries i no_entry).row) (λ i. pairs_of (get_or entries i no_entry).row)
        (λ i. pairs_of (get_or entries i no_entry).combination) v) modulus
        (subst (λ cs. IsVerdict m columns (length entries) (λ i. lead_of (get_or entries i no_entry).row) (λ i. pairs_of (get_or entries i no_entry).row) cs v)
        (same_combinations nought has value entries list combinations are)
        (subst (λ rs. IsVerdict m columns (length entries) (λ i. lead_of (get_or entries i no_entry).row) rs (row_at value combinations) v)
        (same_rows nought has value entries list combinations are)
        (subst (λ l. IsVerdict m columns (length entries) l (row_at value list) (row_at value combinations) v)
        (same_leads nought has value entries list combinations are)
        (subst (λ n. IsVerdict m columns n (lead_at list) (row_at value list) (row_at value combinations) v)
        (as_many_rows nought has value entries list combinations are) is)))))

    -- the rows are not complete
    pub rows_refused : (rose : Type 0) (header : Option Params) → header ≡ Some params → (fault : CompletenessFault)
        → ((i : ℕ) → fault ≡ rows.BadRow i → IsVerdictOf m value columns list combinations (BadRow i))
        → ((i : ℕ) → fault ≡ rows.NotReduced i → IsVerdictOf m value columns list combinations (NotReduced i))
        → ((n : ℕ) (rest : List (ℕ × ℕ)) → fault ≡ rows.Missing n rest → IsVerdictOf m value columns list combinations (Missing n (residues_at rest)))
        → ((n : ℕ) (rest : List (ℕ × ℕ)) → fault ≡ rows.Missing n rest → AreResidues (λ k. k) m rest)
        → ((n : ℕ) (rest : List (ℕ × ℕ)) → fault ≡ rows.Missing n rest → IsBelow (λ k. k) (length columns.list) rest)
        → IsRefusal rose told header (rows_fault fault)
    rows_refused rose header is (rows.BadRow i) bad not_reduced missing residues below = found (BadRow i) (bad i refl)
    rows_refused rose header is (rows.NotReduced i) bad not_reduced missing residues below = found (NotReduced i) (not_reduced i refl)
    rows_refused rose header is (rows.Missing n rest) bad not_reduced missing residues below = (
      of_header header params (λ p. IsRowOf p rest) is (record {
        residues = subst (λ k. AreResidues (λ j. j) k rest) modulus (residues n rest refl);
        below = subst (λ k. IsBelow (λ j. j) k rest) (columns_are params columns are_columns) (below n rest refl);
      }),
      found (Missing n (residues_at rest)) (missing n rest refl),
    )
    rows_refused rose header is (rows.Memory e) bad not_reduced missing residues below = tt

  -- the words do not convert
  pub words_refused : (rose : Type 0) (header : Option Params) (m : ℕ) → m ≡ params.modulus → (fault : LyndonFault)
      → ((value : ℕ) (word : List Letter) → fault ≡ conversion.NoInverse value word → IsNotInvertible m columns word value)
      → IsRefusal rose told header (conversion_fault fault)
  words_refused rose header m modulus (conversion.NoInverse value word) not =
      let at : IsNotInvertible params.modulus columns word value = subst (λ k. IsNotInvertible k columns word value) modulus (not value word refl) in
      let reached = at.reached in
      let inside = reached.word in
      (inside.admissible, found_of (NoInverse word value) at)
  words_refused rose header m modulus (conversion.Memory e) not = tt

-- what is found over a ring, columns and combinations is found over equal ones
module _ {R E : Type 0} (modulus : R → ℕ) (value : R → E → ℕ) (rows : List (List (ℕ × E))) where
  pub verdict_moved : (r s : R) → r ≡ s → (c d : ColumnList) → c ≡ d → (lent combinations : List (List (ℕ × E))) → lent ≡ combinations → (v : Verdict)
      → IsVerdictOf (modulus r) (value r) c rows lent v → IsVerdictOf (modulus s) (value s) d rows combinations v
  verdict_moved r s ring c d columns lent combinations same v is =
      subst (λ x. IsVerdictOf (modulus x) (value x) d rows combinations v) ring
      (subst (λ x. IsVerdictOf (modulus r) (value r) x rows combinations v) columns
      (subst (λ xs. IsVerdictOf (modulus r) (value r) c rows xs v) same is))
