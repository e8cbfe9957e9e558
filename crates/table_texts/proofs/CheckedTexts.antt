-- The text of what the final rows of a table leave of a relation.
use Rattle.std.proofs.Common.{◌≡◌, ℕ, ◌+◌, true, List, [], ◌∷◌, ◌++◌, length, refl, sym, ap, subst, ◌∙◌, append_assoc, arith}
use Rattle.std.specs.Prelude.{codes, decimal}
use Rattle.sparse_rows.specs.Entries.{IsBelow, AllIn}
use Rattle.sparse_rows.proofs.EntryLemmas.{below_more}
use Rattle.column_order.specs.Columns.{ColumnList}
use Rattle.page_codec.specs.declared.params.Params.{Params}
use Rattle.page_rows.specs.Written.{written}
use Rattle.poly_print.specs.Polynomials.{residue_pairs, row_text, residues_text}
use Rattle.poly_print.proofs.PairLemmas.{pairs_from-entries}
use Rattle.file_model.specs.TableOf.{IsTableOf}
use Rattle.file_model.proofs.ParamColumns.{same_columns}
use Rattle.cert_checker.specs.Certified.{residues_at}
use Rattle.table_checker.specs.Checks.{IsRowOf}
use Rattle.whole_runs.specs.FileTexts.{params_text, missing_line, complete_line, other_line, migrated_line}
use Rattle.table_texts.proofs.ShownTexts.{columns_are, written_below}

each_in : (rest : List (ℕ × ℕ)) → AllIn (λ (k : ℕ). true) rest
each_in [] = tt
each_in (e ∷ es) = (refl, each_in es)

each_pair : (rest : List (ℕ × ℕ)) → residue_pairs (λ (c : ℕ). c) (λ (k : ℕ). k) rest ≡ rest
each_pair [] = refl
each_pair (e ∷ es) = ap (λ xs. e ∷ xs) (each_pair es)

module _ (params : Params) (rest : List (ℕ × ℕ)) (is : IsRowOf params rest) where
  -- its columns are those of the table
  pub rest_below : (columns : ColumnList) → IsTableOf params columns → IsBelow (λ k. k) (length columns.list) rest
  rest_below columns of = subst (λ n. IsBelow (λ k. k) n rest) (sym (columns_are params columns of)) is.below

  -- a row of elements that is written so has these columns too
  pub row_of_rest : {E : Type 0} (value : E → ℕ) (columns : ColumnList) (row : List (ℕ × E)) → IsTableOf params columns → written value row ≡ rest
      → IsBelow (λ k. k) (length columns.list) row
  row_of_rest value columns row of same =
      written_below value (length columns.list) row (subst (IsBelow (λ k. k) (length columns.list)) (sym same) (rest_below columns of))

  -- it prints as its residues
  pub rest_text : (columns others : ColumnList) → IsTableOf params columns → IsTableOf params others
      → row_text columns.list rest ≡ residues_text others.list (residues_at rest)
  rest_text columns others of at =
      let residues = is.residues in
      let n = length columns.list in
      ap (row_text columns.list)
      (sym (each_pair rest)
      ∙ sym (pairs_from-entries 0 (λ (k : ℕ). true) (λ (k : ℕ). k) refl refl (λ a b s t e. e) 0 n rest residues.increasing
      (below_more (λ c. c) n (0 + n) rest (omega arith) (rest_below columns of)) (each_in rest)))
      ∙ (λ i. let c : ColumnList = same_columns params columns others of at i in residues_text c.list (residues_at rest))

-- the line of a relation, from its pieces
pub missing_pieces : (n number : ℕ) (text none begun leaves left whole : List ℕ) → number ≡ n → none ≡ []
    → begun ≡ none ++ (codes "not complete: relation " ++ decimal number) → leaves ≡ begun ++ codes " leaves " → left ≡ leaves ++ text
    → whole ≡ left ++ 10 ∷ [] → whole ≡ missing_line n text
missing_pieces n number text none begun leaves left whole same z a b c d =
    let first : List ℕ = codes "not complete: relation " in
    let second : List ℕ = codes " leaves " in
    let begins : begun ≡ first ++ decimal n = a ∙ (λ i. z i ++ (first ++ decimal (same i))) in
    d ∙ ap (λ t. t ++ 10 ∷ []) (c ∙ ap (λ t. t ++ text) (b ∙ ap (λ t. t ++ second) begins))
    ∙ append_assoc ((first ++ decimal n) ++ second) text (10 ∷ [])
    ∙ append_assoc (first ++ decimal n) second (text ++ 10 ∷ [])
    ∙ append_assoc first (decimal n) (second ++ (text ++ 10 ∷ []))

-- the line of a complete table, from its pieces
pub complete_pieces : (params : Params) (relations rows a b : ℕ) (none begun known counted left whole : List ℕ) → a ≡ relations → b ≡ rows → none ≡ []
    → begun ≡ none ++ codes "complete: " → known ≡ begun ++ params_text params → counted ≡ known ++ (codes ", relations " ++ decimal a)
    → left ≡ counted ++ (codes ", rows " ++ decimal b) → whole ≡ left ++ 10 ∷ [] → whole ≡ complete_line params relations rows
complete_pieces params relations rows a b none begun known counted left whole same_a same_b z is_begun is_known is_counted is_left is_whole =
    let first : List ℕ = codes "complete: " in
    let text : List ℕ = params_text params in
    let second : List ℕ = codes ", relations " in
    let third : List ℕ = codes ", rows " in
    let n : List ℕ = decimal relations in
    let k : List ℕ = decimal rows in
    let starts : known ≡ first ++ text = is_known ∙ ap (λ t. t ++ text) (is_begun ∙ ap (λ t. t ++ first) z) in
    let counts : counted ≡ (first ++ text) ++ (second ++ n) = is_counted ∙ (λ i. starts i ++ (second ++ decimal (same_a i))) in
    is_whole ∙ ap (λ t. t ++ 10 ∷ []) (is_left ∙ (λ i. counts i ++ (third ++ decimal (same_b i))))
    ∙ append_assoc ((first ++ text) ++ (second ++ n)) (third ++ k) (10 ∷ [])
    ∙ append_assoc (first ++ text) (second ++ n) ((third ++ k) ++ 10 ∷ [])
    ∙ append_assoc first text ((second ++ n) ++ ((third ++ k) ++ 10 ∷ []))
    ∙ ap (λ t. first ++ (text ++ t)) (append_assoc second n ((third ++ k) ++ 10 ∷ []))
    ∙ ap (λ t. first ++ (text ++ (second ++ (n ++ t)))) (append_assoc third k (10 ∷ []))

-- the line of other parameters, from its pieces
pub other_pieces : (params : Params) (none begun left whole : List ℕ) → none ≡ [] → begun ≡ none ++ codes "not a table: other "
    → left ≡ begun ++ params_text params → whole ≡ left ++ 10 ∷ [] → whole ≡ other_line params
other_pieces params none begun left whole z is_begun is_left is_whole =
    let first : List ℕ = codes "not a table: other " in
    let text : List ℕ = params_text params in
    is_whole ∙ ap (λ t. t ++ 10 ∷ []) (is_left ∙ ap (λ t. t ++ text) (is_begun ∙ ap (λ t. t ++ first) z)) ∙ append_assoc first text (10 ∷ [])

-- the line of a version 1 file that was copied, from its pieces
pub migrated_pieces : (params : Params) (pages : ℕ) (none begun left counted whole : List ℕ) → none ≡ [] → begun ≡ none ++ codes "migrated: "
    → left ≡ begun ++ params_text params → counted ≡ left ++ (codes ", pages " ++ decimal pages) → whole ≡ counted ++ 10 ∷ []
    → whole ≡ migrated_line params pages
migrated_pieces params pages none begun left counted whole z is_begun is_left is_counted is_whole =
    let first : List ℕ = codes "migrated: " in
    let text : List ℕ = params_text params in
    let second : List ℕ = codes ", pages " in
    let n : List ℕ = decimal pages in
    is_whole ∙ ap (λ t. t ++ 10 ∷ []) (is_counted ∙ ap (λ t. t ++ (second ++ n)) (is_left ∙ ap (λ t. t ++ text) (is_begun ∙ ap (λ t. t ++ first) z)))
    ∙ append_assoc (first ++ text) (second ++ n) (10 ∷ [])
    ∙ append_assoc first text ((second ++ n) ++ 10 ∷ [])
    ∙ ap (λ t. first ++ (text ++ t)) (append_assoc second n (10 ∷ []))
