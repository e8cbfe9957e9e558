-- The table of parameters by what its parts answer, and the work that follows from it.
use Rattle.std.proofs.Common.{◌≡◌, ℕ, ◌<◌, List, Option, length, refl, sym, ap, subst, ◌∙◌}
use Rattle.std.specs.Prelude.{Bool, Ok, map}
use Rattle.zeta_model.specs.declared.Letter.{Letter}
use Rattle.zeta_model.specs.WordLists.{admissible_within}
use Rattle.zeta_model.proofs.WordLemmas.{admissible-has_index}
use Rattle.column_order.specs.Columns.{ColumnList}
use Rattle.echelon.specs.States.{IsRowList}
use Rattle.page_codec.specs.declared.params.Params.{Params}
use Rattle.table_model.specs.Conversion.{Converts}
use Rattle.table_model.specs.ListedSpan.{values_of, count_of}
use Rattle.table_model.specs.ReducedRows.{IsReducedRows, IsUnbroken, BreaksFirst}
use Rattle.table_model.specs.Faults.{IsNotInvertible}
use Rattle.table_rewrite.specs.Replies.{AreOver, AreReplies}
use Rattle.line_samples.specs.Samples.{sample_lines}
use Rattle.whole_runs.specs.declared.command.Command.TheVariants.{Reduce, Sample}
use Rattle.whole_runs.specs.declared.status.Status.TheVariants as status
use Rattle.whole_runs.specs.Texts.{word_line, relation_line, sample_line}
use Rattle.file_model.specs.TableOf.{IsTableOf}
use Rattle.whole_runs.specs.Works.{IsOverTable, ByRows, RepliesBy, CountsBy}
use Rattle.whole_runs.specs.Wanted.{IsWork}
use Rattle.whole_runs.specs.Works.Work.{Replies, Writes}
use Rattle.whole_runs.specs.Works.IsOverRows.{no_inverse, broken, whole}
use Rattle.datamine_program.specs.declared.table.TableFault.{TableFault}
use Rattle.datamine_program.specs.declared.table.TableFault.TheVariants.{NoInverseWord, NoInverseRelation, Memory}
use Rattle.lyndon_polys.specs.declared.fault.LyndonFault.{LyndonFault}
use Rattle.lyndon_polys.specs.declared.fault.LyndonFault.TheVariants as conversion
use Rattle.table_rows.specs.declared.fault.RowsFault.{RowsFault}
use Rattle.table_rows.specs.declared.fault.RowsFault.TheVariants as work
use Rattle.datamine_program.specs.Inner.{conversion_fault, relation_fault, IsTableMade, AreTableReplies, IsSampleText, IsFaultOf, IsFaultFor, HasText}

-- the columns of rows that fit are below their number
pub over_columns : {E : Type 0} (m : ℕ) (has : E → Bool) (value : E → ℕ) (zero : E) (n : ℕ) (rows : List (List (ℕ × E)))
    → IsRowList m has value zero n rows → AreOver n rows
over_columns m has value zero n rows list = λ i inside. (list.fit i inside).below

module _ (params : Params) (m : ℕ) (columns : ColumnList) (same : m ≡ params.modulus) (are : IsTableOf params columns) where
  word_fault : (value : ℕ) (word : List Letter) → IsNotInvertible m columns word value → IsFaultOf params (NoInverseWord value word)
  word_fault value word h = (columns, are, subst (λ k. IsNotInvertible k columns word value) same h)

  broken_fault : (value n : ℕ) → Converts m columns → (n < count_of columns) × BreaksFirst m columns (values_of m columns) n value
      → IsFaultOf params (NoInverseRelation value n)
  broken_fault value n converts h =
      (columns, are, subst (λ k. Converts k columns) same converts, h.0, subst (λ k. BreaksFirst k columns (values_of k columns) n value) same h.1)

  pub not_converting : (fault : LyndonFault)
      → ((value : ℕ) (word : List Letter) → fault ≡ conversion.NoInverse value word → IsNotInvertible m columns word value) → IsFaultOf params (conversion_fault fault)
  not_converting (conversion.NoInverse value word) h = word_fault value word (h value word refl)
  not_converting (conversion.Memory e) h = tt

  pub work_broken : (fault : RowsFault) → Converts m columns
      → ((value n : ℕ) → fault ≡ work.NoInverse value n → (n < count_of columns) × BreaksFirst m columns (values_of m columns) n value)
      → IsFaultOf params (relation_fault fault)
  work_broken (work.NoInverse value n) converts h = broken_fault value n converts (h value n refl)
  work_broken (work.Memory e) converts h = tt

  pub table_made : (count : ℕ) (lead : ℕ → ℕ) (rows : ℕ → ℕ → ℕ) → Converts m columns → IsUnbroken m columns (values_of m columns) (count_of columns)
      → IsReducedRows m columns (values_of m columns) (count_of columns) count lead rows → IsTableMade params columns count lead rows
  table_made count lead rows converts unbroken reduced = record {
    are_columns = are;
    converts = subst (λ k. Converts k columns) same converts;
    unbroken = subst (λ k. IsUnbroken k columns (values_of k columns) (count_of columns)) same unbroken;
    reduced = subst (λ k. IsReducedRows k columns (values_of k columns) (count_of columns) count lead rows) same reduced;
  }

pub table_replies : (params : Params) (m : ℕ) (columns : ColumnList) (count width : ℕ) (lead : ℕ → ℕ) (rows : ℕ → ℕ → ℕ) (reply : List ℕ → List ℕ)
    → m ≡ params.modulus → IsTableMade params columns count lead rows → width ≡ length columns.list → AreReplies m columns count lead rows reply
    → AreTableReplies params count width reply
table_replies params m columns count width lead rows reply same made is replies = record {
  columns = columns;
  lead = lead;
  rows = rows;
  made = made;
  width = is;
  replies = subst (λ k. AreReplies k columns count lead rows reply) same replies;
}

pub fault_has_text : (params : Params) (fault : TableFault) → IsFaultOf params fault → HasText fault
fault_has_text params (NoInverseWord value word) h = admissible-has_index word h.2.reached.word.admissible
fault_has_text params (NoInverseRelation value n) h = tt
fault_has_text params Memory h = tt

word_work : (params : Params) (done : ByRows) (value : ℕ) (word : List Letter) → IsFaultOf params (NoInverseWord value word)
    → IsOverTable params done (Writes (word_line value word) status.NoInverse)
word_work params done value word h = record { columns = h.0; are_columns = h.1; by_rows = no_inverse word value h.2 refl }

relation_work : (params : Params) (done : ByRows) (value n : ℕ) → IsFaultOf params (NoInverseRelation value n)
    → IsOverTable params done (Writes (relation_line value n) status.NoInverse)
relation_work params done value n h = record { columns = h.0; are_columns = h.1; by_rows = broken h.2 n value h.3 h.4 refl }

pub reduce_fault : (params : Params) (contents : Option (List ℕ)) (fault : TableFault) → IsFaultOf params fault → IsFaultFor (Ok (Reduce params)) contents fault
reduce_fault params contents (NoInverseWord value word) h = word_work params (RepliesBy params.modulus) value word h
reduce_fault params contents (NoInverseRelation value n) h = relation_work params (RepliesBy params.modulus) value n h
reduce_fault params contents Memory h = tt

pub sample_fault : (params : Params) (seed number : ℕ) (contents : Option (List ℕ)) (fault : TableFault) → IsFaultOf params fault
    → IsFaultFor (Ok (Sample params seed number)) contents fault
sample_fault params seed number contents (NoInverseWord value word) h = word_work params (CountsBy params.modulus seed number) value word h
sample_fault params seed number contents (NoInverseRelation value n) h = relation_work params (CountsBy params.modulus seed number) value n h
sample_fault params seed number contents Memory h = tt

pub reduce_work : (params : Params) (contents : Option (List ℕ)) (rows columns : ℕ) (reply : List ℕ → List ℕ) → AreTableReplies params rows columns reply
    → IsWork (Ok (Reduce params)) contents (Replies reply)
reduce_work params contents rows columns reply h = record {
  columns = h.columns;
  are_columns = h.made.are_columns;
  by_rows = whole h.made.converts h.made.unbroken rows h.lead h.rows h.made.reduced (record { reply = reply; replies = h.replies; is = refl });
}

pub sample_work : (params : Params) (seed number : ℕ) (contents : Option (List ℕ)) (rows columns : ℕ) (reply : List ℕ → List ℕ) (text : List ℕ) → AreTableReplies params rows columns reply
    → IsSampleText params seed number rows columns reply text → IsWork (Ok (Sample params seed number)) contents (Writes text status.Done)
sample_work params seed number contents rows columns reply text h is =
    let are = h.made.are_columns in
    let line = λ (i : ℕ) (w d : ℕ). sample_line rows i (map reply (sample_lines (admissible_within w d) seed number)) in
    record {
      columns = h.columns;
      are_columns = are;
      by_rows = whole h.made.converts h.made.unbroken rows h.lead h.rows h.made.reduced (record {
        reply = reply;
        replies = h.replies;
        is = ap (λ t. Writes t status.Done) (is ∙ (λ i. line (h.width i) (sym are.weight i) (sym are.depth i)));
      });
    }

-- replies by the reduced rows of a table, whose number and columns are counted
pub replies_of_table : (params : Params) (m : ℕ) (columns : ColumnList) (n count width : ℕ) (lead : ℕ → ℕ) (rows : ℕ → ℕ → ℕ) (reply : List ℕ → List ℕ)
    → m ≡ params.modulus → count ≡ n → width ≡ length columns.list → IsTableMade params columns n lead rows
    → AreReplies m columns n lead rows reply → AreTableReplies params count width reply
replies_of_table params m columns n count width lead rows reply same counted wide made replies = record {
  columns = columns;
  lead = lead;
  rows = rows;
  made = subst (λ k. IsTableMade params columns k lead rows) (sym counted) made;
  width = wide;
  replies = subst (λ k. AreReplies k columns count lead rows reply) same
      (subst (λ k. AreReplies m columns k lead rows reply) (sym counted) replies);
}
