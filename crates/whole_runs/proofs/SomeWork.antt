-- What is asked for in range is some work.
use Rattle.std.specs.Prelude.{ℕ, List, length, map, Option, Ok, Err, IfOk}
use Rattle.std.proofs.Common.{refl, inl, inr, arith}
use Rattle.zeta_model.specs.WordLists.{admissible_within}
use Rattle.linear_model.specs.Reduced.{IsReduced}
use Rattle.column_order.specs.Columns.{ColumnList}
use Rattle.dual_reply.specs.Reply.{reply_of}
use Rattle.relation_list.specs.Listings.{listing_of}
use Rattle.page_codec.specs.declared.params.Params.{Params}
use Rattle.page_codec.specs.Bounds.{IsParams}
use Rattle.table_model.specs.Conversion.{IsTable, Converts}
use Rattle.table_model.specs.ListedSpan.{values_of, count_of}
use Rattle.table_model.proofs.CompleteRows.{listed_value-table}
use Rattle.table_model.proofs.ForwardRowLaws.{unbroken_has_rows}
use Rattle.table_model.proofs.FindingFaults.{converts_or_fault, unbroken_or_breaks}
use Rattle.line_samples.specs.Samples.{sample_lines}
use Rattle.table_rewrite.proofs.LineReplies.{some_reply}
use Rattle.whole_runs.specs.declared.command.Command.TheVariants.{Dual, List as ListOf, Reduce, Sample, Probe, Show, Check, Rewrite, Rational, Build, Resume, Migrate}
use Rattle.whole_runs.specs.declared.command.WordsFault.TheVariants.{Usage, Param, Count, Terms}
use Rattle.whole_runs.specs.declared.status.Status.TheVariants as status
use Rattle.whole_runs.specs.CommandLine.{Asked, IsInRange}
use Rattle.whole_runs.specs.Texts.{usage_line, param_line, count_line, terms_line, name_lines, word_line, relation_line, sample_line}
use Rattle.whole_runs.specs.Works.{Work, ByRows, IsOverRows, IsOverTable, RepliesBy, CountsBy}
use Rattle.whole_runs.specs.Wanted.{IsWork}
use Rattle.whole_runs.specs.Works.Work.{Replies, Writes}
use Rattle.whole_runs.specs.Works.IsOverRows.{no_inverse, broken, whole}
use Rattle.file_model.proofs.ParamColumns.{some_columns}
use Rattle.whole_runs.proofs.Probes.{some_probe}
use Rattle.whole_runs.specs.Outcomes.{NamesFile}

module _ (m : ℕ) (columns : ColumnList) (table : IsTable m columns) where
  -- something is done with any reduced rows
  abbrev pub IsDone : ByRows → Type 0
  IsDone done = Converts m columns → (count : ℕ) (lead : ℕ → ℕ) (rows : ℕ → ℕ → ℕ) → IsReduced m count lead rows
      → (work : Work) × done columns count lead rows work

  some_over_rows : (done : ByRows) → IsDone done → (work : Work) × IsOverRows m columns done work
  some_over_rows done goes = elim (converts_or_fault m columns table) [
    | inr (u, residue, f) ↦ (Writes (word_line residue u) status.NoInverse, no_inverse u residue f refl)
    | inl converts ↦ elim (unbroken_or_breaks m columns table (values_of m columns) (listed_value-table m columns table) converts (count_of columns)) [
      | inr (n, residue, l, b) ↦ (Writes (relation_line residue n) status.NoInverse, broken converts n residue l b refl)
      | inl unbroken ↦
          let (count, lead, rows, h) =
          unbroken_has_rows m columns table (values_of m columns) (listed_value-table m columns table) converts (count_of columns) unbroken in
          let (work, is) = goes converts count lead rows h.reduced in
          (work, whole converts unbroken count lead rows h is)
    ]
  ]

  some_replies : IsDone (RepliesBy m)
  some_replies converts count lead rows reduced =
      let each = some_reply m columns table converts count lead rows reduced in
      (Replies (λ line. (each line).0), record { reply = λ line. (each line).0; replies = λ line. (each line).1; is = refl })

  some_count : (seed number : ℕ) → IsDone (CountsBy m seed number)
  some_count seed number converts count lead rows reduced =
      let each = some_reply m columns table converts count lead rows reduced in
      let lines : List (List ℕ) = sample_lines (admissible_within columns.weight columns.depth) seed number in (
        Writes (sample_line count (length columns.list) (map (λ line. (each line).0) lines)) status.Done,
        record { reply = λ line. (each line).0; replies = λ line. (each line).1; is = refl },
      )

some_over_table : (params : Params) → IsParams params → (done : ByRows)
    → ((columns : ColumnList) (table : IsTable params.modulus columns) → IsDone params.modulus columns table done)
    → (work : Work) × IsOverTable params done work
some_over_table params fits done goes =
    let (columns, of) = some_columns params fits in
    let (work, is) = some_over_rows params.modulus columns of.table done (goes columns of.table) in
    (work, record { columns = columns; are_columns = of; by_rows = is })

pub some_work : (asked : Asked) (contents : Option (List ℕ)) → IfOk asked IsInRange → ¬ (NamesFile asked)
    → (work : Work) × IsWork asked contents work
some_work (Err Usage) contents fits none = (Writes usage_line status.Usage, refl)
some_work (Err (Param fault)) contents fits none = (Writes (param_line fault) status.Params, refl)
some_work (Err (Count n)) contents fits none = (Writes (count_line n) status.Params, refl)
some_work (Err (Terms n)) contents fits none = (Writes (terms_line n) status.Params, refl)
some_work (Ok (Dual m)) contents fits none = (Replies (reply_of m), refl)
some_work (Ok (ListOf w d)) contents fits none = (Writes (name_lines 0 (listing_of w d)) status.Done, refl)
some_work (Ok (Reduce params)) contents fits none =
    some_over_table params fits (RepliesBy params.modulus) (λ columns table. some_replies params.modulus columns table)
some_work (Ok (Sample params seed number)) contents fits none =
    some_over_table params fits.0 (CountsBy params.modulus seed number) (λ columns table. some_count params.modulus columns table seed number)
some_work (Ok (Probe n m)) contents fits none = let from = fits.2 in some_probe n m (omega arith)
some_work (Ok Show) contents fits none = absurd (none tt)
some_work (Ok Check) contents fits none = absurd (none tt)
some_work (Ok Rewrite) contents fits none = absurd (none tt)
some_work (Ok Rational) contents fits none = absurd (none tt)
some_work (Ok (Build params)) contents fits none = absurd (none tt)
some_work (Ok (Resume params)) contents fits none = absurd (none tt)
some_work (Ok Migrate) contents fits none = absurd (none tt)
