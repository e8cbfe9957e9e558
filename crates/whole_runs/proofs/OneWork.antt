-- What is asked for is one work.
use Rattle.std.specs.Prelude.{◌≡◌, ℕ, List, [], ◌∷◌, length, map, Option, Some, None, Ok, Err}
use Rattle.std.proofs.Common.{sym, ◌∙◌, subst}
use Rattle.zeta_model.specs.WordLists.{admissible_within}
use Rattle.column_order.specs.Columns.{ColumnList}
use Rattle.page_codec.specs.declared.params.Params.{Params}
use Rattle.table_model.specs.Conversion.{IsTable, Converts}
use Rattle.table_model.specs.ListedSpan.{values_of, count_of}
use Rattle.table_model.specs.ReducedRows.{IsReducedRows}
use Rattle.table_model.proofs.CompleteRows.{listed_value-table}
use Rattle.table_model.proofs.ReducedRowsLaws.{reduced_rows_counts}
use Rattle.table_model.proofs.FirstFaults.{not_invertible_unique, not_invertible_word, first_break}
use Rattle.line_samples.specs.Samples.{sample_lines}
use Rattle.table_rewrite.proofs.LineReplies.{one_reply}
use Rattle.fraction_replies.proofs.LineFractions.{one_reply as one_fraction_reply}
use Rattle.whole_runs.specs.declared.command.Command.TheVariants.{Dual, List as ListOf, Reduce, Sample, Probe, Show, Check, Rewrite, Rational, Build, Resume, Migrate}
use Rattle.whole_runs.specs.declared.command.WordsFault.TheVariants.{Usage, Param, Count, Terms}
use Rattle.whole_runs.specs.declared.status.Status.TheVariants as status
use Rattle.whole_runs.specs.CommandLine.{Asked}
use Rattle.whole_runs.specs.Texts.{word_line, relation_line, sample_line}
use Rattle.whole_runs.specs.Works.{Work, ByRows, IsOverRows, IsOverTable, RepliesBy, FractionsBy, CountsBy}
use Rattle.whole_runs.specs.Wanted.{IsWork}
use Rattle.whole_runs.specs.Works.Work.{Replies, Writes}
use Rattle.whole_runs.specs.Works.IsOverRows.{no_inverse, broken, whole}
use Rattle.file_model.proofs.ParamColumns.{same_columns}
use Rattle.whole_runs.proofs.Probes.{one_probe}
use Rattle.whole_runs.proofs.OneShow.{one_show}
use Rattle.whole_runs.proofs.OneFileWork.{one_over_file}
use Rattle.whole_runs.proofs.OneBuild.{one_build, one_resume}
use Rattle.whole_runs.specs.FileWorks.{CompletesBy}

module _ (m : ℕ) (columns : ColumnList) where
  -- what is done with two lists of the reduced rows of all relations is one work
  abbrev pub IsOnce : ByRows → Work → Work → Type 0
  IsOnce done v w = Converts m columns → (count k : ℕ) (lead other_lead : ℕ → ℕ) (rows others : ℕ → ℕ → ℕ)
      → IsReducedRows m columns (values_of m columns) (count_of columns) count lead rows
      → IsReducedRows m columns (values_of m columns) (count_of columns) k other_lead others
      → done columns count lead rows v → done columns k other_lead others w → v ≡ w

module _ (m : ℕ) (columns : ColumnList) (table : IsTable m columns) where
  one_over_rows : (done : ByRows) (v w : Work) → IsOnce m columns done v w → IsOverRows m columns done v → IsOverRows m columns done w → v ≡ w
  one_over_rows done v w once (no_inverse u r f x) (no_inverse t s g y) =
      let same : (u ≡ t) × (r ≡ s) = not_invertible_unique m columns u t r s f g in
      x ∙ (λ i. Writes (word_line (same.1 i) (same.0 i)) status.NoInverse) ∙ sym y
  one_over_rows done v w once (no_inverse u r f x) (broken c n s l b y) = absurd (not_invertible_word m columns u r f c)
  one_over_rows done v w once (no_inverse u r f x) (whole c un count lead rows h y) = absurd (not_invertible_word m columns u r f c)
  one_over_rows done v w once (broken c n r l b x) (no_inverse t s g y) = absurd (not_invertible_word m columns t s g c)
  one_over_rows done v w once (broken c n r l a x) (broken e k s j b y) =
      let same : (n ≡ k) × (r ≡ s) = first_break m columns table (values_of m columns) (listed_value-table m columns table) c n k r s a b in
      x ∙ (λ i. Writes (relation_line (same.1 i) (same.0 i)) status.NoInverse) ∙ sym y
  one_over_rows done v w once (broken c n r l b x) (whole e un count lead rows h y) = absurd (un n l r b.0)
  one_over_rows done v w once (whole c un count lead rows h x) (no_inverse t s g y) = absurd (not_invertible_word m columns t s g c)
  one_over_rows done v w once (whole c un count lead rows h x) (broken e n r l b y) = absurd (un n l r b.0)
  one_over_rows done v w once (whole c un count lead rows h x) (whole e never k other_lead others g y) = once c count k lead other_lead rows others h g x y

  one_replies : (v w : Work) → IsOnce m columns (RepliesBy m) v w
  one_replies v w converts count k lead other_lead rows others h g x y =
      let same : (line : List ℕ) → x.reply line ≡ y.reply line = λ line.
      one_reply m columns table converts count k lead other_lead rows others h g line (x.reply line) (y.reply line) (x.replies line) (y.replies line) in
      x.is ∙ (λ i. Replies (λ line. same line i)) ∙ sym y.is

  one_fractions : (v w : Work) → IsOnce m columns (FractionsBy m) v w
  one_fractions v w converts count k lead other_lead rows others h g x y =
      let same : (line : List ℕ) → x.reply line ≡ y.reply line = λ line.
      one_fraction_reply m columns table converts count k lead other_lead rows others h g line (x.reply line) (y.reply line) (x.replies line)
      (y.replies line) in
      x.is ∙ (λ i. Replies (λ line. same line i)) ∙ sym y.is

  one_count : (seed number : ℕ) (v w : Work) → IsOnce m columns (CountsBy m seed number) v w
  one_count seed number v w converts count k lead other_lead rows others h g x y =
      let same : (line : List ℕ) → x.reply line ≡ y.reply line = λ line.
      one_reply m columns table converts count k lead other_lead rows others h g line (x.reply line) (y.reply line) (x.replies line) (y.replies line) in
      let counts : count ≡ k = reduced_rows_counts m columns table (values_of m columns) (count_of columns) count k lead other_lead rows others h g in
      let lines : List (List ℕ) = sample_lines (admissible_within columns.weight columns.depth) seed number in
      x.is ∙ (λ i. Writes (sample_line (counts i) (length columns.list) (map (λ line. same line i) lines)) status.Done) ∙ sym y.is

one_over_table : (params : Params) (done : ByRows) (v w : Work)
    → ((columns : ColumnList) → IsTable params.modulus columns → IsOnce params.modulus columns done v w)
    → IsOverTable params done v → IsOverTable params done w → v ≡ w
one_over_table params done v w once x y =
    let of = x.are_columns in
    let same : y.columns ≡ x.columns = same_columns params y.columns x.columns y.are_columns x.are_columns in
    one_over_rows params.modulus x.columns of.table done v w (once x.columns of.table) x.by_rows
    (subst (λ c. IsOverRows params.modulus c done w) same y.by_rows)

pub one_work : (asked : Asked) (contents : Option (List ℕ)) (v w : Work) → IsWork asked contents v → IsWork asked contents w → v ≡ w
one_work (Err Usage) contents v w x y = x ∙ sym y
one_work (Err (Param fault)) contents v w x y = x ∙ sym y
one_work (Err (Count n)) contents v w x y = x ∙ sym y
one_work (Err (Terms n)) contents v w x y = x ∙ sym y
one_work (Ok (Dual m)) contents v w x y = x ∙ sym y
one_work (Ok (ListOf a d)) contents v w x y = x ∙ sym y
one_work (Ok (Reduce params)) contents v w x y =
    one_over_table params (RepliesBy params.modulus) v w (λ columns table. one_replies params.modulus columns table v w) x y
one_work (Ok (Sample params seed number)) contents v w x y =
    one_over_table params (CountsBy params.modulus seed number) v w (λ columns table. one_count params.modulus columns table seed number v w) x y
one_work (Ok (Probe n m)) contents v w x y = one_probe n m v w x y
one_work (Ok Show) (Some bytes) v w x y = one_show bytes v w x y
one_work (Ok Show) None v w x y = absurd x
one_work (Ok Check) (Some bytes) v w x y = one_over_file bytes CompletesBy v w (λ params columns table converts count lead rows is a b. a ∙ sym b) x y
one_work (Ok Check) None v w x y = absurd x
one_work (Ok Rewrite) (Some bytes) v w x y =
    one_over_file bytes (λ params. RepliesBy params.modulus) v w
    (λ params columns table converts count lead rows is. one_replies params.modulus columns table v w converts count count lead lead rows rows is is) x y
one_work (Ok Rewrite) None v w x y = absurd x
one_work (Ok Rational) (Some bytes) v w x y =
    one_over_file bytes (λ params. FractionsBy params.modulus) v w
    (λ params columns table converts count lead rows is. one_fractions params.modulus columns table v w converts count count lead lead rows rows is is) x y
one_work (Ok Rational) None v w x y = absurd x
one_work (Ok (Build params)) (Some bytes) v w x y = one_build params bytes v w x y
one_work (Ok (Build params)) None v w x y = absurd x
one_work (Ok (Resume params)) (Some bytes) v w x y = one_resume params bytes v w x y
one_work (Ok (Resume params)) None v w x y = absurd x
one_work (Ok Migrate) (Some []) v w x y = absurd x
one_work (Ok Migrate) (Some (byte ∷ bytes)) v w x y = x ∙ sym y
one_work (Ok Migrate) None v w x y = absurd x
