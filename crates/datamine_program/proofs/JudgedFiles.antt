-- What is done with a file whose table is checked.
use Rattle.std.proofs.Common.{◌≡◌, ℕ, ◌<◌, Bool, List, [], ◌∷◌, length, map, get_or, Option, Some, None, refl, sym, ap, subst, ◌∙◌}
use Rattle.std.specs.Prelude.{Ok, IfSome, IsSomeAnd}
use Rattle.std.proofs.lemmas.List.{length-map}
use Rattle.std.proofs.Math.ListN.{get_or-map}
use Rattle.zeta_model.specs.declared.Letter.{Letter}
use Rattle.zeta_model.proofs.WordLemmas.{admissible-has_index}
use Rattle.column_order.specs.Columns.{ColumnList}
use Rattle.outside_io.specs.Traces.{Trace}
use Rattle.echelon.specs.Lists.{lead_of, lead_at, row_at}
use Rattle.page_codec.specs.declared.params.Params.{Params}
use Rattle.page_codec.specs.declared.parts.FinalEntry.{FinalEntry}
use Rattle.page_codec.specs.declared.page.Page.{Page}
use Rattle.page_rows.specs.Written.{written}
use Rattle.page_rows.proofs.Writing.{entry_of-written}
use Rattle.page_file.specs.Files.{IsSealed, ReadsAs}
use Rattle.page_file.specs.Notes.{Notes, Suits, params_of}
use Rattle.poly_print.specs.Polynomials.{residues_text}
use Rattle.table_model.specs.ListedSpan.{count_of}
use Rattle.table_model.specs.Faults.{Verdict}
use Rattle.table_model.specs.Faults.Verdict.{Whole, NoInverse, BadRow, NotReduced, Missing}
use Rattle.file_model.specs.TableOf.{IsTableOf}
use Rattle.file_model.specs.Builds.{FitsAt}
use Rattle.file_model.specs.FinalRows.{finals_of, no_entry, final_row, final_lead, IsFound}
use Rattle.file_model.specs.Pages.{pairs_of}
use Rattle.file_model.proofs.ParamColumns.{same_columns}
use Rattle.table_rewrite.specs.Replies.{AreReplies}
use Rattle.fraction_replies.specs.Replies.{AreFractionReplies}
use Rattle.cert_checker.specs.Certified.{residues_at}
use Rattle.table_checker.specs.Checks.{Finds, Found, IsFoundOf}
use Rattle.table_checker.specs.declared.fault.CheckFault.{CheckFault}
use Rattle.table_checker.specs.declared.fault.CheckFault.TheVariants as checks
use Rattle.whole_runs.specs.declared.command.Command.TheVariants.{Check, Rewrite, Rational}
use Rattle.whole_runs.specs.declared.status.Status.TheVariants as status
use Rattle.whole_runs.specs.CommandLine.{Asked}
use Rattle.whole_runs.specs.Texts.{word_line}
use Rattle.whole_runs.specs.FileTexts.{unreadable_line, misplaced_line, unfinished_line, bad_row_line, not_reduced_line, missing_line, complete_line}
use Rattle.whole_runs.specs.FileWorks.{IsAnswer, IsOverFile, CompletesBy}
use Rattle.whole_runs.specs.FileWorks.IsNoTable.{misplaced}
use Rattle.whole_runs.specs.FileWorks.IsOverFile.{unfinished, judged}
use Rattle.whole_runs.specs.Wanted.{IsWork}
use Rattle.whole_runs.specs.Works.{Work, ByRows, RepliesBy, FractionsBy}
use Rattle.whole_runs.specs.Works.Work.{Replies, Writes}
use Rattle.datamine_program.specs.Inner.{ReadsTable, JudgesFile, IsFileWork, AreFinalRows, IsWholeTable, CanTell, IsCheckFault}
use Rattle.datamine_program.proofs.FileRuns.{refused_work}

same_params : (p q : Params) → Some p ≡ Some q → p ≡ q
same_params p q e = cc

pub reads_table : (asked : Asked) → JudgesFile asked → ReadsTable asked
reads_table (Ok Check) judges = tt
reads_table (Ok Rewrite) judges = tt
reads_table (Ok Rational) judges = tt
reads_table asked judges = absurd judges

-- what is done with a whole table
abbrev done_of : Asked → Params → ByRows
done_of (Ok Check) = CompletesBy
done_of (Ok Rewrite) = λ params. RepliesBy params.modulus
done_of (Ok Rational) = λ params. FractionsBy params.modulus
done_of asked = λ params columns count lead rows work. ⊥

over_file : (asked : Asked) → JudgesFile asked → (bytes : List ℕ) (work : Work) → IsOverFile bytes (done_of asked) work → IsWork asked (Some bytes) work
over_file (Ok Check) judges bytes work is = is
over_file (Ok Rewrite) judges bytes work is = is
over_file (Ok Rational) judges bytes work is = is
over_file asked judges bytes work is = absurd judges

-- the disk's contents are a file that reads as pages behind the header
abbrev pub HasHeader : Option Trace → Params → Type 0
HasHeader told params = IfSome told (λ t. (pages : List Page) × ReadsAs pages t.now.contents × (params_of pages ≡ Some params))

pub has_header : (told : Option Trace) (notes : Notes) (params : Params) → IfSome told (λ t. Suits notes t.now.contents) → notes.params ≡ Some params
    → HasHeader told params
has_header None notes params suits is = tt
has_header (Some t) notes params suits is = let notes_are = suits.are_notes in (suits.pages, suits.reads, sym notes_are.params ∙ is)

-- what is told can be printed
pub can_tell : (rose : Type 0) (told : Option Trace) (params : Params) (fault : CheckFault) → IsCheckFault rose told params fault → CanTell params fault
can_tell rose told params checks.DiskFault h = tt
can_tell rose told params (checks.BadPage i) h = tt
can_tell rose told params (checks.Misfit i) h = tt
can_tell rose told params (checks.NotDone n) h = tt
can_tell rose told params (checks.NoInverse value word) h = admissible-has_index word h.0.0
can_tell rose told params (checks.BadRow i) h = tt
can_tell rose told params (checks.NotReduced i) h = tt
can_tell rose told params (checks.Missing n rest) h = h.0.0
can_tell rose told params (checks.Memory e) h = tt

module _ (asked : Asked) (judges : JudgesFile asked) (rose : Type 0) (params : Params) where
  -- what is found of the final rows is told
  found_work : (bytes : List ℕ) (pages : List Page) (v : Verdict) (work : Work) → ReadsAs pages bytes → (f : IsFoundOf pages v)
      → IsAnswer (done_of asked f.params) f.columns (length (finals_of pages)) (final_lead pages) (final_row pages) v work → IsWork asked (Some bytes) work
  found_work bytes pages v work reads f answer =
      let closed = f.closed in
      over_file asked judges bytes work
      (judged f.params pages (record { reads = reads; header = closed.header; fit = closed.fit }) closed.done f.columns f.are_columns v f.is_verdict answer)

  pub page_refused : (told : Option Trace) (i : ℕ) → IsCheckFault rose told params (checks.BadPage i)
      → IsFileWork asked told (Writes (unreadable_line i) status.NotATable)
  page_refused None i h = tt
  page_refused (Some t) i h = let none : Some t ≡ None = h.0 in absurd cc

  pub misfit_refused : (told : Option Trace) (i : ℕ) → IsCheckFault rose told params (checks.Misfit i)
      → IsFileWork asked told (Writes (misplaced_line i) status.NotATable)
  misfit_refused None i h = tt
  misfit_refused (Some t) i (finds, (pages, reads, header)) =
      refused_work asked (reads_table asked judges) t.now.contents (Writes (misplaced_line i) status.NotATable)
      (misplaced pages reads i (finds pages reads.sealed) refl)

  pub unfinished_refused : (told : Option Trace) (n : ℕ) → IsCheckFault rose told params (checks.NotDone n)
      → IsFileWork asked told (Writes (unfinished_line n) status.NotComplete)
  unfinished_refused None n h = tt
  unfinished_refused (Some t) n (finds, (pages, reads, header)) =
      let found = finds pages reads.sealed in
      over_file asked judges t.now.contents (Writes (unfinished_line n) status.NotComplete)
      (unfinished pages reads found.1 found.2 (ap (λ k. Writes (unfinished_line k) status.NotComplete) found.0))

  pub word_refused : (told : Option Trace) (value : ℕ) (word : List Letter) → IsCheckFault rose told params (checks.NoInverse value word)
      → IsFileWork asked told (Writes (word_line value word) status.NoInverse)
  word_refused None value word h = tt
  word_refused (Some t) value word (finds, (pages, reads, header)) =
      found_work t.now.contents pages (NoInverse word value) (Writes (word_line value word) status.NoInverse) reads (finds.1 pages reads.sealed) refl

  pub row_refused : (told : Option Trace) (i : ℕ) → IsCheckFault rose told params (checks.BadRow i)
      → IsFileWork asked told (Writes (bad_row_line i) status.NotComplete)
  row_refused None i h = tt
  row_refused (Some t) i (finds, (pages, reads, header)) =
      found_work t.now.contents pages (BadRow i) (Writes (bad_row_line i) status.NotComplete) reads (finds pages reads.sealed) refl

  pub unreduced_refused : (told : Option Trace) (i : ℕ) → IsCheckFault rose told params (checks.NotReduced i)
      → IsFileWork asked told (Writes (not_reduced_line i) status.NotComplete)
  unreduced_refused None i h = tt
  unreduced_refused (Some t) i (finds, (pages, reads, header)) =
      found_work t.now.contents pages (NotReduced i) (Writes (not_reduced_line i) status.NotComplete) reads (finds pages reads.sealed) refl

  pub missing_refused : (columns : ColumnList) → IsTableOf params columns → (told : Option Trace) (n : ℕ) (rest : List (ℕ × ℕ))
      → IsCheckFault rose told params (checks.Missing n rest)
      → IsFileWork asked told (Writes (missing_line n (residues_text columns.list (residues_at rest))) status.NotComplete)
  missing_refused columns of None n rest h = tt
  missing_refused columns of (Some t) n rest (finds, (pages, reads, header)) =
      let f : IsFoundOf pages (Missing n (residues_at rest)) = finds.1 pages reads.sealed in
      let closed = f.closed in
      let same : f.params ≡ params = same_params f.params params (sym closed.header ∙ header) in
      let one : f.columns ≡ columns = same_columns params f.columns columns (subst (λ p. IsTableOf p f.columns) same f.are_columns) of in
      found_work t.now.contents pages (Missing n (residues_at rest))
      (Writes (missing_line n (residues_text columns.list (residues_at rest))) status.NotComplete) reads f
      (λ j. let c : ColumnList = sym one j in Writes (missing_line n (residues_text c.list (residues_at rest))) status.NotComplete)

-- rows of elements that are written as the rows of entries
module _ {E : Type 0} (nought : E) (has : E → Bool) (value : E → ℕ) (rows : List (List (ℕ × E))) (entries : List FinalEntry)
    (same : map (written value) rows ≡ map (λ (e : FinalEntry). e.row) entries) where
  as_many : length rows ≡ length entries
  as_many = sym (length-map rows (written value)) ∙ ap length same ∙ length-map entries (λ (e : FinalEntry). e.row)

  row-written : (i : ℕ) → written value (get_or rows i []) ≡ (get_or entries i no_entry).row
  row-written i =
      sym (get_or-map (written value) rows i []) ∙ (λ j. get_or (same j) i []) ∙ get_or-map (λ (e : FinalEntry). e.row) entries i no_entry

  lead-written : (row : List (ℕ × E)) → lead_of row ≡ lead_of (written value row)
  lead-written [] = refl
  lead-written (e ∷ es) = refl

  same_rows : row_at value rows ≡ (λ i. pairs_of (get_or entries i no_entry).row)
  same_rows = λ j i col. (sym (entry_of-written (λ k. k) nought has value (get_or rows i []) col) ∙ ap (λ es. pairs_of es col) (row-written i)) j

  same_leads : lead_at rows ≡ (λ i. lead_of (get_or entries i no_entry).row)
  same_leads = λ j i. (lead-written (get_or rows i []) ∙ ap lead_of (row-written i)) j

  -- so they are final rows
  pub final_rows_are : (params : Params) (columns : ColumnList) → IsTableOf params columns → (bytes : List ℕ) (pages : List Page) → ReadsAs pages bytes
      → params_of pages ≡ Some params → entries ≡ finals_of pages → IsFoundOf pages Whole
      → AreFinalRows params columns (length rows) (lead_at rows) (row_at value rows) bytes
  final_rows_are params columns of bytes pages reads header is f =
      let closed = f.closed in
      let one : f.params ≡ params = same_params f.params params (sym closed.header ∙ header) in
      let both : f.columns ≡ columns = same_columns params f.columns columns (subst (λ p. IsTableOf p f.columns) one f.are_columns) of in
      record {
        pages = pages;
        file = record { reads = reads; header = header; fit = subst (λ p. (i : ℕ) → i < length pages → FitsAt p pages i) one closed.fit };
        closed = closed.done;
        found = subst (λ c. IsFound params c pages Whole) both (subst (λ p. IsFound p f.columns pages Whole) one f.is_verdict);
        as_many = as_many ∙ ap length is;
        leads = same_leads ∙ (λ j i. lead_of (get_or (is j) i no_entry).row);
        are_rows = same_rows ∙ (λ j i. pairs_of (get_or (is j) i no_entry).row);
      }

-- what `check_table` answers of a whole table
pub whole_table : {E : Type 0} (nought : E) (has : E → Bool) (value : E → ℕ) (rows : List (List (ℕ × E))) (told : Option Trace) (params : Params)
    (header : Option Params) (columns : ColumnList) → HasHeader told params → header ≡ Some params → IsSomeAnd header (λ p. IsTableOf p columns)
    → Finds told (Found Whole)
    → IfSome told (λ t. (pages : List Page) → IsSealed pages t.now.contents → map (written value) rows ≡ map (λ (e : FinalEntry). e.row) (finals_of pages))
    → IsWholeTable told params columns (length rows) (lead_at rows) (row_at value rows)
whole_table nought has value rows told params header columns behind is table whole finals =
    let of : IsTableOf params columns = subst (λ o. IsSomeAnd o (λ p. IsTableOf p columns)) is table in
    record { are_columns = of; finals = by told behind whole finals of }
  where
    by : (o : Option Trace) → HasHeader o params → Finds o (Found Whole)
        → IfSome o (λ t. (pages : List Page) → IsSealed pages t.now.contents → map (written value) rows ≡ map (λ (e : FinalEntry). e.row) (finals_of pages))
        → IsTableOf params columns → IfSome o (λ t. AreFinalRows params columns (length rows) (lead_at rows) (row_at value rows) t.now.contents)
    by None behind whole finals of = tt
    by (Some t) (pages, reads, header) whole finals of =
        final_rows_are nought has value rows (finals_of pages) (finals pages reads.sealed) params columns of t.now.contents pages reads header refl
        (whole pages reads.sealed)

module _ (params : Params) (columns : ColumnList) (of : IsTableOf params columns) (count : ℕ) (lead : ℕ → ℕ) (rows : ℕ → ℕ → ℕ) where
  -- what is done with the rows is done over the file
  whole_work : (done : Params → ByRows) (bytes : List ℕ) (work : Work) → AreFinalRows params columns count lead rows bytes
      → done params columns count lead rows work → IsOverFile bytes done work
  whole_work done bytes work f is =
      judged params f.pages f.file f.closed columns of Whole f.found
      (subst (λ r. done params columns (length (finals_of f.pages)) (final_lead f.pages) r work) f.are_rows
      (subst (λ l. done params columns (length (finals_of f.pages)) l rows work) f.leads
      (subst (λ n. done params columns n lead rows work) f.as_many is)))

  pub complete_work : (told : Option Trace) (relations : ℕ) → IfSome told (λ t. AreFinalRows params columns count lead rows t.now.contents)
      → relations ≡ count_of columns → IsFileWork (Ok Check) told (Writes (complete_line params relations count) status.Done)
  complete_work None relations f is = tt
  complete_work (Some t) relations f is =
      whole_work CompletesBy t.now.contents (Writes (complete_line params relations count) status.Done) f
      (ap (λ n. Writes (complete_line params n count) status.Done) is)

  -- replies by the rows, read in a ring of the modulus
  module _ (told : Option Trace) (m : ℕ) (others : ℕ → ℕ → ℕ) (reply : List ℕ → List ℕ) (modulus : m ≡ params.modulus) (same : others ≡ rows)
      (finals : IfSome told (λ t. AreFinalRows params columns count lead rows t.now.contents)) where
    replies_work : (asked : Asked) (done : Params → ByRows) → ((bytes : List ℕ) → IsOverFile bytes done (Replies reply) → IsWork asked (Some bytes) (Replies reply))
        → done params columns count lead rows (Replies reply) → IsFileWork asked told (Replies reply)
    replies_work asked done over is = by told finals
      where
        by : (o : Option Trace) → IfSome o (λ t. AreFinalRows params columns count lead rows t.now.contents) → IsFileWork asked o (Replies reply)
        by None f = tt
        by (Some t) f = over t.now.contents (whole_work done t.now.contents (Replies reply) f is)

    pub rewrite_work : AreReplies m columns count lead others reply → IsFileWork (Ok Rewrite) told (Replies reply)
    rewrite_work each =
        replies_work (Ok Rewrite) (λ p. RepliesBy p.modulus) (λ bytes is. is) (record {
          reply = reply;
          replies = subst (λ k. AreReplies k columns count lead rows reply) modulus (subst (λ r. AreReplies m columns count lead r reply) same each);
          is = refl;
        })

    pub rational_work : AreFractionReplies m columns count lead others reply → IsFileWork (Ok Rational) told (Replies reply)
    rational_work each =
        replies_work (Ok Rational) (λ p. FractionsBy p.modulus) (λ bytes is. is) (record {
          reply = reply;
          replies = subst (λ k. AreFractionReplies k columns count lead rows reply) modulus
              (subst (λ r. AreFractionReplies m columns count lead r reply) same each);
          is = refl;
        })
