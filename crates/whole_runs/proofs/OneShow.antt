-- What is done with the contents of a file is one work.
use Rattle.std.specs.Prelude.{◌≡◌, ℕ, ◌<◌, Some, None, List, [], length}
use Rattle.std.proofs.Common.{sym, ◌∙◌, ap, subst, arith}
use Rattle.column_order.specs.Columns.{ColumnList}
use Rattle.page_codec.specs.declared.params.Params.{Params}
use Rattle.page_codec.specs.declared.page.Page.{Page}
use Rattle.page_file.specs.Files.{ReadsAs}
use Rattle.page_file.specs.Notes.{params_of}
use Rattle.page_file.proofs.Reading.{sealed_unique, bad_page_unique, not_both}
use Rattle.table_model.specs.Faults.{IsFirstWithout}
use Rattle.table_model.proofs.FirstFaults.{first_without_unique}
use Rattle.file_model.specs.TableOf.{IsTableOf}
use Rattle.file_model.proofs.ParamColumns.{same_columns}
use Rattle.file_model.specs.Builds.{FitsOwn}
use Rattle.whole_runs.specs.declared.status.Status.TheVariants as status
use Rattle.whole_runs.specs.FileTexts.{unreadable_line, misplaced_line, table_lines}
use Rattle.whole_runs.specs.FileWorks.{IsTableFile, IsNoTable, IsShow}
use Rattle.whole_runs.specs.FileWorks.IsNoTable.{foreign, unreadable, misplaced}
use Rattle.whole_runs.specs.FileWorks.IsShow.{no_table, nothing, shown}
use Rattle.whole_runs.specs.Works.{Work}
use Rattle.whole_runs.specs.Works.Work.{Writes}

pub same_pages : (bytes : List ℕ) (ps qs : List Page) → ReadsAs ps bytes → ReadsAs qs bytes → ps ≡ qs
same_pages bytes ps qs x y = sealed_unique ps qs bytes x.sealed y.sealed

pub same_params : (p q : Params) → Some p ≡ Some q → p ≡ q
same_params p q e = cc

module _ (bytes : List ℕ) where
  one_misplaced : (ps qs : List Page) (i k : ℕ) → ReadsAs ps bytes → ReadsAs qs bytes → IsFirstWithout (FitsOwn ps) (length ps) i
      → IsFirstWithout (FitsOwn qs) (length qs) k → i ≡ k
  one_misplaced ps qs i k x y f g =
      first_without_unique (FitsOwn ps) (length ps) i k f
      (subst (λ pages. IsFirstWithout (FitsOwn pages) (length pages) k) (same_pages bytes qs ps y x) g)

  pub one_refusal : (v w : Work) → IsNoTable bytes v → IsNoTable bytes w → v ≡ w
  one_refusal v w (foreign f x) (foreign g y) = x ∙ sym y
  one_refusal v w (foreign f x) (unreadable known i bad y) = absurd (known f)
  one_refusal v w (foreign f x) (misplaced ps reads i first y) = absurd (reads.known f)
  one_refusal v w (unreadable known i bad x) (foreign f y) = absurd (known f)
  one_refusal v w (unreadable known i bad x) (unreadable other k worse y) =
      x ∙ ap (λ n. Writes (unreadable_line n) status.NotATable) (bad_page_unique i k bytes bad worse) ∙ sym y
  one_refusal v w (unreadable known i bad x) (misplaced ps reads k first y) = absurd (not_both ps i bytes reads.sealed bad)
  one_refusal v w (misplaced ps reads k first x) (foreign f y) = absurd (reads.known f)
  one_refusal v w (misplaced ps reads k first x) (unreadable known i bad y) = absurd (not_both ps i bytes reads.sealed bad)
  one_refusal v w (misplaced ps reads i first x) (misplaced qs others k other y) =
      x ∙ ap (λ n. Writes (misplaced_line n) status.NotATable) (one_misplaced ps qs i k reads others first other) ∙ sym y

  -- bytes that read as pages without a misplaced one are some table's, or have no page
  pub not_refused : (v : Work) (ps : List Page) → ReadsAs ps bytes → ((i : ℕ) → i < length ps → FitsOwn ps i) → ¬ (IsNoTable bytes v)
  not_refused v ps reads fit (foreign f x) = reads.known f
  not_refused v ps reads fit (unreadable known i bad x) = not_both ps i bytes reads.sealed bad
  not_refused v ps reads fit (misplaced qs others i first x) =
      let moved = subst (λ pages. IsFirstWithout (FitsOwn pages) (length pages) i) (same_pages bytes qs ps others reads) first in
      moved.lacks (fit i moved.below)

  pub own_places : (params : Params) (ps : List Page) → IsTableFile bytes params ps → (i : ℕ) → i < length ps → FitsOwn ps i
  own_places params ps file i below = (params, file.header, file.fit i below)

  some_page : (params : Params) (ps : List Page) → IsTableFile bytes params ps → ¬ (ReadsAs [] bytes)
  some_page params ps file empty =
      let none : None ≡ Some params = ap params_of (same_pages bytes [] ps empty file.reads) ∙ file.header in absurd cc

  one_shown : (p q : Params) (ps qs : List Page) (c d : ColumnList) → IsTableFile bytes p ps → IsTableFile bytes q qs → IsTableOf p c → IsTableOf q d
      → table_lines p c.list ps ≡ table_lines q d.list qs
  one_shown p q ps qs c d file other of others =
      let pages : ps ≡ qs = same_pages bytes ps qs file.reads other.reads in
      let params : p ≡ q = same_params p q (sym file.header ∙ ap params_of pages ∙ other.header) in
      let columns : c ≡ d = same_columns q c d (subst (λ r. IsTableOf r c) params of) others in
      λ i. table_lines (params i) ((columns i).list) (pages i)

  pub one_show : (v w : Work) → IsShow bytes v → IsShow bytes w → v ≡ w
  one_show v w (no_table x) (no_table y) = one_refusal v w x y
  one_show v w (no_table x) (nothing empty y) = absurd (not_refused v [] empty (λ i below. absurd (omega arith)) x)
  one_show v w (no_table x) (shown q qs other d others y) = absurd (not_refused v qs other.reads (own_places q qs other) x)
  one_show v w (nothing empty x) (no_table y) = absurd (not_refused w [] empty (λ i below. absurd (omega arith)) y)
  one_show v w (nothing empty x) (nothing none y) = x ∙ sym y
  one_show v w (nothing empty x) (shown q qs other d others y) = absurd (some_page q qs other empty)
  one_show v w (shown p ps file c of x) (no_table y) = absurd (not_refused w ps file.reads (own_places p ps file) y)
  one_show v w (shown p ps file c of x) (nothing empty y) = absurd (some_page p ps file empty)
  one_show v w (shown p ps file c of x) (shown q qs other d others y) =
      x ∙ ap (λ text. Writes text status.Done) (one_shown p q ps qs c d file other of others) ∙ sym y
