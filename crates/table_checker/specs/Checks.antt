-- What is found of the pages of a file whose table is checked.
use Rattle.std.specs.Prelude.{◌≡◌, ℕ, ◌<◌, List, length, Option, Some, None, IfSome, IsSomeAnd, IsTrue}
use Rattle.zeta_model.specs.Words.{is_admissible}
use Rattle.sparse_rows.specs.Entries.{IsBelow}
use Rattle.column_order.specs.Columns.{ColumnList, column_count}
use Rattle.outside_io.specs.Traces.{Trace}
use Rattle.page_codec.specs.declared.params.Params.{Params}
use Rattle.page_codec.specs.declared.page.Page.{Page}
use Rattle.page_rows.specs.Written.{AreResidues}
use Rattle.page_file.specs.Files.{IsSealed}
use Rattle.page_file.specs.Notes.{params_of}
use Rattle.table_model.specs.Faults.{IsFirstWithout, Verdict, NoInverse, BadRow, NotReduced, Missing}
use Rattle.file_model.specs.TableOf.{IsTableOf}
use Rattle.file_model.specs.Builds.{FitsAt, FitsOwn}
use Rattle.file_model.specs.FinalRows.{IsFound, EndsDone}
use Rattle.cert_checker.specs.Certified.{residues_at}
use Rattle.table_checker.specs.declared.fault.CheckFault.{CheckFault}
use Rattle.table_checker.specs.declared.fault.CheckFault.TheVariants as checks

-- the pages begin with a header of the parameters, each fits its place, and the last is Done
pub record AreClosed (params : Params) (pages : List Page) : Type 0 where
  pub header : params_of pages ≡ Some params
  pub fit : (i : ℕ) → i < length pages → FitsAt params pages i
  pub done : EndsDone pages

-- this is found of the final rows of closed pages, over the columns of their header
pub record IsFoundOf (pages : List Page) (verdict : Verdict) : Type 0 where
  pub params : Params
  pub closed : AreClosed params pages
  pub columns : ColumnList
  pub are_columns : IsTableOf params columns
  pub is_verdict : IsFound params columns pages verdict

-- what is found of pages: the first that does not fit, that so many fit and the last of them is not Done, or what their final rows are
pub data Finding : Type 0 where
  Misfits : ℕ → Finding
  Unfinished : ℕ → Finding
  Found : Verdict → Finding

abbrev pub IsFinding : List Page → Finding → Type 0
IsFinding pages (Misfits i) = IsFirstWithout (FitsOwn pages) (length pages) i
IsFinding pages (Unfinished n) = (n ≡ length pages) × ((i : ℕ) → i < length pages → FitsOwn pages i) × ¬ (EndsDone pages)
IsFinding pages (Found verdict) = IsFoundOf pages verdict

-- it is what is found of the sealed pages of a disk, where the disk tells
abbrev pub Finds : Option Trace → Finding → Type 0
Finds told finding = IfSome told (λ t. (pages : List Page) → IsSealed pages t.now.contents → IsFinding pages finding)

-- columns of the table of the parameters, which increase, each with a residue from 1 to below the modulus
pub record IsRowOf (params : Params) (pairs : List (ℕ × ℕ)) : Type 0 where
  pub residues : AreResidues (λ k. k) params.modulus pairs
  pub below : IsBelow (λ k. k) (column_count params.weight params.depth) pairs

-- why the table in a file is refused: a cause for each fault. What is told of its pages is what is found of them; over any disk a word that is
-- named is admissible, and what is left of a missing relation is a row of the table of the header
abbrev pub IsRefusal : Type 0 → Option Trace → Option Params → CheckFault → Type 0
IsRefusal rose told header checks.DiskFault = rose
IsRefusal rose told header (checks.BadPage i) = told ≡ None
IsRefusal rose told header (checks.Misfit i) = Finds told (Misfits i)
IsRefusal rose told header (checks.NotDone n) = Finds told (Unfinished n)
IsRefusal rose told header (checks.NoInverse value word) = IsTrue (is_admissible word) × Finds told (Found (NoInverse word value))
IsRefusal rose told header (checks.BadRow i) = Finds told (Found (BadRow i))
IsRefusal rose told header (checks.NotReduced i) = Finds told (Found (NotReduced i))
IsRefusal rose told header (checks.Missing n rest) =
    IsSomeAnd header (λ params. IsRowOf params rest) × Finds told (Found (Missing n (residues_at rest)))
IsRefusal rose told header (checks.Memory e) = Unit {0}
