-- The version 1 file of parameters: all its pages are passed.
use Rattle.std.proofs.Common.{◌≡◌, ℕ, List, [], ◌∷◌, ◌++◌, length, Some, refl, sym, ap, ◌∙◌}
use Rattle.std.specs.List.{AllByRecursion}
use Rattle.page_codec.specs.declared.params.Params.{Params}
use Rattle.page_codec.specs.declared.page.Page.{Page}
use Rattle.page_codec.specs.declared.page.Page.TheVariants.{Header, Forward, Final, Done}
use Rattle.page_codec.specs.Bounds.{IsPage, IsParams}
use Rattle.page_codec.specs.Places.{FitBehind, AllFit}
use Rattle.page_file.specs.Files.{file_of}
use Rattle.page_file.specs.Notes.{params_of}
use Rattle.page_file.proofs.Reading.{file_sealed, sealed_unique}
use Rattle.table_model.specs.ListedSpan.{relation_count}
use Rattle.file_model.specs.Prefixes.{IsPages, IsFile}
use Rattle.file_model.proofs.OneFile.{one_pages}
use Rattle.file_model.proofs.PlacedPages.{pages_placed}
use Rattle.file_model.proofs.WholeFiles.{file_is_whole}
use Rattle.table_migration.specs.OldFiles.{IsOldPage, old_file_of, IsOldFile}
use Rattle.table_migration.specs.Migrations.{Migrated, IsReading}
use Rattle.table_migration.proofs.Places.{are_fit}

-- a header at its place is that of the parameters
old_each : (p : Params) (n : ℕ) (before pages : List Page) → p.preferred ≡ [] → AllByRecursion IsPage pages → FitBehind p n before pages
    → AllByRecursion IsOldPage pages
old_each p n before [] none each fit = tt
old_each p n before (Header q ∷ pages) none each fit =
    ((each.0, ap (λ (r : Params). r.preferred) fit.0.1 ∙ none), old_each p n (before ++ Header q ∷ []) pages none each.1 fit.1)
old_each p n before (Forward q ∷ pages) none each fit = (each.0, old_each p n (before ++ Forward q ∷ []) pages none each.1 fit.1)
old_each p n before (Final q ∷ pages) none each fit = (each.0, old_each p n (before ++ Final q ∷ []) pages none each.1 fit.1)
old_each p n before (Done q ∷ pages) none each fit = (each.0, old_each p n (before ++ Done q ∷ []) pages none each.1 fit.1)

first_params : (p q : Params) (n : ℕ) (pages : List Page) → params_of pages ≡ Some q → AllFit p n pages → params_of pages ≡ Some p
first_params p q n [] header fit = absurd (cc header)
first_params p q n (Header r ∷ pages) header fit = ap Some fit.0.1
first_params p q n (Forward r ∷ pages) header fit = absurd (cc header)
first_params p q n (Final r ∷ pages) header fit = absurd (cc header)
first_params p q n (Done r ∷ pages) header fit = absurd (cc header)

pub old_file_read : (params : Params) → IsParams params → (bytes : List ℕ) → IsOldFile params bytes → (pages : List Page) → IsPages params pages
    → IsReading bytes pages (Migrated params (length pages))
old_file_read params is bytes old pages are =
    let n = relation_count params.weight params.depth in
    let placed = pages_placed params is pages are in
    let file : IsFile params (file_of pages) = record { sound = old.sound; pages = pages; are_pages = are; bytes_are = refl } in
    let whole = file_is_whole params is (file_of pages) file in
    let reads = whole.reads in
    let same : whole.pages ≡ pages = sealed_unique whole.pages pages (file_of pages) reads.sealed (file_sealed pages placed.0) in
    let header : params_of pages ≡ Some params = first_params params whole.params n pages (ap params_of (sym same) ∙ whole.header) placed.1 in
    record {
      rest = 0 ∷ [];
      passed = record {
        each = old_each params n [] pages old.none_preferred placed.0 placed.1;
        fit = are_fit params pages header placed.1;
        bytes_are = old.bytes_are ∙ ap old_file_of (one_pages params old.pages pages old.are_pages are);
      };
      ends = ((whole.rows, whole.front, sym same ∙ whole.closed), header, refl);
    }
