-- Parameters have one file, and a prefix one front.
use Rattle.std.specs.Prelude.{◌≡◌, ℕ, zero, suc, ◌<◌, ◌≤◌, List, [], ◌∷◌, ◌++◌, length, take}
use Rattle.std.proofs.Common.{refl, sym, ◌∙◌, ap, subst, arith}
use Rattle.std.specs.List.{AllByRecursion}
use Rattle.page_codec.specs.declared.params.Params.{Params}
use Rattle.page_codec.specs.declared.page.Page.{Page}
use Rattle.page_codec.specs.Bounds.{IsPage}
use Rattle.page_file.specs.Files.{Stops, opened, file_of}
use Rattle.page_file.proofs.Reading.{sealed_unique, file_reads}
use Rattle.file_model.specs.Pages.{ArePages, listed_work}
use Rattle.file_model.specs.Prefixes.{IsPages, IsFile, IsPrefix}
use Rattle.file_model.proofs.ParamColumns.{same_columns}
use Rattle.file_model.proofs.ListPlaces.{all_take}
use Rattle.file_model.proofs.OnePages.{pages_unique}
use Rattle.file_model.proofs.WritableWork.{is_listed_work}

pub one_pages : (params : Params) (ps qs : List Page) → IsPages params ps → IsPages params qs → ps ≡ qs
one_pages params ps qs a b =
    let e : a.columns ≡ b.columns = same_columns params a.columns b.columns a.are_columns b.are_columns in
    let moved : ArePages params b.columns (listed_work params.modulus b.columns) ps =
    subst (λ c. ArePages params c (listed_work params.modulus c) ps) e a.are_pages in
    let t = b.are_columns in
    pages_unique params b.columns (listed_work params.modulus b.columns) (is_listed_work params.modulus b.columns t.table) b.are_columns ps qs moved b.are_pages

pub one_file : (params : Params) (a b : List ℕ) → IsFile params a → IsFile params b → a ≡ b
one_file params a b x y = x.bytes_are ∙ ap file_of (one_pages params x.pages y.pages x.are_pages y.are_pages) ∙ sym y.bytes_are

-- two prefixes of as many pages are alike up to what stands behind the last one
pub one_front : (params : Params) (k : ℕ) (a b : List ℕ) → IsPrefix params k a → IsPrefix params k b
    → (front x y : List ℕ) × (a ≡ front ++ x) × (b ≡ front ++ y) × Stops x × Stops y
one_front params k a b x y =
    let f = x.reads in let g = y.reads in let s = f.sealed in let t = g.sealed in
    let same : x.pages ≡ y.pages = one_pages params x.pages y.pages x.are_pages y.are_pages in
    let turned : b ≡ opened (take k x.pages) ++ t.rest = t.bytes_are ∙ ap (λ ps. opened (take k ps) ++ t.rest) (sym same) in
    (opened (take k x.pages), s.rest, t.rest, s.bytes_are, turned, s.stops, t.stops)

pub length_taken : (k : ℕ) (ps : List Page) → k ≤ length ps → length (take k ps) ≡ k
length_taken zero ps l = refl
length_taken (suc k) [] l = absurd (omega arith)
length_taken (suc k) (p ∷ ps) l = ap suc (length_taken k ps (omega arith))

pub one_number : (params : Params) (j k : ℕ) (bytes : List ℕ) → IsPrefix params j bytes → IsPrefix params k bytes → j ≡ k
one_number params j k bytes x y =
    let f = x.reads in let g = y.reads in
    let pages : y.pages ≡ x.pages = one_pages params y.pages x.pages y.are_pages x.are_pages in
    let same : take j x.pages ≡ take k y.pages = sealed_unique (take j x.pages) (take k y.pages) bytes f.sealed g.sealed in
    sym (length_taken j x.pages x.within) ∙ ap length same ∙ length_taken k y.pages y.within

-- the file of the first k pages is a prefix of k pages
pub prefix_of_file : (params : Params) (pages : List Page) → IsPages params pages → AllByRecursion IsPage pages → (k : ℕ) → k ≤ length pages
    → IsPrefix params k (file_of (take k pages))
prefix_of_file params pages are each k l =
    record { pages = pages; are_pages = are; within = l; reads = file_reads (take k pages) (all_take IsPage k pages each) }

-- a build begins on no bytes
pub nothing_is_prefix : (params : Params) (pages : List Page) → IsPages params pages → IsPrefix params 0 []
nothing_is_prefix params pages are = record {
  pages = pages;
  are_pages = are;
  within = omega arith;
  reads = record { sealed = record { each = tt; rest = []; bytes_are = refl; stops = tt }; known = λ f. absurd (let l : 107 < 0 = f.long in omega arith) };
}
