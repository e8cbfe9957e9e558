-- What going on over a prefix of the parameters says.
use Rattle.std.specs.Prelude.{◌≡◌, ℕ, zero, suc, ◌/◌, ◌<◌, ◌≤◌, Some, None, List, [], ◌∷◌, ◌++◌, length, take, slice_get}
use Rattle.std.proofs.Common.{refl, sym, ◌∙◌, ap, subst, inl, inr, arith}
use Rattle.std.specs.List.{AllByRecursion}
use Rattle.std.proofs.lemmas.Bool.{cases_lt}
use Rattle.std.proofs.lemmas.List.{append_assoc, append-nil}
use Rattle.std.proofs.lemmas.Option.{slice_get_within, slice_get_read, get_or_from_slice_get}
use Rattle.zeta_model.specs.declared.Letter.{Letter}
use Rattle.column_order.specs.Columns.{ColumnList}
use Rattle.page_codec.specs.declared.params.Params.{Params}
use Rattle.page_codec.specs.declared.page.Page.{Page}
use Rattle.page_codec.specs.declared.page.Page.TheVariants.{Header, Done}
use Rattle.page_codec.specs.Bounds.{IsParams, IsPage}
use Rattle.page_codec.specs.Places.{FitsPlace, FitBehind, AllFit, block_count}
use Rattle.table_model.specs.Conversion.{Converts}
use Rattle.table_model.specs.ListedSpan.{values_of, count_of, relation_count}
use Rattle.table_model.specs.ReducedRows.{IsUnbroken, BreaksFirst}
use Rattle.table_model.specs.Faults.{IsNotInvertible}
use Rattle.file_model.specs.TableOf.{IsTableOf}
use Rattle.file_model.specs.Pages.{ArePages, listed_work}
use Rattle.file_model.specs.Pages.ArePages.{none, begun, whole}
use Rattle.file_model.specs.Prefixes.{IsPages, IsPrefix}
use Rattle.file_model.specs.Resuming.{entries_of, kept_of, AllSuit}
use Rattle.file_model.specs.Builds.{Figures, GoesOn, HasParams, IsOurs, AreFigures, ResumeEnds}
use Rattle.file_model.specs.Builds.Answer.{NoInverseWord, NoInverseRelation, Built}
use Rattle.file_model.proofs.OneFile.{one_pages, length_taken}
use Rattle.file_model.proofs.KeptPages.{from_start, entries_of-append}
use Rattle.file_model.proofs.Keeping.{IsPlain, plain_entries, final_plain, first_pages_keep, resumed_pages}
use Rattle.file_model.proofs.ListPlaces.{all_append}
use Rattle.file_model.proofs.TrueRows.{IsTrueKept}
use Rattle.file_model.proofs.SameWork.{broken_to, unbroken_to}
use Rattle.file_model.proofs.OneAnswer.{unwrapped, suit_first}
use Rattle.file_model.proofs.LeftFiles.{pages_at}
use Rattle.file_model.proofs.PlacedPages.{pages_placed}
use Rattle.file_model.proofs.SuitingPages.{pages_suit}

-- ---- places

front_fits : (p : Params) (n k : ℕ) (before pages : List Page) → FitBehind p n before pages → FitBehind p n before (take k pages)
front_fits p n zero before pages h = tt
front_fits p n (suc k) before [] h = tt
front_fits p n (suc k) before (page ∷ pages) h = (h.0, front_fits p n k (before ++ page ∷ []) pages h.1)

fits_at : (p : Params) (n i : ℕ) (before pages : List Page) (page : Page) → FitBehind p n before pages → slice_get pages i ≡ Some page
    → FitsPlace p n (before ++ take i pages) page
fits_at p n i before [] page h at = absurd (let l : i < 0 = slice_get_within [] i page at in omega (arith, l))
fits_at p n zero before (q ∷ pages) page h at =
    subst (λ x. FitsPlace p n x page) (sym (append-nil before))
    (subst (FitsPlace p n before) (get_or_from_slice_get (q ∷ pages) 0 page q at) h.0)
fits_at p n (suc i) before (q ∷ pages) page h at =
    let l : suc i < length (q ∷ pages) = slice_get_within (q ∷ pages) (suc i) page at in
    let there : slice_get pages i ≡ Some page =
    slice_get_read pages (length pages) i page refl (omega (arith, l)) (sym (get_or_from_slice_get (q ∷ pages) (suc i) page page at)) in
    subst (λ x. FitsPlace p n x page) (append_assoc before (q ∷ []) (take i pages)) (fits_at p n i (before ++ q ∷ []) pages page h.1 there)

-- ---- the first pages of parameters

first_params : (params : Params) (k : ℕ) (tail : List Page) → HasParams params (take k (Header params ∷ tail))
unfolding unwrapped
first_params params zero tail q e = let no : None ≡ Some q = e in cc
first_params params (suc k) tail q e = ap (unwrapped params) (sym e)

no_params : (params : Params) (k : ℕ) → HasParams params (take k [])
no_params params zero q e = let no : None ≡ Some q = e in cc
no_params params (suc k) q e = let no : None ≡ Some q = e in cc

module _ (params : Params) (columns : ColumnList) (of : IsTableOf params columns) where
  abbrev m : ℕ
  m = params.modulus

  have_params : (k : ℕ) (pages : List Page) → ArePages params columns (listed_work m columns) pages → HasParams params (take k pages)
  have_params k pages (none a x) = subst (λ ps. HasParams params (take k ps)) (sym x) (no_params params k)
  have_params k pages (begun c n r l b f hf x) = subst (λ ps. HasParams params (take k ps)) (sym x) (first_params params k f)
  have_params k pages (whole c un count lead rows h f g hf hg x) =
      subst (λ ps. HasParams params (take k ps)) (sym x) (first_params params k (f ++ (g ++ Done count ∷ [])))

  forward_entries : (f tail : List Page) → AllByRecursion IsPlain tail → entries_of (Header params ∷ (f ++ tail)) ≡ entries_of f
  forward_entries f tail plain = entries_of-append f tail ∙ ap (λ es. entries_of f ++ es) (plain_entries tail plain) ∙ append-nil (entries_of f)

  all_suit : (pages : List Page) → Converts m columns → ArePages params columns (listed_work m columns) pages → AllSuit m (entries_of pages)
  all_suit pages converts (none a x) = absurd (a converts)
  all_suit pages converts (begun c n r l b f hf x) =
      let size : length f ≡ n / 64 = hf.as_many in
      let same : pages ≡ Header params ∷ (f ++ []) = x ∙ ap (λ qs. Header params ∷ qs) (sym (append-nil f)) in
      subst (AllSuit m) (sym (ap entries_of same ∙ forward_entries f [] tt))
      (pages_suit m columns of.table c f (from_start m columns (listed_work m columns) (n / 64) f hf) (λ k lk few. b.1 k (omega (arith, lk, size))))
  all_suit pages converts (whole c un count lead rows h f g hf hg x) =
      let plain : AllByRecursion IsPlain (g ++ Done count ∷ []) =
      all_append IsPlain g (Done count ∷ []) (final_plain m columns count rows g hg) ((refl, refl), tt) in
      subst (AllSuit m) (sym (ap entries_of x ∙ forward_entries f (g ++ Done count ∷ []) plain))
      (pages_suit m columns of.table c f (from_start m columns (listed_work m columns) (block_count (count_of columns)) f hf) (λ k lk few. un k few))

  module _ (fits : IsParams params) (k : ℕ) (bytes : List ℕ) (p : IsPrefix params k bytes) where
    abbrev sealed : List Page
    sealed = take k p.pages

    pub our_pages : ArePages params columns (listed_work m columns) p.pages
    our_pages = pages_at params columns of p.pages p.are_pages

    ours : IsOurs params bytes sealed
    ours =
        let placed : AllByRecursion IsPage p.pages × AllFit params (relation_count params.weight params.depth) p.pages =
        pages_placed params fits p.pages p.are_pages in
        let fit = front_fits params (relation_count params.weight params.depth) k [] p.pages placed.1 in record {
          reads = p.reads;
          params_are = have_params k p.pages our_pages;
          fit = λ i l page at. fits_at params (relation_count params.weight params.depth) i [] sealed page fit at;
        }

    -- a word at which the table does not convert is told
    pub word_told : (u : List Letter) (residue : ℕ) → IsNotInvertible m columns u residue → ResumeEnds params bytes (NoInverseWord residue u)
    word_told u residue is = (sealed, columns, ours, of, is)

    module _ (converts : Converts m columns) where
      kept : IsTrueKept m columns (kept_of sealed)
      kept = first_pages_keep params columns of p.pages our_pages k converts

      goes_on : (n : ℕ) → IsUnbroken m columns (values_of m columns) n → GoesOn params columns sealed n
      goes_on n un = record {
        are_columns = of;
        converts = converts;
        suit = suit_first m p.pages k (all_suit p.pages converts our_pages);
        unbroken = unbroken_to m columns of.table converts (kept_of sealed) kept n un;
      }

      -- a relation at which the work is broken is told
      pub relation_told : (n residue : ℕ) → n < count_of columns → BreaksFirst m columns (values_of m columns) n residue
          → ResumeEnds params bytes (NoInverseRelation residue n)
      relation_told n residue few b =
          let keeps = kept_of sealed in
          let high : keeps.below ≤ n = elim (cases_lt n keeps.below) [
            | inl low ↦ absurd (let t = kept in t.unbroken n low residue b.0)
            | inr h ↦ h
          ] in (
            sealed,
            columns,
            ours,
            goes_on n b.1,
            few,
            (broken_to m columns of.table converts keeps kept n residue high b.0, unbroken_to m columns of.table converts keeps kept n b.1),
          )

      -- else the work comes to its end
      pub end_told : IsUnbroken m columns (values_of m columns) (count_of columns) → (figures : Figures) → AreFigures columns sealed p.pages figures
          → ResumeEnds params bytes (Built figures)
      end_told un figures told = (
        sealed,
        p.pages,
        columns,
        record { ours = ours; goes_on = goes_on (count_of columns) un; resumed = resumed_pages params p.pages p.are_pages k },
        ap (λ n. take n p.pages) (length_taken k p.pages p.within),
        told,
      )

-- the same, with the pages of the parameters as a caller has them
pub end_told_of : (params : Params) (columns : ColumnList) → IsTableOf params columns → IsParams params → (k : ℕ) (bytes : List ℕ) → IsPrefix params k bytes
    → Converts params.modulus columns → IsUnbroken params.modulus columns (values_of params.modulus columns) (count_of columns)
    → (pages : List Page) → IsPages params pages → (figures : Figures) → AreFigures columns (take k pages) pages figures
    → ResumeEnds params bytes (Built figures)
end_told_of params columns of fits k bytes p converts un pages are figures told =
    let same : pages ≡ p.pages = one_pages params pages p.pages are p.are_pages in
    end_told params columns of fits k bytes p converts un figures (subst (λ ps. AreFigures columns (take k ps) ps figures) same told)
