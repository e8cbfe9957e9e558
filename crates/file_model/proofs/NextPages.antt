-- The page of a block stands in the list of pages at its place.
use Rattle.std.specs.Prelude.{◌≡◌, ℕ, suc, ◌+◌, ◌*◌, ◌/◌, ◌<◌, min, Some, List, [], ◌∷◌, ◌++◌, length, slice_get, get_or}
use Rattle.std.proofs.Common.{refl, sym, ◌∙◌, ap, subst, inl, inr, arith}
use Rattle.std.proofs.lemmas.Bool.{cases_lt}
use Rattle.std.proofs.lemmas.List.{length-append, append-nil, get_or_append_left}
use Rattle.std.proofs.lemmas.Option.{slice_get_read, slice_get_within, get_or_from_slice_get}
use Rattle.column_order.specs.Columns.{ColumnList}
use Rattle.table_model.specs.Conversion.{Converts}
use Rattle.table_model.specs.ListedSpan.{count_of}
use Rattle.table_model.specs.ReducedRows.{IsBrokenAt}
use Rattle.page_codec.specs.declared.params.Params.{Params}
use Rattle.file_model.specs.TableOf.{IsTableOf}
use Rattle.page_codec.specs.declared.parts.ForwardEntry.{ForwardEntry}
use Rattle.page_codec.specs.declared.page.Page.{Page}
use Rattle.file_model.specs.Pages.{Work, IsWork, IsForwardBlock, AreForwardPages, ArePages, forward_page}
use Rattle.page_codec.specs.declared.page.Page.TheVariants.{Header}
use Rattle.file_model.specs.Pages.ArePages.{none, begun, whole}
use Rattle.file_model.proofs.ForwardPages.{forward_page_unique}

module _ (params : Params) (columns : ColumnList) (work : Work) (is_work : IsWork params.modulus columns work) (of : IsTableOf params columns)
    (converts : Converts params.modulus columns) (b : ℕ) (few : 64 * b < count_of columns) where
  abbrev m : ℕ
  m = params.modulus

  -- the work is not broken in the blocks up to b
  abbrev UpTo : Type 0
  UpTo = (k : ℕ) → k < 64 * b + 64 → k < count_of columns → (residue : ℕ) → ¬ (IsBrokenAt m columns work.sums k residue)

  at_block : (n : ℕ) (f tail : List Page) (params : Params) → AreForwardPages m columns work n f → b < n → UpTo → (es : List ForwardEntry)
      → IsForwardBlock m columns work b es
      → slice_get (Header params ∷ (f ++ tail)) (suc b) ≡ Some (forward_page (64 * b) es)
  at_block n f tail params hf l un es h =
      let (fs, at, is) = hf.each b l in
      let same : es ≡ fs = forward_page_unique m columns work is_work of.table converts b (min (64 * b + 64) (count_of columns))
      (λ k lk. un k (omega (arith, lk)) (omega (arith, lk))) (λ j low lj. omega arith) es fs h is in
      let page : Page = forward_page (64 * b) es in
      let inside : b < length f = slice_get_within f b (forward_page (64 * b) fs) at in
      let there : get_or (Header params ∷ (f ++ tail)) (suc b) page ≡ page =
      get_or_append_left f tail page b inside ∙ get_or_from_slice_get f b (forward_page (64 * b) fs) page at ∙ ap (forward_page (64 * b)) (sym same) in
      slice_get_read (Header params ∷ (f ++ tail)) (suc (length (f ++ tail))) (suc b) page refl (omega (arith, inside, length-append f tail)) (sym there)

  pub next_forward : (pages : List Page) → ArePages params columns work pages → UpTo → (es : List ForwardEntry) → IsForwardBlock m columns work b es
      → slice_get pages (suc b) ≡ Some (forward_page (64 * b) es)
  next_forward pages (none a x) un es h = absurd (a converts)
  next_forward pages (begun c n r l breaks f hf x) un es h = elim (cases_lt n (64 * b + 64)) [
    | inl low ↦ absurd (un n low l r breaks.0)
    | inr high ↦ subst (λ ps. slice_get ps (suc b) ≡ Some (forward_page (64 * b) es)) (ap (λ qs. Header params ∷ qs) (append-nil f) ∙ sym x)
        (at_block (n / 64) f [] params hf (omega (arith, high)) un es h)
  ]
  next_forward pages (whole c all count lead rows hr f g hf hg x) un es h =
      subst (λ ps. slice_get ps (suc b) ≡ Some (forward_page (64 * b) es)) (sym x)
      (at_block ((count_of columns + 63) / 64) f _ params hf (omega (arith, few)) un es h)
