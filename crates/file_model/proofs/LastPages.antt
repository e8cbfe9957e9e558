-- The final pages and the last one stand in the list of pages at their places.
use Rattle.std.specs.Prelude.{◌≡◌, ℕ, suc, ◌+◌, ◌-◌, ◌*◌, ◌/◌, ◌<◌, Some, List, [], ◌∷◌, ◌++◌, length, slice_get, get_or}
use Rattle.std.proofs.Common.{refl, sym, ◌∙◌, ap, subst, arith}
use Rattle.std.proofs.lemmas.List.{length-append, get_or_append_left, get_or-append_right}
use Rattle.std.proofs.lemmas.Option.{slice_get_read, get_or_from_slice_get}
use Rattle.linear_model.specs.Rows.{SameRow}
use Rattle.column_order.specs.Columns.{ColumnList}
use Rattle.table_model.specs.Conversion.{Converts}
use Rattle.table_model.specs.ListedSpan.{count_of}
use Rattle.table_model.specs.ReducedRows.{IsUnbroken, IsReducedRows}
use Rattle.table_model.proofs.ReducedRowsLaws.{reduced_rows_counts, reduced_rows_rows}
use Rattle.page_codec.specs.declared.params.Params.{Params}
use Rattle.file_model.specs.TableOf.{IsTableOf}
use Rattle.page_codec.specs.declared.parts.FinalEntry.{FinalEntry}
use Rattle.page_codec.specs.declared.page.Page.{Page}
use Rattle.file_model.specs.Pages.{Work, IsWork, IsFinalBlock, ArePages, final_page}
use Rattle.page_codec.specs.declared.page.Page.TheVariants.{Header, Done}
use Rattle.file_model.specs.Pages.ArePages.{none, begun, whole}
use Rattle.file_model.proofs.OnePages.{final_page_unique}

-- what stands behind the header and a list
behind : (h : Page) (f t : List Page) (i : ℕ) (p : Page) → i < length t → get_or t i p ≡ p → slice_get (h ∷ (f ++ t)) (1 + length f + i) ≡ Some p
behind h f t i p l at =
    let place : 1 + length f + i ≡ suc (length f + i) = omega arith in
    let there : get_or (h ∷ (f ++ t)) (suc (length f + i)) p ≡ p =
    get_or-append_right f t (length f) (length f + i) p refl (omega arith) ∙ ap (λ k. get_or t k p) (let z : length f + i - length f ≡ i = omega arith in z)
    ∙ at in
    subst (λ k. slice_get (h ∷ (f ++ t)) k ≡ Some p) (sym place)
    (slice_get_read (h ∷ (f ++ t)) (suc (length (f ++ t))) (suc (length f + i)) p refl (omega (arith, l, length-append f t)) (sym there))

module _ (params : Params) (columns : ColumnList) (work : Work) (is_work : IsWork params.modulus columns work) (of : IsTableOf params columns)
    (converts : Converts params.modulus columns) (un : IsUnbroken params.modulus columns work.sums (count_of columns))
    (count : ℕ) (lead : ℕ → ℕ) (rows : ℕ → ℕ → ℕ) (reduced : IsReducedRows params.modulus columns work.sums (count_of columns) count lead rows)
    (pages : List Page) where
  abbrev m : ℕ
  m = params.modulus

  pub next_final : ArePages params columns work pages → (i : ℕ) → 64 * i < count → (es : List FinalEntry) → IsFinalBlock m columns work count rows i es
      → slice_get pages (1 + (count_of columns + 63) / 64 + i) ≡ Some (final_page (64 * i) es)
  next_final (none a x) i l es h = absurd (a converts)
  next_final (begun c n r few breaks f hf x) i l es h = absurd (un n few r breaks.0)
  next_final (whole c all k other_lead others hr f g hf hg x) i l es h =
      let same : k ≡ count = reduced_rows_counts m columns of.table work.sums (count_of columns) k count other_lead lead others rows hr reduced in
      let inside : i < length g = omega (arith, l, hg.as_many, same) in
      let (fs, at, is) = hg.each i inside in
      let rows_are : (j : ℕ) → j < count → SameRow m (rows j) (others j) =
      reduced_rows_rows m columns of.table work.sums (count_of columns) count k lead other_lead rows others reduced hr in
      let moved : IsFinalBlock m columns work count others i fs = subst (λ z. IsFinalBlock m columns work z others i fs) same is in
      let one : es ≡ fs = final_page_unique m columns work is_work of.table converts un count rows others rows_are i es fs h moved in
      let page : Page = final_page (64 * i) es in
      let tail : List Page = g ++ Done k ∷ [] in
      let there : get_or tail i page ≡ page = get_or_append_left g (Done k ∷ []) page i inside ∙ get_or_from_slice_get g i (final_page (64 * i) fs) page at
      ∙ ap (final_page (64 * i)) (sym one) in
      subst (λ z. slice_get pages (1 + z + i) ≡ Some page) hf.as_many
      (subst (λ ps. slice_get ps (1 + length f + i) ≡ Some page) (sym x)
      (behind (Header params) f tail i page (omega (arith, inside, length-append g (Done k ∷ []))) there))

  pub next_last : ArePages params columns work pages → (slice_get pages (1 + (count_of columns + 63) / 64 + (count + 63) / 64) ≡ Some (Done count)) ×
      (length pages ≡ 2 + (count_of columns + 63) / 64 + (count + 63) / 64)
  next_last (none a x) = absurd (a converts)
  next_last (begun c n r few breaks f hf x) = absurd (un n few r breaks.0)
  next_last (whole c all k other_lead others hr f g hf hg x) =
      let same : k ≡ count = reduced_rows_counts m columns of.table work.sums (count_of columns) k count other_lead lead others rows hr reduced in
      let page : Page = Done count in
      let tail : List Page = g ++ Done k ∷ [] in
      let size : length g ≡ (count + 63) / 64 = hg.as_many ∙ ap (λ z. (z + 63) / 64) same in
      let there : get_or tail (length g) page ≡ page = get_or-append_right g (Done k ∷ []) (length g) (length g) page refl (omega arith) ∙ ap
      (λ z. get_or (Done k ∷ []) z page) (let z : length g - length g ≡ 0 = omega arith in z) ∙ ap Done same in
      let long : length tail ≡ length g + 1 = length-append g (Done k ∷ []) in
      let at : slice_get pages (1 + length f + length g) ≡ Some page =
      subst (λ ps. slice_get ps (1 + length f + length g) ≡ Some page) (sym x) (behind (Header params) f tail (length g) page (omega (arith, long)) there) in (
        subst (λ z. slice_get pages (1 + (count_of columns + 63) / 64 + z) ≡ Some page) size
            (subst (λ z. slice_get pages (1 + z + length g) ≡ Some page) hf.as_many at),
        omega (arith, ap length x, length-append f tail, long, size, hf.as_many),
      )
