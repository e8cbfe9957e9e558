-- Work that can be written has pages, and so have parameters.
use Rattle.std.specs.Prelude.{◌≡◌, ℕ, ◌+◌, ◌-◌, ◌*◌, ◌/◌, ◌<◌, ◌⊎◌, min, Some, List, [], ◌∷◌, ◌++◌, length}
use Rattle.std.proofs.Common.{refl, sym, ◌∙◌, ap, subst, inl, inr, arith}
use Rattle.std.proofs.lemmas.Option.{slice_get_within, get_or_from_slice_get}
use Rattle.linear_model.proofs.Spans.{row_in_span}
use Rattle.column_order.specs.Columns.{ColumnList}
use Rattle.table_model.specs.Conversion.{IsTable, Converts}
use Rattle.table_model.specs.ListedSpan.{count_of}
use Rattle.table_model.specs.ReducedRows.{IsReducedRows, IsUnbroken, BreaksFirst}
use Rattle.table_model.proofs.FirstFaults.{not_invertible_word}
use Rattle.table_model.proofs.FindingFaults.{converts_or_fault, unbroken_or_breaks}
use Rattle.table_model.proofs.ForwardRowLaws.{unbroken_has_rows}
use Rattle.page_codec.specs.declared.params.Params.{Params}
use Rattle.file_model.specs.TableOf.{IsTableOf}
use Rattle.page_codec.specs.declared.parts.ForwardEntry.{ForwardEntry}
use Rattle.page_codec.specs.declared.parts.FinalEntry.{FinalEntry}
use Rattle.page_codec.specs.declared.page.Page.{Page}
use Rattle.file_model.specs.Pages.{Work, IsWork, IsWritten, IsForwardBlock, IsFinalBlock, AreForwardPages, AreFinalPages, ArePages, listed_work, forward_page, final_page}
use Rattle.page_codec.specs.declared.page.Page.TheVariants.{Header, Done}
use Rattle.file_model.specs.Pages.ArePages.{none, begun, whole}
use Rattle.file_model.specs.Prefixes.{IsPages}
use Rattle.page_codec.specs.Bounds.{IsParams}
use Rattle.file_model.proofs.ListPlaces.{tabulated}
use Rattle.file_model.proofs.ParamColumns.{some_columns}
use Rattle.file_model.proofs.SomePairs.{written_exists}
use Rattle.file_model.proofs.SomePages.{forward_page_exists}
use Rattle.file_model.proofs.WritableWork.{IsWritable, is_listed_work, listed_writable}

module _ (m : ℕ) (columns : ColumnList) (table : IsTable m columns) (converts : Converts m columns) (work : Work) (works : IsWork m columns work)
    (writable : IsWritable m columns work) where
  forward_pages_exist : (n : ℕ) → ((b : ℕ) → b < n → (64 * b < count_of columns) × IsUnbroken m columns work.sums
      (min (64 * b + 64) (count_of columns))) → (ps : List Page) × AreForwardPages m columns work n ps
  forward_pages_exist n un =
      let (ps, size, each) = tabulated (λ b (p : Page). (es : List ForwardEntry) × (p ≡ forward_page (64 * b) es) × IsForwardBlock m columns work b es) n
      (λ b l. let (es, is) = forward_page_exists m columns table converts work works writable b (un b l).0 (un b l).1 in
      (forward_page (64 * b) es, (es, refl, is))) in
      (ps, record { as_many = size; each = λ b l. let (p, at, (es, e, is)) = each b l in (es, at ∙ ap (λ x. Some x) e, is) })

  module _ (un : IsUnbroken m columns work.sums (count_of columns)) (count : ℕ) (lead : ℕ → ℕ) (rows : ℕ → ℕ → ℕ)
      (h : IsReducedRows m columns work.sums (count_of columns) count lead rows) where
    final_page_exists : (i : ℕ) → (es : List FinalEntry) × IsFinalBlock m columns work count rows i es
    final_page_exists i =
        let (es, size, each) = tabulated (λ j (e : FinalEntry). IsWritten m columns work (count_of columns)
        (rows (64 * i + j)) e.row e.combination) (min 64 (count - 64 * i))
        (λ j l.
        let k : ℕ = 64 * i + j in
        let lk : k < count = omega (arith, l) in
        let (row, combination, written) = written_exists m columns table converts work works writable (count_of columns) un (rows k) (h.over k lk)
        ((h.whole (rows k) (h.over k lk)).0 (row_in_span m count rows k lk)) in
        (record { row = row; combination = combination }, written)) in (
          es,
          record {
            as_many = size;
            rows_are = λ j e at.
                let l : j < length es = slice_get_within es j e at in
                let (x, place, written) = each j (omega (arith, l, size)) in
                let same : x ≡ e = sym (get_or_from_slice_get es j x e place) ∙ get_or_from_slice_get es j e e at in
                subst (λ (y : FinalEntry). IsWritten m columns work (count_of columns)
                (rows (64 * i + j)) y.row y.combination) same written;
          },
        )

    final_pages_exist : (ps : List Page) × AreFinalPages m columns work count rows ps
    final_pages_exist =
        let (ps, size, each) = tabulated (λ i (p : Page). (es : List FinalEntry) × (p ≡ final_page (64 * i) es) × IsFinalBlock m columns work count rows i es)
        ((count + 63) / 64)
        (λ i l. let (es, is) = final_page_exists i in (final_page (64 * i) es, (es, refl, is))) in
        (ps, record { as_many = size; each = λ i l. let (p, at, (es, e, is)) = each i (omega (arith, l, size)) in (es, at ∙ ap (λ x. Some x) e, is) })

-- work on the table of parameters has pages where it can be written as far as the table converts
pub work_pages_exist : (params : Params) (columns : ColumnList) → IsTableOf params columns → (work : Work)
    → (Converts params.modulus columns → IsWork params.modulus columns work) → (Converts params.modulus columns → IsWritable params.modulus columns work)
    → (pages : List Page) × ArePages params columns work pages
work_pages_exist params columns of work works writable = elim (converts_or_fault m columns of.table) [
  | inr (u, residue, is) ↦ ([], none (not_invertible_word m columns u residue is) refl)
  | inl converts ↦ let is = works converts in
      go converts is (writable converts) (unbroken_or_breaks m columns of.table work.sums is.sums converts (count_of columns))
]
  where
    m : ℕ
    m = params.modulus

    go : Converts m columns → IsWork m columns work → IsWritable m columns work → (IsUnbroken m columns work.sums (count_of columns) ⊎
        ((j : ℕ) × (residue : ℕ) × (j < count_of columns) × BreaksFirst m columns work.sums j residue))
        → (pages : List Page) × ArePages params columns work pages
    go converts is can (inl un) =
        let (count, lead, rows, h) = unbroken_has_rows m columns of.table work.sums is.sums converts (count_of columns) un in
        let (f, hf) = forward_pages_exist m columns of.table converts work is can ((count_of columns + 63) / 64)
        (λ b l. (omega (arith, l), λ k lk. un k (omega (arith, lk)))) in
        let (g, hg) = final_pages_exist m columns of.table converts work is can un count lead rows h in
        (Header params ∷ (f ++ (g ++ Done count ∷ [])), whole converts un count lead rows h f g hf hg refl)
    go converts is can (inr (n, residue, l, b)) =
        let (f, hf) = forward_pages_exist m columns of.table converts work is can (n / 64)
        (λ c lc. (omega (arith, lc, l), λ k lk. b.1 k (omega (arith, lc, lk)))) in
        (Header params ∷ f, begun converts n residue l b f hf refl)

pub pages_exist : (params : Params) → IsParams params → (pages : List Page) × IsPages params pages
pages_exist params fits =
    let (columns, of) = some_columns params fits in
    let (pages, are) = work_pages_exist params columns of (listed_work params.modulus columns)
    (λ _. is_listed_work params.modulus columns of.table) (λ _. listed_writable params.modulus columns) in
    (pages, record { columns = columns; are_columns = of; are_pages = are })
