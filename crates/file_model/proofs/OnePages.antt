-- Parameters have one list of pages.
use Rattle.std.specs.Prelude.{◌≡◌, ℕ, ◌+◌, ◌*◌, ◌/◌, ◌<◌, List, [], ◌∷◌, ◌++◌, get_or}
use Rattle.std.proofs.Common.{sym, ap, subst, ◌∙◌, arith}
use Rattle.std.proofs.lemmas.List.{same_lists}
use Rattle.std.proofs.lemmas.Option.{slice_get-get_or, get_or_from_slice_get}
use Rattle.linear_model.specs.Rows.{SameRow}
use Rattle.column_order.specs.Columns.{ColumnList}
use Rattle.table_model.specs.Conversion.{IsTable, Converts}
use Rattle.table_model.specs.ListedSpan.{count_of}
use Rattle.table_model.specs.ReducedRows.{IsUnbroken}
use Rattle.table_model.proofs.FirstFaults.{first_break}
use Rattle.table_model.proofs.ReducedRowsLaws.{reduced_rows_counts, reduced_rows_rows}
use Rattle.page_codec.specs.declared.params.Params.{Params}
use Rattle.file_model.specs.TableOf.{IsTableOf}
use Rattle.page_codec.specs.declared.parts.FinalEntry.{FinalEntry}
use Rattle.page_codec.specs.declared.page.Page.{Page}
use Rattle.file_model.specs.Pages.{Work, IsWork, IsFinalBlock, AreForwardPages, AreFinalPages, ArePages, forward_page, final_page}
use Rattle.page_codec.specs.declared.page.Page.TheVariants.{Header, Done}
use Rattle.file_model.specs.Pages.ArePages.{none, begun, whole}
use Rattle.file_model.proofs.WrittenRows.{written_unique}
use Rattle.file_model.proofs.ForwardPages.{forward_page_unique}

module _ (m : ℕ) (columns : ColumnList) (work : Work) (is_work : IsWork m columns work) (table : IsTable m columns) (converts : Converts m columns) where
  -- the first k forward pages, where the work is not broken in their blocks
  forward_pages_unique : (n k : ℕ) → IsUnbroken m columns work.sums n → ((b j : ℕ) → b < k → j < 64 * b + 64 → j < count_of columns → j < n)
      → (ps qs : List Page) → AreForwardPages m columns work k ps → AreForwardPages m columns work k qs → ps ≡ qs
  forward_pages_unique n k un low ps qs hp hq = same_lists ps qs (hp.as_many ∙ sym hq.as_many) (λ b d l.
      let inside : b < k = omega (arith, hp.as_many) in
      let (es, ep, fp) = hp.each b inside in
      let (fs, eq, fq) = hq.each b inside in
      get_or_from_slice_get ps b (forward_page (64 * b) es) d ep
      ∙ ap (forward_page (64 * b)) (forward_page_unique m columns work is_work table converts b n un (λ j. low b j inside) es fs fp fq)
      ∙ sym (get_or_from_slice_get qs b (forward_page (64 * b) fs) d eq))

  module _ (un : IsUnbroken m columns work.sums (count_of columns)) (count : ℕ) (rows others : ℕ → ℕ → ℕ)
      (same : (i : ℕ) → i < count → SameRow m (rows i) (others i)) where
    pub final_page_unique : (i : ℕ) (es fs : List FinalEntry) → IsFinalBlock m columns work count rows i es → IsFinalBlock m columns work count others i fs
        → es ≡ fs
    final_page_unique i es fs he hf = same_lists es fs (he.as_many ∙ sym hf.as_many) (λ k d l.
        let e : FinalEntry = get_or es k d in
        let f : FinalEntry = get_or fs k d in
        let r : (e.row ≡ f.row) × (e.combination ≡ f.combination) =
        written_unique m columns work is_work table converts (count_of columns) un (rows (64 * i + k))
        (others (64 * i + k)) e.row f.row e.combination f.combination (same (64 * i + k) (omega (arith, he.as_many)))
        (he.rows_are k e (slice_get-get_or es k d l)) (hf.rows_are k f (slice_get-get_or fs k d (omega (arith, he.as_many, hf.as_many)))) in
        λ z. record { row = r.0 z; combination = r.1 z })

    final_pages_unique : (ps qs : List Page) → AreFinalPages m columns work count rows ps → AreFinalPages m columns work count others qs → ps ≡ qs
    final_pages_unique ps qs hp hq = same_lists ps qs (hp.as_many ∙ sym hq.as_many) (λ i d l.
        let (es, ep, fp) = hp.each i l in
        let (fs, eq, fq) = hq.each i (omega (arith, hp.as_many, hq.as_many)) in
        get_or_from_slice_get ps i (final_page (64 * i) es) d ep ∙ ap (final_page (64 * i)) (final_page_unique i es fs fp fq)
        ∙ sym (get_or_from_slice_get qs i (final_page (64 * i) fs) d eq))

pub pages_unique : (params : Params) (columns : ColumnList) (work : Work) → IsWork params.modulus columns work → IsTableOf params columns
    → (ps qs : List Page) → ArePages params columns work ps → ArePages params columns work qs → ps ≡ qs
pages_unique params columns work is_work of ps qs (none a x) (none b y) = x ∙ sym y
pages_unique params columns work is_work of ps qs (none a x) (begun c n r l b f hf y) = absurd (a c)
pages_unique params columns work is_work of ps qs (none a x) (whole c un count lead rows h f g hf hg y) = absurd (a c)
pages_unique params columns work is_work of ps qs (begun c n r l b f hf x) (none a y) = absurd (a c)
pages_unique params columns work is_work of ps qs (begun c n r l b f hf x) (begun d k s j e g hg y) =
    let m : ℕ = params.modulus in
    let t : (n ≡ k) × (r ≡ s) = first_break m columns of.table work.sums is_work.sums c n k r s b e in
    let hg' : AreForwardPages m columns work (n / 64) g = subst (λ z. AreForwardPages m columns work (z / 64) g) (sym t.0) hg in
    x ∙ ap (λ z. Header params ∷ z) (forward_pages_unique m columns work is_work of.table c n (n / 64) b.1 (λ b j lb lj _. omega arith) f g hf hg') ∙ sym y
pages_unique params columns work is_work of ps qs (begun c n r l b f hf x) (whole d un count lead rows h g i hg hi y) = absurd (un n l r b.0)
pages_unique params columns work is_work of ps qs (whole c un count lead rows h f g hf hg x) (none a y) = absurd (a c)
pages_unique params columns work is_work of ps qs (whole c un count lead rows h f g hf hg x) (begun d n r l b i hi y) = absurd (un n l r b.0)
pages_unique params columns work is_work of ps qs (whole c un count lead rows h f g hf hg x) (whole d vn k other_lead others e i j hi hj y) =
    let m : ℕ = params.modulus in
    let same : count ≡ k = reduced_rows_counts m columns of.table work.sums (count_of columns) count k lead other_lead rows others h e in
    let forwards : f ≡ i = forward_pages_unique m columns work is_work of.table c (count_of columns) ((count_of columns + 63) / 64) un
    (λ b j lb lj ln. ln) f i hf hi in
    let finals : g ≡ j = final_pages_unique m columns work is_work of.table c un count rows others
    (reduced_rows_rows m columns of.table work.sums (count_of columns) count k lead other_lead rows others h e) g j hg
    (subst (λ z. AreFinalPages m columns work z others j) (sym same) hj) in
    x ∙ (λ z. Header params ∷ (forwards z ++ (finals z ++ Done (same z) ∷ []))) ∙ sym y
