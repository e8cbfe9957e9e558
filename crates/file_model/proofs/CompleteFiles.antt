-- The final rows of the file of parameters are complete.
use Rattle.std.specs.Prelude.{◌≡◌, ℕ, suc, ◌+◌, ◌-◌, ◌*◌, ◌/◌, ◌%◌, ◌<◌, min, Some, List, [], ◌∷◌, ◌++◌, length, slice_get, get_or}
use Rattle.std.proofs.Common.{refl, sym, ◌∙◌, ap, subst, inl, inr, arith}
use Rattle.std.specs.List.{AllByRecursion}
use Rattle.std.proofs.lemmas.Bool.{cases_lt}
use Rattle.std.proofs.lemmas.List.{append_assoc, append-nil, length-append, get_or_append_left, get_or-append_right}
use Rattle.std.proofs.lemmas.Option.{slice_get_read, slice_get-get_or, get_or_from_slice_get}
use Rattle.zeta_model.proofs.ModularLemmas.{same-mul_left, same-mod}
use Rattle.linear_model.specs.Rows.{combination, SameRow}
use Rattle.linear_model.proofs.Totals.{same-total}
use Rattle.column_order.specs.Columns.{ColumnList}
use Rattle.table_model.specs.Conversion.{Converts}
use Rattle.table_model.specs.ListedSpan.{values_of, count_of}
use Rattle.table_model.specs.ReducedRows.{IsReducedRows, IsUnbroken}
use Rattle.table_model.specs.Complete.{IsComplete}
use Rattle.table_model.proofs.SumSpans.{same-sum_combination}
use Rattle.table_model.proofs.RowWords.{same-words_of_row}
use Rattle.table_model.proofs.CombinationLaws.{reduced_rows_are_complete}
use Rattle.page_codec.specs.declared.params.Params.{Params}
use Rattle.file_model.specs.TableOf.{IsTableOf}
use Rattle.page_codec.specs.declared.parts.FinalEntry.{FinalEntry}
use Rattle.page_codec.specs.declared.page.Page.{Page}
use Rattle.file_model.specs.Pages.{Work, IsWritten, IsFinalBlock, AreForwardPages, AreFinalPages, ArePages, listed_work, forward_page, final_page}
use Rattle.page_codec.specs.declared.page.Page.TheVariants.{Header, Done}
use Rattle.file_model.specs.Pages.ArePages.{none, begun, whole}
use Rattle.file_model.specs.Prefixes.{IsPages, IsSound}
use Rattle.file_model.specs.FinalRows.{finals_of_page, finals_of, no_entry, final_row, final_combination, AreComplete}
use Rattle.file_model.proofs.ParamColumns.{same_columns}
use Rattle.file_model.proofs.ListPlaces.{all_from_places}

-- rows that agree with reduced rows modulo m are these rows
pub same_reduced_rows : (m : ℕ) (columns : ColumnList) (sums : ℕ → _) (n count : ℕ) (lead : ℕ → ℕ) (rows others : ℕ → ℕ → ℕ)
    → ((i : ℕ) → i < count → SameRow m (others i) (rows i)) → IsReducedRows m columns sums n count lead rows
    → IsReducedRows m columns sums n count lead others
same_reduced_rows m columns sums n count lead rows others e h =
    let r = h.reduced in record {
      reduced = record {
        one = λ i l. e i l (lead i) ∙ r.one i l;
        before = λ i j l lj. e i l j ∙ r.before i j l lj;
        rising = r.rising;
        clear = λ i k l lk ne. e i l (lead k) ∙ r.clear i k l lk ne;
      };
      over = λ i l col past. e i l col ∙ h.over i l col past;
      whole = λ p o. (
        λ (c, is). (h.whole p o).0 (c, λ col. is col ∙ same c col),
        λ s. let (c, is) = (h.whole p o).1 s in
            (c, λ col. is col ∙ sym (same c col)),
      );
    }
  where
    same : (c : ℕ → ℕ) → SameRow m (combination count others c) (combination count rows c)
    same c col = same-total m count _ _ (λ i l. same-mul_left m (others i col) (rows i col) (c i) (e i l col))

pub finals_of-append : (ps qs : List Page) → finals_of (ps ++ qs) ≡ finals_of ps ++ finals_of qs
finals_of-append [] qs = refl
finals_of-append (p ∷ ps) qs = ap (λ es. finals_of_page p ++ es) (finals_of-append ps qs)
    ∙ sym (append_assoc (finals_of_page p) (finals_of ps) (finals_of qs))

no_finals : (ps : List Page) → AllByRecursion (λ p. finals_of_page p ≡ []) ps → finals_of ps ≡ []
no_finals [] h = refl
no_finals (p ∷ ps) h = (λ i. h.0 i ++ finals_of ps) ∙ no_finals ps h.1

module _ (m : ℕ) (columns : ColumnList) (work : Work) (count : ℕ) (rows : ℕ → ℕ → ℕ) where
  -- final pages from page i on
  abbrev pub FromPage : ℕ → List Page → Type 0
  FromPage i gs = (k : ℕ) → k < length gs → (es : List FinalEntry) × (slice_get gs k ≡ Some (final_page (64 * (i + k)) es))
      × IsFinalBlock m columns work count rows (i + k) es

  pub first_final : (i : ℕ) (g : Page) (gs : List Page) → FromPage i (g ∷ gs)
      → (es : List FinalEntry) × (g ≡ final_page (64 * i) es) × IsFinalBlock m columns work count rows i es
  first_final i g gs h =
      let (es, at, is) = h 0 (omega arith) in
      let same : i + 0 ≡ i = omega arith in (
        es,
        get_or_from_slice_get (g ∷ gs) 0 (final_page (64 * (i + 0)) es) g at ∙ ap (λ x. final_page (64 * x) es) same,
        subst (λ x. IsFinalBlock m columns work count rows x es) same is,
      )

  pub later_finals : (i : ℕ) (g : Page) (gs : List Page) → FromPage i (g ∷ gs) → FromPage (suc i) gs
  later_finals i g gs h k l =
      let (es, at, is) = h (suc k) (omega (arith, l)) in
      let same : i + suc k ≡ suc i + k = omega arith in
      let page : Page = final_page (64 * (i + suc k)) es in
      let there : get_or gs k page ≡ page = get_or_from_slice_get (g ∷ gs) (suc k) page page at in (
        es,
        slice_get_read gs (length gs) k page refl l (sym there) ∙ ap (λ x. Some (final_page (64 * x) es)) same,
        subst (λ x. IsFinalBlock m columns work count rows x es) same is,
      )

  finals_count : (i : ℕ) (gs : List Page) → FromPage i gs → length gs ≡ (count - 64 * i + 63) / 64 → length (finals_of gs) ≡ count - 64 * i
  finals_count i [] h size = omega (arith, size)
  finals_count i (g ∷ gs) h size =
      let (es, at, is) = first_final i g gs h in
      let later : length (finals_of gs) ≡ count - 64 * suc i = finals_count (suc i) gs (later_finals i g gs h) (omega (arith, size)) in
      omega (arith, length-append (finals_of_page g) (finals_of gs), ap (λ p. length (finals_of_page p)) at, is.as_many, later)

  finals_written : (i : ℕ) (gs : List Page) → FromPage i gs → length gs ≡ (count - 64 * i + 63) / 64 → (j : ℕ) → j < count - 64 * i
      → IsWritten m columns work (count_of columns) (rows (64 * i + j)) (get_or (finals_of gs) j no_entry).row
      (get_or (finals_of gs) j no_entry).combination
  finals_written i [] h size j l = absurd (omega (arith, size, l))
  finals_written i (g ∷ gs) h size j l =
      let (es, at, is) = first_final i g gs h in
      let many : length (finals_of_page g) ≡ min 64 (count - 64 * i) = ap (λ p. length (finals_of_page p)) at ∙ is.as_many in
      elim (cases_lt j (length (finals_of_page g))) [
        | inl here ↦
            let e : FinalEntry = get_or es j no_entry in
            let same : e ≡ get_or (finals_of (g ∷ gs)) j no_entry =
            ap (λ p. get_or (finals_of_page p) j no_entry) (sym at) ∙ sym (get_or_append_left (finals_of_page g) (finals_of gs) no_entry j here) in
            subst (λ (x : FinalEntry). IsWritten m columns work (count_of columns) (rows (64 * i + j)) x.row x.combination) same
            (is.rows_are j e (slice_get-get_or es j no_entry (omega (arith, here, ap (λ p. length (finals_of_page p)) at))))
        | inr there ↦
            let k : ℕ = j - length (finals_of_page g) in
            let size_is : j ≡ length (finals_of_page g) + k = omega (arith, there) in
            let same : get_or (finals_of gs) k no_entry ≡ get_or (finals_of (g ∷ gs)) j no_entry =
            sym (get_or-append_right (finals_of_page g) (finals_of gs) (length (finals_of_page g)) j no_entry refl there) in
            let row : 64 * suc i + k ≡ 64 * i + j = omega (arith, many, there, l, size_is) in
            subst (λ (x : FinalEntry). IsWritten m columns work (count_of columns) (rows (64 * i + j)) x.row x.combination) same
            (subst (λ z. IsWritten m columns work (count_of columns) (rows z) (get_or (finals_of gs) k no_entry).row
            (get_or (finals_of gs) k no_entry).combination) row
            (finals_written (suc i) gs (later_finals i g gs h) (omega (arith, size)) k (omega (arith, many, there, l, size_is))))
      ]

-- the final rows of pages of work that is not broken are complete
pub whole_pages_complete : (params : Params) (columns : ColumnList) → IsTableOf params columns → Converts params.modulus columns
    → (count : ℕ) (lead : ℕ → ℕ) (rows : ℕ → ℕ → ℕ) → IsReducedRows params.modulus columns (values_of params.modulus columns)
    (count_of columns) count lead rows
    → (n : ℕ) (f g : List Page) → AreForwardPages params.modulus columns (listed_work params.modulus columns) n f
    → AreFinalPages params.modulus columns (listed_work params.modulus columns) count rows g
    → AreComplete params (Header params ∷ (f ++ (g ++ Done count ∷ [])))
whole_pages_complete params columns of converts count lead rows h n f g hf hg =
    let m : ℕ = params.modulus in
    let ps : List Page = Header params ∷ (f ++ (g ++ Done count ∷ [])) in
    let from : FromPage m columns (listed_work m columns) count rows 0 g = λ k l. let (es, at, is) = hg.each k l in let same : k ≡ 0 + k = omega arith in
    (es, at ∙ ap (λ x. Some (final_page (64 * x) es)) same, subst (λ x. IsFinalBlock m columns (listed_work m columns) count rows x es) same is) in
    let size : length g ≡ (count - 64 * 0 + 63) / 64 = omega (arith, hg.as_many) in
    let plain : finals_of f ≡ [] = no_finals f (all_from_places (λ p. finals_of_page p ≡ []) f
    (λ k l. let (es, at, is) = hf.each k (omega (arith, l, hf.as_many)) in (forward_page (64 * k) es, at, refl))) in
    let finals : finals_of ps ≡ finals_of g =
    finals_of-append f (g ++ Done count ∷ []) ∙ ap (λ es. es ++ finals_of (g ++ Done count ∷ [])) plain ∙ finals_of-append g (Done count ∷ [])
    ∙ append-nil (finals_of g) in
    let as_many : length (finals_of ps) ≡ count = ap length finals ∙ finals_count m columns (listed_work m columns) count rows 0 g from size ∙ omega arith in
    let each : (i : ℕ) → i < count → IsWritten m columns (listed_work m columns) (count_of columns) (rows i) (get_or (finals_of ps) i no_entry).row
    (get_or (finals_of ps) i no_entry).combination = λ i l.
    let same : 64 * 0 + i ≡ i = omega arith in
    subst (λ (es : List FinalEntry). IsWritten m columns (listed_work m columns) (count_of columns) (rows i) (get_or es i no_entry).row
    (get_or es i no_entry).combination) (sym finals)
    (subst (λ z. IsWritten m columns (listed_work m columns) (count_of columns) (rows z) (get_or (finals_of g) i no_entry).row
    (get_or (finals_of g) i no_entry).combination) same (finals_written m columns (listed_work m columns) count rows 0 g from size i (omega (arith, l)))) in
    let agree : (i : ℕ) → i < count → SameRow m (final_row ps i) (rows i) = λ i l q. let w = each i l in let r = w.is_row in
    ap (λ x. x % m) (sym (r.residues q)) ∙ same-mod m (rows i q) in
    let reduced : IsReducedRows m columns (values_of m columns) (count_of columns) count lead (final_row ps) =
    same_reduced_rows m columns (values_of m columns) (count_of columns) count lead rows (final_row ps) agree h in
    let complete : IsComplete m columns count lead (final_row ps) (final_combination ps) =
    reduced_rows_are_complete m columns of.table converts count lead (final_row ps) (final_combination ps) reduced (λ i l t.
    let w = each i l in let c = w.is_combination in let x = w.is_written in
    same-words_of_row m columns (final_row ps i) (rows i) (agree i l) t ∙ c.evaluates t
    ∙ same-sum_combination m (count_of columns) (values_of m columns) (values_of m columns) w.coefficients (final_combination ps i)
    (λ j _. sym (same-mod m (w.coefficients j)) ∙ ap (λ x. x % m) (x.residues j)) (λ j _ t. refl) t) in
    record {
      columns = columns;
      are_columns = of;
      lead = lead;
      complete =
          subst (λ k. IsComplete m columns k lead (final_row ps) (final_combination ps)) (sym as_many) complete;
    }

-- the pages of parameters whose table converts and whose work is not broken are complete
pub pages_complete : (params : Params) → IsSound params → (pages : List Page) → IsPages params pages → AreComplete params pages
pages_complete params sound pages h = go h.columns h.are_columns h.are_pages (same_columns params sound.columns h.columns sound.are_columns h.are_columns)
  where
    go : (columns : ColumnList) → IsTableOf params columns → ArePages params columns (listed_work params.modulus columns) pages → sound.columns ≡ columns
        → AreComplete params pages
    go columns of (none a x) e = absurd (a (subst (Converts params.modulus) e sound.converts))
    go columns of (begun c n r l b f hf x) e = absurd
        (subst (λ k. IsUnbroken params.modulus k (values_of params.modulus k) (count_of k)) e sound.unbroken n l r b.0)
    go columns of (whole c un count lead rows h f g hf hg x) e =
        subst (AreComplete params) (sym x) (whole_pages_complete params columns of c count lead rows h ((count_of columns + 63) / 64) f g hf hg)
