-- Rows and combinations of elements, read out of entries.
use Rattle.std.proofs.Common.{◌≡◌, ℕ, zero, suc, ◌+◌, ◌<◌, Bool, List, [], ◌∷◌, ◌++◌, length, map, get_or, refl, sym, ap, subst, ◌∙◌, arith, append-nil, append_assoc, length-append}
use Rattle.std.specs.List.{AllByRecursion}
use Rattle.std.proofs.lemmas.List.{length-map}
use Rattle.std.proofs.Math.ListN.{get_or-map}
use Rattle.sparse_rows.specs.Entries.{IsBelow}
use Rattle.column_order.specs.Columns.{column_count}
use Rattle.page_codec.specs.declared.params.Params.{Params}
use Rattle.page_codec.specs.declared.parts.FinalEntry.{FinalEntry}
use Rattle.page_codec.specs.declared.page.Page.{Page}
use Rattle.page_codec.specs.declared.page.Page.TheVariants.{Header, Forward, Final, Done}
use Rattle.page_codec.specs.Bounds.{Chain, IsFinalEntry, IsPage}
use Rattle.page_codec.specs.Places.{FinalInTable, FitsPlace, row_count}
use Rattle.page_rows.specs.Written.{written, AreResidues}
use Rattle.page_rows.proofs.PagePairs.{row-residues, combination-residues, keys-below}
use Rattle.page_rows.proofs.Writing.{bound-written, entry_of-written}
use Rattle.echelon.specs.Lists.{lead_of, lead_at, row_at}
use Rattle.file_model.specs.FinalRows.{finals_of, finals_of_page, no_entry}
use Rattle.file_model.specs.Pages.{pairs_of}
use Rattle.cert_checker.specs.Verdicts.{AreWithin}
use Rattle.table_checker.specs.Inner.{IsReadable, IsRowIn, AreRowsOf}

abbrev row_of : FinalEntry → List (ℕ × ℕ)
row_of e = e.row

abbrev combination_of : FinalEntry → List (ℕ × ℕ)
combination_of e = e.combination

-- the entries of a page that fits can be read
module _ (params : Params) (n : ℕ) where
  abbrev Readable : FinalEntry → Type 0
  Readable = IsReadable (column_count params.weight params.depth) n params.modulus

  all_readable : (entries : List FinalEntry) → Chain (λ (s : Unit {0}) e. IsFinalEntry e) (λ s e. s) tt entries
      → AllByRecursion (FinalInTable params n) entries → AllByRecursion Readable entries
  all_readable [] are fit = tt
  all_readable (e ∷ es) are fit =
      let first : IsFinalEntry e = are.0 in
      let inside : FinalInTable params n e = fit.0 in (
        record {
          row = row-residues (column_count params.weight params.depth) params.modulus e.row first.row inside.row;
          row_below = keys-below (column_count params.weight params.depth) params.modulus e.row inside.row;
          combination = combination-residues n params.modulus e.combination first.combination inside.combination;
          combination_below = keys-below n params.modulus e.combination inside.combination;
        },
        all_readable es are.1 fit.1,
      )

  pub can_read : (before : List Page) (page : Page) → IsPage page → FitsPlace params n before page → AllByRecursion Readable (finals_of_page page)
  can_read before (Header p) is fits = tt
  can_read before (Forward p) is fits = tt
  can_read before (Final p) is fits = all_readable p.entries is.entries fits.entries
  can_read before (Done rows) is fits = tt

-- there are as many entries as the pages count
pub finals_counted : (pages : List Page) → length (finals_of pages) ≡ row_count pages
finals_counted [] = refl
finals_counted (Header p ∷ pages) = finals_counted pages
finals_counted (Forward p ∷ pages) = finals_counted pages
finals_counted (Final p ∷ pages) = length-append p.entries (finals_of pages) ∙ ap (λ n. length p.entries + n) (finals_counted pages)
finals_counted (Done rows ∷ pages) = finals_counted pages

all_at : {X : Type 0} (P : X → Type 0) (xs : List X) (d : X) (i : ℕ) → AllByRecursion P xs → i < length xs → P (get_or xs i d)
all_at P [] d i h l = absurd (omega arith)
all_at P (x ∷ xs) d zero h l = h.0
all_at P (x ∷ xs) d (suc i) h l = all_at P xs d i h.1 (omega arith)

module _ {E : Type 0} (nought : E) (has : E → Bool) (value : E → ℕ) where
  abbrev Rows : List FinalEntry → List (List (ℕ × E)) → List (List (ℕ × E)) → Type 0
  Rows = AreRowsOf nought has value

  pub no_rows : Rows [] [] []
  no_rows = record { rows_are = refl; combinations_are = refl; rows_in = tt; combinations_in = tt }

  module _ (m : ℕ) (all : List FinalEntry) (old olds : List (List (ℕ × E))) where
    -- some of the entries are read, and the rest is to be
    pub record Reading (rows combinations : List (List (ℕ × E))) (rest : List FinalEntry) : Type 0 where
      pub readable : (columns relations : ℕ) × AllByRecursion (IsReadable columns relations m) rest
      pub so_far : (before : List FinalEntry) → Rows before old olds
          → (done : List FinalEntry) × (done ++ rest ≡ before ++ all) × Rows done rows combinations

    pub reading_starts : (columns relations : ℕ) × AllByRecursion (IsReadable columns relations m) all → Reading old olds all
    reading_starts can = record { readable = can; so_far = λ before rows. (before, refl, rows) }

    module _ (rows combinations : List (List (ℕ × E))) (rest : List FinalEntry) (reading : Reading rows combinations rest) (e : FinalEntry)
        (behind : List FinalEntry) (begins : rest ≡ e ∷ behind) where
      next : (columns relations : ℕ) × AllByRecursion (IsReadable columns relations m) (e ∷ behind)
      next = subst (λ es. (columns relations : ℕ) × AllByRecursion (IsReadable columns relations m) es) begins reading.readable

      pub next_row : AreResidues (λ k. k) m e.row
      next_row = let first : IsReadable next.0 next.1 m e = next.2.0 in first.row

      pub next_combination : AreResidues (λ k. k) m e.combination
      next_combination = let first : IsReadable next.0 next.1 m e = next.2.0 in first.combination

      pub reads_on : (new others : List (List (ℕ × E)))
          → ((before : List FinalEntry) → Rows before rows combinations → Rows (before ++ e ∷ []) new others) → Reading new others behind
      reads_on new others pushed = record {
        readable = (next.0, next.1, next.2.1);
        so_far = λ before start.
            let (done, same, are) = reading.so_far before start in
            (done ++ e ∷ [], append_assoc done (e ∷ []) behind ∙ ap (λ es. done ++ es) (sym begins) ∙ same, pushed done are);
      }

    pub reading_ends : (rows combinations : List (List (ℕ × E))) (rest : List FinalEntry) → Reading rows combinations rest → length rest ≡ 0
        → (before : List FinalEntry) → Rows before old olds → Rows (before ++ all) rows combinations
    reading_ends rows combinations [] reading none before start =
        let (done, same, are) = reading.so_far before start in
        subst (λ es. Rows es rows combinations) (sym (append-nil done) ∙ same) are
    reading_ends rows combinations (e ∷ es) reading none before start = absurd (omega arith)

  module _ (entries : List FinalEntry) (rows combinations : List (List (ℕ × E))) (are : Rows entries rows combinations) where
    pub as_many_rows : length rows ≡ length entries
    as_many_rows = sym (length-map rows (written value)) ∙ ap length are.rows_are ∙ length-map entries row_of

    pub as_many : length combinations ≡ length rows
    as_many = sym (length-map combinations (written value)) ∙ ap length are.combinations_are ∙ length-map entries combination_of ∙ sym as_many_rows

    read-at : (f : FinalEntry → List (ℕ × ℕ)) (pairs : List (List (ℕ × E))) → map (written value) pairs ≡ map f entries → f no_entry ≡ [] → (i : ℕ)
        → written value (get_or pairs i []) ≡ f (get_or entries i no_entry)
    read-at f pairs same none i =
        sym (get_or-map (written value) pairs i []) ∙ (λ j. get_or (same j) i (sym none j)) ∙ get_or-map f entries i no_entry

    pub row-written : (i : ℕ) → written value (get_or rows i []) ≡ (get_or entries i no_entry).row
    row-written = read-at row_of rows are.rows_are refl

    pub combination-written : (i : ℕ) → written value (get_or combinations i []) ≡ (get_or entries i no_entry).combination
    combination-written = read-at combination_of combinations are.combinations_are refl

    lead-written : (row : List (ℕ × E)) → lead_of row ≡ lead_of (written value row)
    lead-written [] = refl
    lead-written (e ∷ es) = refl

    -- rows, combinations and leads are those of the entries
    pub same_rows : row_at value rows ≡ (λ i. pairs_of (get_or entries i no_entry).row)
    same_rows = λ j i col. (sym (entry_of-written (λ k. k) nought has value (get_or rows i []) col) ∙ ap (λ es. pairs_of es col) (row-written i)) j

    pub same_combinations : row_at value combinations ≡ (λ i. pairs_of (get_or entries i no_entry).combination)
    same_combinations = λ j i col.
        (sym (entry_of-written (λ k. k) nought has value (get_or combinations i []) col) ∙ ap (λ es. pairs_of es col) (combination-written i)) j

    pub same_leads : lead_at rows ≡ (λ i. lead_of (get_or entries i no_entry).row)
    same_leads = λ j i. (lead-written (get_or rows i []) ∙ ap lead_of (row-written i)) j

    module _ (columns relations m : ℕ) (readable : AllByRecursion (IsReadable columns relations m) entries) where
      entry_at : (i : ℕ) → i < length rows → IsReadable columns relations m (get_or entries i no_entry)
      entry_at i l = all_at (IsReadable columns relations m) entries no_entry i readable (omega (arith, l, as_many_rows))

      pub rows_within : AreWithin nought has columns rows
      rows_within = record {
        is_row = λ i l. let here = all_at (IsRowIn nought has) rows [] i are.rows_in l in here.is_row;
        below = λ i l.
            let entry = entry_at i l in
            (bound-written (λ k. k) nought has value (get_or rows i []) columns).0 (subst (IsBelow (λ k. k) columns) (sym (row-written i)) entry.row_below);
        in_ring = λ i l. let here = all_at (IsRowIn nought has) rows [] i are.rows_in l in here.in_ring;
      }

      pub combinations_within : AreWithin nought has relations combinations
      combinations_within = record {
        is_row = λ i l. let here = all_at (IsRowIn nought has) combinations [] i are.combinations_in l in here.is_row;
        below = λ i l.
            let entry = entry_at i (omega (arith, l, as_many)) in
            (bound-written (λ k. k) nought has value (get_or combinations i []) relations).0
            (subst (IsBelow (λ k. k) relations) (sym (combination-written i)) entry.combination_below);
        in_ring = λ i l. let here = all_at (IsRowIn nought has) combinations [] i are.combinations_in l in here.in_ring;
      }
