-- All entries of the pages of parameters suit.
use Rattle.std.specs.Prelude.{◌≡◌, ◌≢◌, ℕ, suc, ◌+◌, ◌*◌, ◌<◌, ◌≤◌, Some, List, [], ◌∷◌, length, take, slice_get, get_or}
use Rattle.std.proofs.Common.{refl, sym, ◌∙◌, ap, subst, inl, inr, arith}
use Rattle.std.proofs.Math.ListN.{get_or-map}
use Rattle.std.specs.List.{AllByRecursion, Contains}
use Rattle.std.proofs.lemmas.Bool.{cases_lt}
use Rattle.std.proofs.lemmas.List.{length-map, length-take, get_or-take}
use Rattle.std.proofs.lemmas.Map.Keys.{below_from_sorted}
use Rattle.std.proofs.lemmas.Option.{slice_get_within, slice_get_read, get_or_from_slice_get}
use Rattle.zeta_model.specs.Sums.{Sum}
use Rattle.column_order.specs.Columns.{ColumnList}
use Rattle.page_codec.specs.declared.parts.ForwardEntry.{ForwardEntry}
use Rattle.page_codec.specs.declared.page.Page.{Page}
use Rattle.table_model.specs.Conversion.{IsTable, Converts}
use Rattle.table_model.specs.ListedSpan.{values_of, count_of}
use Rattle.table_model.specs.ReducedRows.{IsAccepted, IsBrokenAt}
use Rattle.file_model.specs.Pages.{numbers_of, IsForwardBlock, listed_work}
use Rattle.file_model.specs.Resuming.{entries_of_page, entries_of, Suits, AllSuit}
use Rattle.file_model.proofs.ListPlaces.{all_from_get, all_contains, contained_at, place_of}
use Rattle.file_model.proofs.NumberRanges.{IsRanged, AreRanged, AreInBlocks, in_blocks}
use Rattle.file_model.proofs.SamePages.{number_stands}
use Rattle.file_model.proofs.KeptPages.{IsEntry, FromBlock, first_page, later_pages, each_entry, each_number}
use Rattle.file_model.proofs.TrueEntries.{IsTrueEntry, true_entry, begins, clear, own, numbers_accepted}

module _ (m : ℕ) (columns : ColumnList) (table : IsTable m columns) (converts : Converts m columns) where
  abbrev V : ℕ → Sum
  V = values_of m columns

  block_numbers : (b : ℕ) (es : List ForwardEntry) → IsForwardBlock m columns (listed_work m columns) b es
      → AllByRecursion (λ n. (64 * b ≤ n) × (n < 64 * b + 64)) (numbers_of es)
  block_numbers b es block = all_from_get (λ n. (64 * b ≤ n) × (n < 64 * b + 64)) (numbers_of es) (λ k n at.
      let (is, from, to, few) = (block.whole n).0 (contained_at (numbers_of es) k n at) in (from, to))

  pages_ranged : (b : ℕ) (ps : List Page) → FromBlock m columns (listed_work m columns) b ps → AreRanged b ps
  pages_ranged b [] h = tt
  pages_ranged b (p ∷ ps) h =
      let (es, at, block) = first_page m columns (listed_work m columns) b p ps h in
      let own : IsRanged b (numbers_of es) = record { within = block_numbers b es block; rising = block.increasing } in
      (subst (λ x. IsRanged b (numbers_of (entries_of_page x))) (sym at) own, pages_ranged (suc b) ps (later_pages m columns (listed_work m columns) b p ps h))

  module _ (ps : List Page) (h : FromBlock m columns (listed_work m columns) 0 ps)
      (un : (k : ℕ) → k < 64 * length ps → k < count_of columns → (residue : ℕ) → ¬ (IsBrokenAt m columns V k residue)) where
    abbrev L : List ForwardEntry
    L = entries_of ps

    in_order : AreInBlocks 0 ps
    in_order = in_blocks 0 ps (pages_ranged 0 ps h)

    -- the number of the entry at a place
    number_at : (i : ℕ) (e : ForwardEntry) → slice_get L i ≡ Some e → get_or (numbers_of L) i e.number ≡ e.number
    number_at i e at =
        get_or-map (λ (f : ForwardEntry). f.number) L i e ∙ ap (λ (f : ForwardEntry). f.number) (get_or_from_slice_get L i e e at)

    -- entries at places that rise have numbers that rise
    number_less : (i j : ℕ) (e f : ForwardEntry) → slice_get L i ≡ Some e → slice_get L j ≡ Some f → i < j → e.number < f.number
    number_less i j e f at place l =
        let inside : j < length L = slice_get_within L j f place in
        let long : length (numbers_of L) ≡ length L = length-map L (λ (g : ForwardEntry). g.number) in
        let less : get_or (numbers_of L) i e.number < get_or (numbers_of L) j e.number =
        below_from_sorted (numbers_of L) i j e.number in_order.rising l (omega (arith, inside, long)) in
        let there : get_or (numbers_of L) j e.number ≡ f.number =
        get_or-map (λ (g : ForwardEntry). g.number) L j e ∙ ap (λ (g : ForwardEntry). g.number) (get_or_from_slice_get L j f e place) in
        omega (arith, less, number_at i e at, there)

    number_below : (e : ForwardEntry) → Contains L e → e.number < 64 * length ps
    number_below e (i, l, at) =
        let bounds = all_contains (λ n. (64 * 0 ≤ n) × (n < 64 * (0 + length ps))) (numbers_of L) in_order.within e.number
        (number_stands L i e (place_of L i e l at)) in
        omega (arith, bounds.1)

    entry_is : (e : ForwardEntry) → Contains L e → IsTrueEntry m columns table converts e
    entry_is e c =
        let is : IsEntry m columns table converts e = each_entry m columns table converts 0 ps h e c in
        let low : e.number < 64 * length ps = number_below e c in
        true_entry m columns table converts e is (λ k l. un k (omega (arith, l, low)) (omega (arith, l, is.few)))

    -- what stands among the first i entries stands there among all
    among_first : (i j : ℕ) (f : ForwardEntry) → slice_get (take i L) j ≡ Some f → (j < i) × (slice_get L j ≡ Some f)
    among_first i j f at =
        let inside : j < length (take i L) = slice_get_within (take i L) j f at in
        let l : j < i = omega (arith, inside, length-take i L) in
        let low : j < length L = omega (arith, inside, length-take i L) in
        let there : get_or L j f ≡ f = sym (get_or-take i L j f l) ∙ get_or_from_slice_get (take i L) j f f at in
        (l, slice_get_read L (length L) j f refl low (sym there))

    first_among : (i j : ℕ) (f : ForwardEntry) → slice_get L j ≡ Some f → j < i → slice_get (take i L) j ≡ Some f
    first_among i j f at l =
        let low : j < length L = slice_get_within L j f at in
        let inside : j < length (take i L) = omega (arith, l, low, length-take i L) in
        slice_get_read (take i L) (length (take i L)) j f refl inside (sym (get_or-take i L j f l ∙ get_or_from_slice_get L j f f at))

    suits : (i : ℕ) (e : ForwardEntry) → slice_get L i ≡ Some e → Suits m (take i L) e
    suits i e at =
        let c : Contains L e = contained_at L i e at in
        let t : IsTrueEntry m columns table converts e = entry_is e c in record {
          begins = begins m columns table converts e t;
          clear = λ j f place.
              let (l, there) = among_first i j f place in
              clear m columns table converts e f t (entry_is f (contained_at L j f there)) (number_less j i f e there at l);
          own = own m columns table converts e t;
          others = λ k some other. earlier k (numbers_accepted m columns table converts e t k some) other;
        }
      where
        earlier : (k : ℕ) → (k ≤ e.number) × IsAccepted m columns V k → k ≢ e.number → Contains (numbers_of (take i L)) k
        earlier k (l, is) other =
            let c : Contains L e = contained_at L i e at in
            let low : e.number < 64 * length ps = number_below e c in
            let own_entry : IsEntry m columns table converts e = each_entry m columns table converts 0 ps h e c in
            let (g, (j, lj, place), same) =
            each_number m columns table converts 0 ps h k is (omega (arith, l, own_entry.few)) (omega arith) (omega (arith, l, low)) in
            let there : slice_get L j ≡ Some g = slice_get_read L (length L) j g refl lj (sym place) in
            elim (cases_lt j i) [
              | inl early ↦ subst (Contains (numbers_of (take i L))) same (number_stands (take i L) j g (first_among i j g there early))
              | inr late ↦ absurd (not_late j g there late (omega (arith, l, same, not_same k l other)))
            ]
          where
            not_same : (k : ℕ) → k ≤ e.number → k ≢ e.number → k < e.number
            not_same k l other = omega (arith, l, other)

            not_late : (j : ℕ) (g : ForwardEntry) → slice_get L j ≡ Some g → i ≤ j → g.number < e.number → ⊥
            not_late j g there late less = elim (cases_lt i j) [
              | inl after ↦ let more : e.number < g.number = number_less i j e g at there after in omega (arith, more, less)
              | inr at_place ↦
                  let here : j ≡ i = omega (arith, late, at_place) in
                  let one : g ≡ e = sym (get_or_from_slice_get L j g e there) ∙ ap (λ n. get_or L n e) here ∙ get_or_from_slice_get L i e e at in
                  omega (arith, less, ap (λ (f : ForwardEntry). f.number) one)
            ]

    pub pages_suit : AllSuit m L
    pages_suit = suits
