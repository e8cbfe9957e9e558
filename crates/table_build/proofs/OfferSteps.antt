-- What an offer answers, and what is known of the forward rows from then on.
use Rattle.std.specs.Prelude.{◌≡◌, ◌≢◌, ℕ, suc, ◌*◌, ◌%◌, ◌<◌, Bool, true, Some, List, [], ◌∷◌, ◌++◌, length, get_or, slice_get}
use Rattle.std.proofs.Common.{sym, ◌∙◌, ap, subst, arith, mod-eq_of_lt}
use Rattle.zeta_model.specs.declared.Letter.{Letter}
use Rattle.zeta_model.specs.Modular.{Same}
use Rattle.zeta_model.specs.Sums.{Sum}
use Rattle.column_order.specs.Columns.{ColumnList}
use Rattle.sparse_rows.specs.Entries.{AllIn}
use Rattle.word_sums.specs.Terms.{coefficient_of}
use Rattle.echelon.specs.Lists.{entries_of, row_at, AreForward}
use Rattle.echelon.specs.Offers.{HasNoInverse, TakesIn, used_at, InSpanOf}
use Rattle.echelon.specs.States.{Elimination}
use Rattle.echelon.specs.declared.row_echelon.Traced.{Traced}
use Rattle.echelon.specs.declared.row_echelon.Traced.TheVariants.{Zero, Accepted}
use Rattle.echelon.specs.Traces.{IfZero, IfAccepted, IsTrace}
use Rattle.relation_list.specs.declared.names.RelName.{RelName}
use Rattle.relation_list.specs.Listings.{listing_of}
use Rattle.relation_list.specs.Values.{value_of}
use Rattle.lyndon_polys.specs.Tables.{RingTable}
use Rattle.table_model.specs.Conversion.{IsCols}
use Rattle.table_model.specs.ListedSpan.{values_of, count_of}
use Rattle.table_build.specs.Inner.{Course, CanOffer, HasOffered, IsMadeOf}
use Rattle.table_build.proofs.NamedValues.{item_named, listed_value-named, count_is, same_cols}
use Rattle.table_build.proofs.Offerings.{offered_none, offered_one, offered_made}

module _ {R E : Type 0} (table : RingTable R) (names : List RelName) (kept : R) (e : Elimination R E) (n : ℕ) (can : CanOffer table names kept e n)
    (within : n < length names) where
  pub few_enough : n < count_of table.columns
  few_enough = omega (arith, within, count_is names table.columns can.names_are)

  -- the relation by its number
  pub the_name : (name : RelName) → name ≡ get_or names n name → slice_get (listing_of table.columns.weight table.columns.depth) n ≡ Some name
  the_name name is = item_named names table.columns.weight table.columns.depth n name can.names_are within is

  -- the coefficients of its value
  pub the_value : (m : ℕ) (name : RelName) (s : Sum) → name ≡ get_or names n name → ((t : List Letter) → s t ≡ value_of m name t % m)
      → (t : List Letter) → s t ≡ values_of m table.columns n t % m
  the_value m name s is same =
      subst (λ u. (t : List Letter) → s t ≡ u t % m)
      (sym (listed_value-named m table.columns.weight table.columns.depth n name (the_name name is))) same

  -- and its row
  pub the_row : (m : ℕ) (value : E → ℕ) (name : RelName) (sum : List (List Letter × E)) (p : ℕ → ℕ) → name ≡ get_or names n name
      → ((t : List Letter) → coefficient_of value sum t ≡ value_of m name t % m) → IsCols m table.columns (coefficient_of value sum) p
      → IsCols m table.columns (values_of m table.columns n) p
  the_row m value name sum p is same row =
      same_cols m table.columns (coefficient_of value sum) (values_of m table.columns n) p (the_value m name (coefficient_of value sum) is same) row

no_unit : (m a x : ℕ) → 1 < m → a ≡ 0 → ¬ (Same m (a * x) 1)
no_unit m a x big e h =
    let none : 0 * x ≡ 0 = omega arith in
    let left : a * x % m ≡ 0 % m = ap (λ y. y * x % m) e ∙ ap (λ y. y % m) none in
    let low : 0 % m ≡ 0 = mod-eq_of_lt (omega (arith, big)) in
    let one : 1 % m ≡ 1 = mod-eq_of_lt (omega (arith, big)) in
    omega (arith, left, h, low, one)

module _ {R E A : Type 0} (m : ℕ) (has : E → Bool) (value : E → ℕ) (zero : E) (cols n above : ℕ) (old new : Elimination R E) (p : ℕ → ℕ) where
  abbrev pub ZeroTold : Traced R E A → Type 0
  ZeroTold t = IfZero t (InSpanOf m value old.rows p × (new ≡ record old { above = above }))

  abbrev pub AcceptedTold : Traced R E A → Type 0
  AcceptedTold t = IfAccepted t (λ row scale uses. ¬ (InSpanOf m value old.rows p)
      × IsTrace m has value zero cols old.numbers old.rows p row scale uses
      × (new ≡ record old { above = above; numbers = old.numbers ++ n ∷ []; rows = old.rows ++ row ∷ [] }))

  pub accepted_told : 1 < m → value zero ≡ 0 → (t : Traced R E A) → AcceptedTold t
      → IfAccepted t (λ row scale uses. (new.numbers ≡ old.numbers ++ n ∷ []) × (new.rows ≡ old.rows ++ row ∷ []) × (has scale ≡ true) × (scale ≢ zero)
      × AllIn has uses × AllIn has row)
  accepted_told big nothing Zero h = tt
  accepted_told big nothing (Accepted row scale uses) (apart, trace, is) =
      let forward = trace.forward_row in
      let fits = trace.fits in (
        ap (λ e. e.numbers) is,
        ap (λ e. e.rows) is,
        trace.scale_in_ring,
        λ e. no_unit m (value scale) _ big (ap value e ∙ nothing) forward.inverse,
        trace.uses_in_ring,
        fits.in_ring,
      )

  module _ (columns : ColumnList) (course : Course) (so_far : HasOffered m value columns course n old.numbers old.rows) (few : n < count_of columns)
      (is_row : IsCols m columns (values_of m columns n) p) (fits : (lead : ℕ) → ¬ (HasNoInverse m value old.rows p lead)) where
    pub offered_told : TakesIn m value old.rows p new.rows → AreForward m value new.rows → (t : Traced R E A) → ZeroTold t → AcceptedTold t
        → HasOffered m value columns course (suc n) new.numbers new.rows
    offered_told taken list Zero (lies, is) h =
        let same : new.rows ≡ old.rows = ap (λ e. e.rows) is in
        subst (λ xs. HasOffered m value columns course (suc n) xs new.rows) (sym (ap (λ e. e.numbers) is))
        (subst (λ xs. HasOffered m value columns course (suc n) old.numbers xs) (sym same)
        (offered_none m value columns course n old.numbers old.rows so_far few p is_row fits lies (subst (TakesIn m value old.rows p) same taken)))
    offered_told taken list (Accepted row scale uses) h (apart, trace, is) =
        let same : new.rows ≡ old.rows ++ row ∷ [] = ap (λ e. e.rows) is in
        subst (λ xs. HasOffered m value columns course (suc n) xs new.rows) (sym (ap (λ e. e.numbers) is))
        (subst (λ xs. HasOffered m value columns course (suc n) (old.numbers ++ n ∷ []) xs) (sym same)
        (offered_one m value columns course n old.numbers old.rows so_far few p is_row fits row uses scale apart trace.forward_row
        (subst (TakesIn m value old.rows p) same taken) (subst (AreForward m value) same list)))

    pub made_told : (t : Traced R E A) → AcceptedTold t → IfAccepted t (λ row scale uses. IsMadeOf m columns course.work (suc n) (length old.rows)
        (row_at value old.rows) (entries_of value row) (entries_of value ((n, scale) ∷ [])) (used_at value old.numbers uses))
    made_told Zero h = tt
    made_told (Accepted row scale uses) (apart, trace, is) =
        offered_made m value columns course n old.numbers old.rows so_far few p is_row fits row uses scale apart trace.forward_row
