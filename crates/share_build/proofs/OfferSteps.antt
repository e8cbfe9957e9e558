-- The relations of a share, offered one after the other.
use Rattle.std.specs.Prelude.{◌≡◌, ℕ, ◌+◌, ◌*◌, ◌<◌, ◌≤◌, Bool, List, [], ◌∷◌, ◌++◌, length, get_or}
use Rattle.std.proofs.Common.{refl, sym, ◌∙◌, ap, subst, arith}
use Rattle.std.proofs.lemmas.List.{get_or_append_left}
use Rattle.linear_model.specs.Rows.{SameRow}
use Rattle.echelon.specs.declared.echelon.Offered.{Offered}
use Rattle.echelon.specs.declared.echelon.Offered.TheVariants.{Zero, Accepted}
use Rattle.echelon.specs.Lists.{entries_of, row_at}
use Rattle.echelon.specs.States.{Recorded, IsElimination}
use Rattle.echelon.specs.Offers.{InSpanOf, HasNoInverse, TakesIn, IsValueOf}
use Rattle.echelon.specs.Answers.{WhereZero, WhereAccepted, IsRecorded}
use Rattle.lyndon_polys.specs.Tables.{RingTable}
use Rattle.table_model.specs.Conversion.{IsTable, IsTableSum, Converts, IsCols}
use Rattle.table_model.specs.ListedSpan.{values_of, count_of}
use Rattle.table_model.specs.ReducedRows.{IsUnbroken, BreaksFirst}
use Rattle.table_model.proofs.CompleteRows.{listed_value-table}
use Rattle.table_model.proofs.RowWords.{cols_unique}
use Rattle.share_model.specs.declared.fault.ShareFault.{ShareFault}
use Rattle.share_model.specs.declared.fault.ShareFault.TheVariants.{NoInverseWord, NoInverseRelation, BadRow, NotReduced, Missing, Memory}
use Rattle.share_model.specs.Dealing.{share_values}
use Rattle.share_build.specs.Inner.{SpanFirst, IsCombinedOf, HasOffered, HasCause}
use Rattle.share_build.proofs.OfferedSums.{span_none, span_next, broken, unbroken_next}
use Rattle.share_build.proofs.KeptCombinations.{AreCombinedOf, length-last, last_one, each_grown, combined_later, combined_new}

-- another cause of the same refusal
pub other_cause : (P Q : ℕ → ℕ → Type 0) → ((value n : ℕ) → P value n → Q value n) → (fault : ShareFault) → HasCause P fault → HasCause Q fault
other_cause P Q f (NoInverseWord value word) h = h
other_cause P Q f (NoInverseRelation value n) h = f value n h
other_cause P Q f (BadRow i) h = h
other_cause P Q f (NotReduced i) h = h
other_cause P Q f (Missing n rest) h = h
other_cause P Q f (Memory fault) h = tt

-- each of the numbers is one of the first of the share
abbrev pub AreOfShare : ℕ → ℕ → ℕ → List ℕ → Type 0
AreOfShare index shares count numbers = (i : ℕ) → i < length numbers → (j : ℕ) × (j < count) × (get_or numbers i 0 ≡ index + shares * j)

module _ {R E : Type 0} (m : ℕ) (has : E → Bool) (value : E → ℕ) (zero : E) (n : ℕ) (old : Recorded R E) (p : List (ℕ × E)) where
  -- the value of a combination that is new is the forward row, where the others are the values of theirs
  abbrev pub ValueOfNew : List (ℕ × E) → List (ℕ × E) → Type 0
  ValueOfNew forward combination = (count : ℕ) (relations : ℕ → ℕ → ℕ) → n < count
      → ((i : ℕ) → i < length old.core.rows → IsValueOf m value count relations (get_or old.combinations i []) (row_at value old.core.rows i))
      → SameRow m (relations n) (entries_of value p) → IsValueOf m value count relations combination (entries_of value forward)

  module _ (A : Type 0) where
    -- what is told of a row that adds nothing
    abbrev pub ZeroTold : Recorded R E → Offered R E A → Type 0
    ZeroTold new t = WhereZero t (InSpanOf m value old.core.rows (entries_of value p) × (new ≡ record old { core = record old.core { above = n + 1 } }))

    -- what is told of one that is kept
    abbrev pub AcceptedTold : Recorded R E → Offered R E A → Type 0
    AcceptedTold new t = WhereAccepted t (λ forward combination. ¬ (InSpanOf m value old.core.rows (entries_of value p))
        × IsRecorded m has value zero old.core.columns old.core.rows old.combinations n (entries_of value p) forward combination
        × (new ≡ record {
          core = record old.core { above = n + 1; numbers = old.core.numbers ++ n ∷ []; rows = old.core.rows ++ forward ∷ [] };
          combinations = old.combinations ++ combination ∷ [];
        }))

    -- and of its value
    abbrev pub ValueTold : Offered R E A → Type 0
    ValueTold t = WhereAccepted t ValueOfNew

module _ {R E : Type 0} (m : ℕ) (has : E → Bool) (value : E → ℕ) (zero : E) (table : RingTable R) (index shares : ℕ) where
  pub sums-within : IsTable m table.columns → (k : ℕ) → IsTableSum m table.columns (share_values m table.columns index shares k)
  sums-within is_table k = listed_value-table m table.columns is_table (index + shares * k)

  -- before the first one nothing is kept
  pub offered_none : IsTable m table.columns → Converts m table.columns → (e : Recorded R E) (ring : R) (columns : ℕ)
      → e ≡ record { core = record { ring = ring; columns = columns; above = 0; numbers = []; rows = [] }; combinations = [] }
      → ring ≡ table.ring → columns ≡ length table.columns.list → columns ≤ 2048 → HasOffered m has value zero table index shares 0 e
  offered_none is_table converts e ring columns is same_ring same_columns few = subst (HasOffered m has value zero table index shares 0) (sym is) (record {
    is_table = is_table;
    converts = converts;
    ring = same_ring;
    columns = same_columns;
    above = omega arith;
    elimination = record {
      few = few;
      fit = λ i l. absurd (omega (arith, l));
      forward = record {
        one = λ i l. absurd (omega (arith, l));
        before = λ i j l. absurd (omega (arith, l));
        clear = λ i k l. absurd (omega (arith, l));
      };
      count = refl;
      rising = λ i k l lk. absurd (omega (arith, lk));
      below = λ i l. absurd (omega (arith, l));
    };
    count = refl;
    of_share = λ i l. absurd (omega (arith, l));
    span = span_none m value table.columns is_table converts (share_values m table.columns index shares) (sums-within is_table);
    unbroken = λ k l. absurd (omega (arith, l));
    combined = λ i l. absurd (omega (arith, l));
  })

  module _ (k : ℕ) (old : Recorded R E) (so_far : HasOffered m has value zero table index shares k old) (p : List (ℕ × E))
      (row : IsCols m table.columns (values_of m table.columns (index + shares * k)) (entries_of value p)) where
    -- where the elimination finds no inverse, the work is broken, first here
    pub offer_breaks : (lead : ℕ) → HasNoInverse m value old.core.rows (entries_of value p) lead
        → BreaksFirst m table.columns (share_values m table.columns index shares) k lead
    offer_breaks lead h = let elimination = so_far.elimination in (
      broken m value table.columns so_far.is_table so_far.converts (share_values m table.columns index shares) (sums-within so_far.is_table) k old.core.rows
          (entries_of value p) so_far.span row elimination.forward so_far.unbroken lead h,
      so_far.unbroken,
    )

    module _ (A : Type 0) (new : Recorded R E) where
      module _ (some : 0 < shares) (inside : index + shares * k < count_of table.columns)
          (fits : (lead : ℕ) → ¬ (HasNoInverse m value old.core.rows (entries_of value p) lead))
          (taken : TakesIn m value old.core.rows (entries_of value p) new.core.rows)
          (elimination : IsElimination m has value zero old.core.columns new.core.above new.core.numbers new.core.rows) where
        span : SpanFirst m value table.columns (share_values m table.columns index shares) (k + 1) new.core.rows
        span = span_next m value table.columns so_far.is_table so_far.converts (share_values m table.columns index shares) (sums-within so_far.is_table) k
            old.core.rows (entries_of value p) so_far.span row new.core.rows taken

        unbroken : IsUnbroken m table.columns (share_values m table.columns index shares) (k + 1)
        unbroken =
            let before = so_far.elimination in
            unbroken_next m value table.columns so_far.is_table so_far.converts (share_values m table.columns index shares) (sums-within so_far.is_table) k
            old.core.rows (entries_of value p) so_far.span row before.forward so_far.unbroken fits

        of_share_later : AreOfShare index shares (k + 1) old.core.numbers
        of_share_later i l = let (j, lj, is) = so_far.of_share i l in (j, omega (arith, lj), is)

        -- where the ring and the columns stay, and what is kept is known
        next_of : new.core.ring ≡ old.core.ring → new.core.columns ≡ old.core.columns → new.core.above ≡ index + shares * k + 1
            → length new.combinations ≡ length new.core.rows → AreOfShare index shares (k + 1) new.core.numbers
            → AreCombinedOf m value table.columns new.core.numbers new.core.rows new.combinations
            → HasOffered m has value zero table index shares (k + 1) new
        next_of ring columns above count of_share combined = record {
          is_table = so_far.is_table;
          converts = so_far.converts;
          ring = ring ∙ so_far.ring;
          columns = columns ∙ so_far.columns;
          above = omega (arith, above, some);
          elimination = subst (λ x. IsElimination m has value zero x new.core.above new.core.numbers new.core.rows) (sym columns) elimination;
          count = count;
          of_share = of_share;
          span = span;
          unbroken = unbroken;
          combined = combined;
        }

        -- each kept row is the value of its combination, the new one too
        combined_next : (forward combination : List (ℕ × E))
            → IsRecorded m has value zero old.core.columns old.core.rows old.combinations (index + shares * k) (entries_of value p) forward combination
            → ValueOfNew m has value zero (index + shares * k) old p forward combination
            → AreCombinedOf m value table.columns (old.core.numbers ++ (index + shares * k) ∷ []) (old.core.rows ++ forward ∷ [])
            (old.combinations ++ combination ∷ [])
        combined_next forward combination recorded told =
            let n = index + shares * k in
            let all : List (List (ℕ × E)) = old.combinations ++ combination ∷ [] in
            let here = combined_new m value table.columns old.core.numbers old.core.rows old.combinations so_far.count so_far.combined n recorded.scale
            recorded.factors forward combination recorded.combined
            (λ relations are. told (count_of table.columns) relations inside (λ i l. let h = so_far.combined i l in h.evaluates relations are)
            (cols_unique m table.columns so_far.is_table so_far.converts (values_of m table.columns n) (relations n) (entries_of value p) (are n inside)
            row)) in
            each_grown old.core.rows forward []
            (λ i x. IsCombinedOf m value table.columns (old.core.numbers ++ (index + shares * k) ∷ []) x (get_or all i []))
            (λ i l. subst (IsCombinedOf m value table.columns (old.core.numbers ++ (index + shares * k) ∷ []) (get_or old.core.rows i []))
            (sym (get_or_append_left old.combinations (combination ∷ []) [] i (omega (arith, l, so_far.count))))
            (combined_later m value table.columns old.core.numbers (index + shares * k) (get_or old.core.rows i []) (get_or old.combinations i [])
            (so_far.combined i l)))
            (subst (IsCombinedOf m value table.columns (old.core.numbers ++ (index + shares * k) ∷ []) forward)
            (sym (ap (λ i. get_or all i []) (sym so_far.count) ∙ last_one old.combinations combination [])) here)

        pub offered_next : (t : Offered R E A) → ZeroTold m has value zero (index + shares * k) old p A new t
            → AcceptedTold m has value zero (index + shares * k) old p A new t → ValueTold m has value zero (index + shares * k) old p A t
            → HasOffered m has value zero table index shares (k + 1) new
        offered_next Zero zero_told accepted value_told =
            let e = zero_told.1 in
            next_of (ap (λ s. s.core.ring) e) (ap (λ s. s.core.columns) e) (ap (λ s. s.core.above) e)
            (ap (λ s. length s.combinations) e ∙ so_far.count ∙ sym (ap (λ s. length s.core.rows) e))
            (subst (λ (s : Recorded R E). AreOfShare index shares (k + 1) s.core.numbers) (sym e) of_share_later)
            (subst (λ (s : Recorded R E). AreCombinedOf m value table.columns s.core.numbers s.core.rows s.combinations) (sym e) so_far.combined)
        offered_next (Accepted forward combination) zero_told accepted value_told =
            let e = accepted.2 in
            let n = index + shares * k in
            next_of (ap (λ s. s.core.ring) e) (ap (λ s. s.core.columns) e) (ap (λ s. s.core.above) e)
            (ap (λ s. length s.combinations) e ∙ length-last old.combinations combination ∙ ap (λ x. x + 1) so_far.count
            ∙ sym (length-last old.core.rows forward) ∙ sym (ap (λ s. length s.core.rows) e))
            (subst (λ (s : Recorded R E). AreOfShare index shares (k + 1) s.core.numbers) (sym e)
            (each_grown old.core.numbers n 0 (λ i x. (j : ℕ) × (j < k + 1) × (x ≡ index + shares * j)) of_share_later (k, omega arith, refl)))
            (subst (λ (s : Recorded R E). AreCombinedOf m value table.columns s.core.numbers s.core.rows s.combinations) (sym e)
            (combined_next forward combination accepted.1 value_told))
