-- The rows of the turns, offered one after the other.
use Rattle.std.specs.Prelude.{◌≡◌, ◌≢◌, ℕ, ◌+◌, ◌*◌, ◌%◌, ◌<◌, ◌≤◌, if◌then◌else◌, nat_eq, Bool, List, [], ◌∷◌, ◌++◌, length, get_or}
use Rattle.std.proofs.Common.{refl, sym, ◌∙◌, ap, subst, arith}
use Rattle.std.proofs.lemmas.Bool.{ne_eqb}
use Rattle.std.proofs.lemmas.List.{get_or_append_left}
use Rattle.zeta_model.specs.Modular.{Same}
use Rattle.zeta_model.proofs.ModularLemmas.{same-mul_left}
use Rattle.zeta_model.specs.Sums.{Sum}
use Rattle.linear_model.specs.Rows.{combination, SameRow}
use Rattle.linear_model.proofs.Totals.{total_vanishes, same-total}
use Rattle.linear_model.proofs.Spans.{combination-combination, same-combination}
use Rattle.column_order.specs.Columns.{column_count}
use Rattle.echelon.specs.declared.echelon.Offered.{Offered}
use Rattle.echelon.specs.declared.echelon.Offered.TheVariants.{Zero, Accepted}
use Rattle.echelon.specs.Lists.{entries_of, row_at}
use Rattle.echelon.specs.States.{Recorded, IsElimination}
use Rattle.echelon.specs.Offers.{HasNoInverse, TakesIn, IsCombined, IsValueOf}
use Rattle.echelon.specs.Answers.{IsRecorded}
use Rattle.lyndon_polys.specs.Tables.{RingTable}
use Rattle.table_model.specs.Conversion.{IsTable, IsTableSum, Converts, IsOver, IsCols}
use Rattle.table_model.specs.ReducedRows.{IsUnbroken, BreaksFirst}
use Rattle.table_model.proofs.RowWords.{words_of_row-table}
use Rattle.share_model.specs.Checked.{Checked}
use Rattle.share_build.specs.Inner.{SpanFirst}
use Rattle.share_build.proofs.OfferedSums.{span_none, span_next, broken, unbroken_next}
use Rattle.share_build.proofs.KeptCombinations.{length-last, last_one, each_grown}
use Rattle.share_build.proofs.OfferSteps.{ZeroTold, AcceptedTold, ValueTold, ValueOfNew}
use Rattle.share_merge.specs.Turns.{turns_of, turn_row, turn_words}
use Rattle.share_merge.specs.Inner.{turn_rows, IsSumOfTurns, HasOffered}

-- sums of combinations of the first turns
module _ {R E : Type 0} (m : ℕ) (value : E → ℕ) (list : List (Checked R E)) where
  -- each of the rows is the value of its combination of the first turns
  abbrev pub AreSumsOfTurns : ℕ → List (List (ℕ × E)) → List (List (ℕ × E)) → Type 0
  AreSumsOfTurns turns rows combinations =
      (i : ℕ) → i < length rows → IsSumOfTurns m value list turns (get_or rows i []) (get_or combinations i [])

  module _ (turns : ℕ) (rows combinations : List (List (ℕ × E))) (count : length combinations ≡ length rows)
      (each : AreSumsOfTurns turns rows combinations) where
    -- a sum of the combinations has none but the first turns
    sum_ends : (factors : ℕ → ℕ) (q : ℕ) → turns ≤ q → Same m (combination (length combinations) (row_at value combinations) factors q) 0
    sum_ends factors q l =
        total_vanishes m (length combinations) (λ i. factors i * row_at value combinations i q)
        (λ i li. let h = each i (omega (arith, li, count)) in
        same-mul_left m (row_at value combinations i q) 0 (factors i) (h.ends q l) ∙ ap (λ x. x % m) (omega arith))

    -- one turn more
    pub sum_of_new : (scale : ℕ) (factors : ℕ → ℕ) (row new : List (ℕ × E)) → IsCombined m value combinations turns scale factors new
        → IsValueOf m value (length (turns_of list)) (turn_rows value list) new (entries_of value row) → IsSumOfTurns m value list (turns + 1) row new
    sum_of_new scale factors row new combined is = record {
      ends = λ q l.
          let ne : turns ≢ q = omega (arith, l) in
          let other : nat_eq turns q ≡ _ = ne_eqb turns q ne in
          combined q
          ∙ ap (λ b. (scale * (if b then 1 else 0) + combination (length combinations) (row_at value combinations) factors q) % m) other
          ∙ ap (λ x. x % m) (let z : scale * 0 + combination (length combinations) (row_at value combinations) factors q
          ≡ combination (length combinations) (row_at value combinations) factors q = omega arith in z)
          ∙ sum_ends factors q (omega (arith, l));
      evaluates = is;
    }

    -- a row that is a sum of rows is the value of the same sum of their combinations
    pub sum_of_sums : (factors : ℕ → ℕ) (row sum : List (ℕ × E)) → SameRow m (entries_of value row) (combination (length rows) (row_at value rows) factors)
        → SameRow m (entries_of value sum) (combination (length combinations) (row_at value combinations) factors)
        → IsSumOfTurns m value list turns row sum
    sum_of_sums factors row sum row_is sum_is = record {
      ends = λ q l. sum_is q ∙ sum_ends factors q l;
      evaluates = λ col.
          let k = length rows in
          let n = length (turns_of list) in
          let relations = turn_rows value list in
          let values : ℕ → ℕ → ℕ = λ i. combination n relations (row_at value combinations i) in
          row_is col
          ∙ same-total m k (λ i. factors i * row_at value rows i col) (λ i. factors i * values i col)
          (λ i l. let h = each i l in same-mul_left m (row_at value rows i col) (values i col) (factors i) (h.evaluates col))
          ∙ ap (λ x. x % m) (combination-combination k n factors (row_at value combinations) relations col)
          ∙ ap (λ x. combination n relations (combination x (row_at value combinations) factors) col % m) (sym count)
          ∙ same-combination m n relations (combination (length combinations) (row_at value combinations) factors) (entries_of value sum)
          (λ i l. sym (sum_is i)) col;
    }

  -- with more turns too
  pub sum_later : (turns : ℕ) (row combination : List (ℕ × E)) → IsSumOfTurns m value list turns row combination
      → IsSumOfTurns m value list (turns + 1) row combination
  sum_later turns row combination h = record { ends = λ q l. h.ends q (omega (arith, l)); evaluates = h.evaluates }

module _ {R E : Type 0} (m : ℕ) (has : E → Bool) (value : E → ℕ) (zero : E) (table : RingTable R) (list : List (Checked R E)) where
  pub words-within : IsTable m table.columns → (k : ℕ) → IsTableSum m table.columns (turn_words value table.columns list k)
  words-within is_table k = words_of_row-table m table.columns is_table (entries_of value (turn_row list k))

  -- before the first turn nothing is kept
  pub offered_none : IsTable m table.columns → Converts m table.columns → (e : Recorded R E) (ring : R) (columns : ℕ)
      → e ≡ record { core = record { ring = ring; columns = columns; above = 0; numbers = []; rows = [] }; combinations = [] }
      → ring ≡ table.ring → columns ≡ length table.columns.list → columns ≤ 2048
      → column_count table.columns.weight table.columns.depth ≤ 2048 → HasOffered m has value zero table list 0 e
  offered_none is_table converts e ring columns is same_ring same_columns few counted = subst (HasOffered m has value zero table list 0) (sym is) (record {
    is_table = is_table;
    converts = converts;
    ring = same_ring;
    columns = same_columns;
    few = counted;
    above = omega arith;
    elimination = record {
      few = few;
      fit = λ i l. absurd (omega (arith, l));
      forward = record {
        one = λ i l. absurd (omega (arith, l));
        before = λ i j l. absurd (omega (arith, l));
        clear = λ i k l. absurd (omega (arith, l));
      };
      count = refl;
      rising = λ i k l lk. absurd (omega (arith, lk));
      below = λ i l. absurd (omega (arith, l));
    };
    count = refl;
    span = span_none m value table.columns is_table converts (turn_words value table.columns list) (words-within is_table);
    unbroken = λ k l. absurd (omega (arith, l));
    combined = λ i l. absurd (omega (arith, l));
  })

  module _ (t : ℕ) (old : Recorded R E) (so_far : HasOffered m has value zero table list t old) (p : List (ℕ × E)) (is_turn : p ≡ turn_row list t)
      (over : IsOver m table.columns (entries_of value (turn_row list t))) where
    abbrev words : ℕ → Sum
    words = turn_words value table.columns list

    row : IsCols m table.columns (turn_words value table.columns list t) (entries_of value p)
    row = subst (λ es. IsCols m table.columns (turn_words value table.columns list t) (entries_of value es)) (sym is_turn)
        (record { over = over; words = λ w. refl })

    -- where the elimination finds no inverse, the work is broken, first here
    pub offer_breaks : (lead : ℕ) → HasNoInverse m value old.core.rows (entries_of value p) lead
        → BreaksFirst m table.columns (turn_words value table.columns list) t lead
    offer_breaks lead h = let elimination = so_far.elimination in (
      broken m value table.columns so_far.is_table so_far.converts words (words-within so_far.is_table) t old.core.rows
          (entries_of value p) so_far.span row elimination.forward so_far.unbroken lead h,
      so_far.unbroken,
    )

    module _ (A : Type 0) (new : Recorded R E) (inside : t < length (turns_of list))
        (fits : (lead : ℕ) → ¬ (HasNoInverse m value old.core.rows (entries_of value p) lead))
        (taken : TakesIn m value old.core.rows (entries_of value p) new.core.rows)
        (elimination : IsElimination m has value zero old.core.columns new.core.above new.core.numbers new.core.rows) where
      span : SpanFirst m value table.columns (turn_words value table.columns list) (t + 1) new.core.rows
      span = span_next m value table.columns so_far.is_table so_far.converts words (words-within so_far.is_table) t
          old.core.rows (entries_of value p) so_far.span row new.core.rows taken

      unbroken : IsUnbroken m table.columns (turn_words value table.columns list) (t + 1)
      unbroken =
          let before = so_far.elimination in
          unbroken_next m value table.columns so_far.is_table so_far.converts words (words-within so_far.is_table) t
          old.core.rows (entries_of value p) so_far.span row before.forward so_far.unbroken fits

      -- where the ring and the columns stay, and what is kept is known
      next_of : new.core.ring ≡ old.core.ring → new.core.columns ≡ old.core.columns → new.core.above ≡ t + 1
          → length new.combinations ≡ length new.core.rows → AreSumsOfTurns m value list (t + 1) new.core.rows new.combinations
          → HasOffered m has value zero table list (t + 1) new
      next_of ring columns above count combined = record {
        is_table = so_far.is_table;
        converts = so_far.converts;
        ring = ring ∙ so_far.ring;
        columns = columns ∙ so_far.columns;
        few = so_far.few;
        above = omega (arith, above);
        elimination = subst (λ x. IsElimination m has value zero x new.core.above new.core.numbers new.core.rows) (sym columns) elimination;
        count = count;
        span = span;
        unbroken = unbroken;
        combined = combined;
      }

      later : AreSumsOfTurns m value list (t + 1) old.core.rows old.combinations
      later i l = sum_later m value list t (get_or old.core.rows i []) (get_or old.combinations i []) (so_far.combined i l)

      -- each kept row is the value of its combination, the new one too
      combined_next : (forward combination : List (ℕ × E))
          → IsRecorded m has value zero old.core.columns old.core.rows old.combinations t (entries_of value p) forward combination
          → ValueOfNew m has value zero t old p forward combination
          → AreSumsOfTurns m value list (t + 1) (old.core.rows ++ forward ∷ []) (old.combinations ++ combination ∷ [])
      combined_next forward combination recorded told =
          let all : List (List (ℕ × E)) = old.combinations ++ combination ∷ [] in
          let here = sum_of_new m value list t old.core.rows old.combinations so_far.count so_far.combined recorded.scale recorded.factors forward combination
          recorded.combined
          (told (length (turns_of list)) (turn_rows value list) inside (λ i l. let h = so_far.combined i l in h.evaluates)
          (λ col. ap (λ es. entries_of value es col % m) (sym is_turn))) in
          each_grown old.core.rows forward [] (λ i x. IsSumOfTurns m value list (t + 1) x (get_or all i []))
          (λ i l. subst (IsSumOfTurns m value list (t + 1) (get_or old.core.rows i []))
          (sym (get_or_append_left old.combinations (combination ∷ []) [] i (omega (arith, l, so_far.count)))) (later i l))
          (subst (IsSumOfTurns m value list (t + 1) forward)
          (sym (ap (λ i. get_or all i []) (sym so_far.count) ∙ last_one old.combinations combination [])) here)

      pub offered_next : (o : Offered R E A) → ZeroTold m has value zero t old p A new o → AcceptedTold m has value zero t old p A new o
          → ValueTold m has value zero t old p A o → HasOffered m has value zero table list (t + 1) new
      offered_next Zero zero_told accepted value_told =
          let e = zero_told.1 in
          next_of (ap (λ s. s.core.ring) e) (ap (λ s. s.core.columns) e) (ap (λ s. s.core.above) e)
          (ap (λ s. length s.combinations) e ∙ so_far.count ∙ sym (ap (λ s. length s.core.rows) e))
          (subst (λ (s : Recorded R E). AreSumsOfTurns m value list (t + 1) s.core.rows s.combinations) (sym e) later)
      offered_next (Accepted forward combination) zero_told accepted value_told =
          let e = accepted.2 in
          next_of (ap (λ s. s.core.ring) e) (ap (λ s. s.core.columns) e) (ap (λ s. s.core.above) e)
          (ap (λ s. length s.combinations) e ∙ length-last old.combinations combination ∙ ap (λ x. x + 1) so_far.count
          ∙ sym (length-last old.core.rows forward) ∙ sym (ap (λ s. length s.core.rows) e))
          (subst (λ (s : Recorded R E). AreSumsOfTurns m value list (t + 1) s.core.rows s.combinations) (sym e)
          (combined_next forward combination accepted.1 value_told))
