-- A combination of turns is expanded pair by pair.
use Rattle.std.specs.Prelude.{◌≡◌, ◌≢◌, ℕ, ◌+◌, ◌*◌, ◌%◌, ◌<◌, ◌≤◌, Bool, true, cond, nat_eq, if◌then◌else◌, List, [], ◌∷◌, length, map, All}
use Rattle.std.proofs.Common.{refl, sym, ◌∙◌, ap, subst, arith, mod-eq_of_lt}
use Rattle.std.proofs.lemmas.Bool.{eq-eqb, ne_eqb}
use Rattle.std.proofs.lemmas.List.{get_or_past, length-map}
use Rattle.zeta_model.specs.Modular.{Same}
use Rattle.zeta_model.proofs.ModularLemmas.{same-mod, same-add_left, same-add_right}
use Rattle.linear_model.specs.Rows.{combination, SameRow}
use Rattle.linear_model.proofs.Totals.{total_vanishes, total_one_term}
use Rattle.linear_model.proofs.Combinations.{combination-add}
use Rattle.column_order.specs.Columns.{ColumnList}
use Rattle.sparse_rows.specs.Entries.{IsRow, IsBelow, AllIn}
use Rattle.row_sums.specs.Totals.{total_at}
use Rattle.echelon.specs.Lists.{entries_of}
use Rattle.table_model.specs.ListedSpan.{count_of}
use Rattle.share_model.specs.Checked.{Checked}
use Rattle.share_merge.specs.Turns.{turns_of}
use Rattle.share_merge.proofs.EntryBounds.{below_by_entries}
use Rattle.share_merge.specs.Inner.{turn_combination, turn_combinations, IsExpanded}

module _ {R E : Type 0} (m : ℕ) (has : E → Bool) (value : E → ℕ) (list : List (Checked R E)) where
  abbrev whole : List (ℕ × E) → ℕ → ℕ
  whole pairs = combination (length (turns_of list)) (turn_combinations value list) (entries_of value pairs)

  -- what the sum has, and what the pairs that are left add, is the whole
  pub record IsExpanding {A : Type 0} (is_sum : A → Type 0) (total : A → ℕ) (relations : ℕ) (turns rest : List (ℕ × E)) (sums : List A) : Type 0 where
    pub all : All is_sum sums
    pub len : length sums ≡ relations
    pub in_ring : AllIn has rest
    pub below : IsBelow (λ k. k) (length (turns_of list)) rest
    pub told : (q : ℕ) → Same m (total_at total sums q + combination (length (turns_of list)) (turn_combinations value list) (entries_of value rest) q)
        (combination (length (turns_of list)) (turn_combinations value list) (entries_of value turns) q)

  -- a pair adds the combination of its turn, times its residue
  pair_adds : (t : ℕ) (e : E) (rest : List (ℕ × E)) (q : ℕ) → t < length (turns_of list)
      → Same m (value e * turn_combinations value list t q + whole rest q) (whole ((t, e) ∷ rest) q)
  pair_adds t e rest q l =
      let n = length (turns_of list) in
      let combinations = turn_combinations value list in
      let one : Same m (combination n combinations (λ i. if nat_eq t i then value e else 0) q) (value e * combinations t q) =
      total_one_term m n (λ i. (if nat_eq t i then value e else 0) * combinations i q) t l (λ i li ne. let other : t ≢ i = λ z. ne (sym z) in
      ap (λ b. (cond b (value e) 0 * combinations i q) % m) (ne_eqb t i other) ∙ ap (λ x. x % m) (omega arith))
      ∙ ap (λ b. (cond b (value e) 0 * combinations t q) % m) (eq-eqb t t refl) in
      same-add_right m (value e * combinations t q) (combination n combinations (λ i. if nat_eq t i then value e else 0) q) (whole rest q) (sym one)
      ∙ ap (λ x. x % m) (sym (combination-add n combinations (λ i. if nat_eq t i then value e else 0) (entries_of value rest) q))

  module _ {A : Type 0} (is_sum : A → Type 0) (total : A → ℕ) (relations : ℕ) (turns : List (ℕ × E)) where
    pub expanding_start : (rest : List (ℕ × E)) (sums : List A) → rest ≡ turns → AllIn has turns → IsBelow (λ k. k) (length (turns_of list)) turns
        → All is_sum sums → length sums ≡ relations → ((q : ℕ) → total_at total sums q ≡ 0) → IsExpanding is_sum total relations turns rest sums
    expanding_start rest sums same in_ring below all len zeros = record {
      all = all;
      len = len;
      in_ring = subst (AllIn has) (sym same) in_ring;
      below = subst (IsBelow (λ k. k) (length (turns_of list))) (sym same) below;
      told = λ q. ap (λ x. (x + whole rest q) % m) (zeros q) ∙ ap (λ x. x % m) (let z : 0 + whole rest q ≡ whole rest q = omega arith in z)
          ∙ ap (λ es. whole es q % m) same;
    }

    pub expanding_next : (t : ℕ) (e : E) (rest : List (ℕ × E)) (old new : List A) (added : List (ℕ × E))
        → IsExpanding is_sum total relations turns ((t, e) ∷ rest) old → added ≡ turn_combination list t → All is_sum new → length new ≡ length old
        → SameRow m (total_at total new) (λ q. total_at total old q + value e * entries_of value added q)
        → IsExpanding is_sum total relations turns rest new
    expanding_next t e rest old new added h is all len sum = record {
      all = all;
      len = len ∙ h.len;
      in_ring = h.in_ring.1;
      below = h.below.1;
      told = λ q.
          let n = length (turns_of list) in
          let own : entries_of value added q ≡ turn_combinations value list t q =
          ap (λ es. entries_of value es q) is in
          same-add_right m (total_at total new q) (total_at total old q + value e * turn_combinations value list t q) (whole rest q)
          (sum q ∙ ap (λ x. (total_at total old q + value e * x) % m) own)
          ∙ ap (λ x. x % m) (let z : total_at total old q + value e * turn_combinations value list t q + whole rest q
          ≡ total_at total old q + (value e * turn_combinations value list t q + whole rest q) = omega arith in z)
          ∙ same-add_left m (value e * turn_combinations value list t q + whole rest q) (whole ((t, e) ∷ rest) q) (total_at total old q)
          (pair_adds t e rest q h.below.0)
          ∙ h.told q;
    }

    nothing_left : (q : ℕ) → Same m (whole [] q) 0
    nothing_left q = total_vanishes m (length (turns_of list)) (λ i. 0 * turn_combinations value list i q) (λ i l. ap (λ x. x % m) (omega arith))

    past : (sums : List A) (q : ℕ) → length sums ≤ q → total_at total sums q ≡ 0
    past sums q l = get_or_past (map total sums) q 0 (omega (arith, l, length-map sums total))

    pub expanding_done : (zero : E) (columns : ColumnList) (sums : List A) (made : List (ℕ × E)) → 0 < m
        → has zero ≡ true → value zero ≡ 0 → ((a b : E) → has a ≡ true → has b ≡ true → value a ≡ value b → a ≡ b)
        → IsExpanding is_sum total relations turns [] sums → relations ≡ count_of columns
        → IsRow (λ k. k) zero 0 made → AllIn has made → ((q : ℕ) → entries_of value made q ≡ total_at total sums q % m)
        → IsExpanded m has value zero columns list turns made
    expanding_done zero columns sums made pos has_zero value_zero injective h count row in_ring entries = record {
      listed = record {
        row = row;
        below = below_by_entries has value zero has_zero value_zero injective 0 (count_of columns) made row in_ring
            (λ q l. entries q ∙ ap (λ x. x % m) (past sums q (omega (arith, l, h.len, count))) ∙ mod-eq_of_lt pos);
        in_ring = in_ring;
      };
      sum = λ q.
          ap (λ x. x % m) (entries q) ∙ same-mod m (total_at total sums q)
          ∙ ap (λ x. x % m) (let z : total_at total sums q ≡ total_at total sums q + 0 = omega arith in z)
          ∙ same-add_left m 0 (whole [] q) (total_at total sums q) (sym (nothing_left q)) ∙ h.told q;
    }
