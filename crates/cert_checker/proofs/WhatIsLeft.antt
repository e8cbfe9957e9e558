-- What rows leave of the value of a name.
use Rattle.std.proofs.Common.{◌≡◌, ◌≢◌, ℕ, ◌+◌, ◌%◌, ◌<◌, ◌≤◌, ◌⊎◌, inl, inr, Bool, true, false, not, ◌&&◌, nat_eq, nat_le, cond, List, [], ◌∷◌, length, get_or, refl, sym, ◌∙◌, ap, subst, arith, mod-eq_of_lt}
use Rattle.std.specs.Prelude.{All, Contains, IsTrue}
use Rattle.std.specs.Map.{keys_of}
use Rattle.std.proofs.lemmas.Bool.{cases_lt, eq-eqb, le-leb, ne_eqb}
use Rattle.std.proofs.lemmas.List.{get_or_default}
use Rattle.std.proofs.lemmas.List.Elements.{All-contains}
use Rattle.zeta_model.specs.declared.Letter.{Letter}
use Rattle.zeta_model.specs.Sums.{Sum}
use Rattle.zeta_model.specs.Words.{depth_of, is_admissible}
use Rattle.zeta_model.proofs.ListLemmas.{from-filter}
use Rattle.zeta_model.proofs.ModularLemmas.{same-mod}
use Rattle.zeta_model.proofs.WordListLaws.{length-admissible_within}
use Rattle.word_sums.specs.Failing.{failing, IsLeast}
use Rattle.linear_model.specs.Rows.{SameRow}
use Rattle.linear_model.specs.Reduced.{IsReduced, IsLead}
use Rattle.sparse_rows.specs.Entries.{IsRow, IsBelow, AllIn}
use Rattle.sparse_rows.proofs.EntryLemmas.{entry_of_below, entry_of_first}
use Rattle.sparse_rows.proofs.SameRows.{IsLead-first}
use Rattle.column_order.specs.Columns.{ColumnList, column_count}
use Rattle.relation_list.specs.declared.names.RelName.{RelName}
use Rattle.relation_list.specs.Names.{is_name_of, weight_of_name, depth_of_name}
use Rattle.relation_list.specs.Listings.{listing_of}
use Rattle.relation_list.specs.Values.{IsWordOf}
use Rattle.relation_list.proofs.WholeListing.{listing_of-whole}
use Rattle.relation_list.proofs.ListingLengths.{listing-small}
use Rattle.echelon.specs.Lists.{entries_of, lead_at, row_at}
use Rattle.lyndon_polys.specs.Tables.{is_table_word}
use Rattle.table_model.specs.Conversion.{IsTable, Converts, IsCols, IsOver}
use Rattle.table_model.specs.ListedSpan.{values_of}
use Rattle.table_model.specs.Complete.{IsPolynomial}
use Rattle.table_model.specs.Faults.{LeavesNothing}
use Rattle.table_model.proofs.Polynomials.{polynomials_same, polynomial_over}

-- each name of the listing is a name of the table
pub listed-name : (w d n : ℕ) (names : List RelName) (name : RelName) → w ≤ 24 → names ≡ listing_of w d → n < length names → name ≡ get_or names n name
    → (is_name_of name ≡ true) × (weight_of_name name ≡ w) × (depth_of_name name ≤ d)
listed-name w d n names name most listed l is =
    (listing_of-whole w d name most).0 (subst (λ xs. Contains xs name) listed (n, l, sym is))

pub listed-names : (w d : ℕ) (names : List RelName) → w ≤ 24 → names ≡ listing_of w d → All (λ name. IsTrue (is_name_of name)) names
listed-names w d names most listed k e l = (listed-name w d k names (get_or names k e) most listed l (get_or_default names k e (get_or names k e) l)).0

pub few-names : (w d : ℕ) (names : List RelName) → names ≡ listing_of w d → 2 ≤ w → w ≤ 24 → column_count w d ≤ 2048 → length names ≤ 1179648
few-names w d names listed least most few =
    let small : length (listing_of w d) ≤ 1179648 = listing-small w d most (omega (arith, length-admissible_within w d least)) in
    omega (arith, ap length listed)

-- a sum with the coefficients of another has its row
pub same-cols : (m : ℕ) (columns : ColumnList) (s u : Sum) (p : ℕ → ℕ) → ((t : List Letter) → s t ≡ u t % m) → IsCols m columns s p → IsCols m columns u p
same-cols m columns s u p same is = record { over = is.over; words = λ t. is.words t ∙ ap (λ x. x % m) (same t) ∙ same-mod m (u t) }

both-true : (a b : Bool) → a ≡ true → b ≡ true → a && b ≡ true
both-true true b e f = f
both-true false b e f = cc

-- no word of the value is out of the table
pub none-out : {E : Type 0} (w d : ℕ) (name : RelName) (terms : List (List Letter × E)) → All (IsWordOf name) (keys_of terms)
    → weight_of_name name ≡ w → depth_of_name name ≤ d → (u : List Letter) → IsLeast (failing (is_table_word w d) terms) u → ⊥
none-out w d name terms words weight depth u least =
    let found : Contains (keys_of terms) u × (not (is_table_word w d u) ≡ true) = from-filter (λ t. not (is_table_word w d t)) (keys_of terms) u least.stands in
    let word : IsWordOf name u = All-contains (IsWordOf name) (keys_of terms) u words found.0 in
    let passes : is_table_word w d u ≡ true =
    both-true (is_admissible u) (nat_eq (length u) w && nat_le (depth_of u) d) word.admissible
    (both-true (nat_eq (length u) w) (nat_le (depth_of u) d) (eq-eqb (length u) w (word.weight
    ∙ weight)) (le-leb (depth_of u) d (omega (arith, word.depth, depth)))) in
    refuse (is_table_word w d u) passes found.1
  where
    refuse : (b : Bool) → b ≡ true → not b ≡ true → ⊥
    refuse true e f = cc
    refuse false e f = cc

module _ {E : Type 0} (value : E → ℕ) where
  -- from its bound on a row has nothing
  pub none-behind : (n q : ℕ) (es : List (ℕ × E)) → IsBelow (λ k. k) n es → n ≤ q → entries_of value es q ≡ 0
  none-behind n q [] b h = refl
  none-behind n q (e ∷ es) b h =
      let other : e.0 ≢ q = omega (arith, b.0) in
      ap (λ t. cond t (value e.1) 0 + entries_of value es q) (ne_eqb e.0 q other) ∙ omega (arith, none-behind n q es b.1 h)

  pub row-over : (m : ℕ) (columns : ColumnList) (row : List (ℕ × E)) → IsBelow (λ k. k) (length columns.list) row → IsOver m columns (entries_of value row)
  row-over m columns row below col l = ap (λ x. x % m) (none-behind (length columns.list) col row below l)

  module _ (m : ℕ) (has : E → Bool) (nought : E) (pos : 0 < m) (has_nought : has nought ≡ true) (value_nought : value nought ≡ 0)
      (small : (a : E) → has a ≡ true → value a < m) (injective : (a b : E) → has a ≡ true → has b ≡ true → value a ≡ value b → a ≡ b) where
    pub entry-below : (row : List (ℕ × E)) (q : ℕ) → IsRow (λ k. k) nought 0 row → AllIn has row → entries_of value row q < m
    entry-below row q r a = entry_of_below (λ k. k) nought has value m 0 q row pos small r a

    below-by-entries : (low n : ℕ) (es : List (ℕ × E)) → IsRow (λ k. k) nought low es → AllIn has es → ((q : ℕ) → n ≤ q → entries_of value es q ≡ 0)
        → IsBelow (λ k. k) n es
    below-by-entries low n [] r a none = tt
    below-by-entries low n (e ∷ es) r a none =
        let first : entries_of value (e ∷ es) e.0 ≡ value e.1 = entry_of_first (λ k. k) nought value low e es r in (
          by first (cases_lt e.0 n),
          below-by-entries (e.0 + 1) n es r.2 a.1 (λ q l. omega (arith, none q l)),
        )
      where
        by : entries_of value (e ∷ es) e.0 ≡ value e.1 → (e.0 < n) ⊎ (n ≤ e.0) → e.0 < n
        by first (inl less) = less
        by first (inr late) = absurd (r.1 (injective e.1 nought a.0 has_nought (sym first ∙ none e.0 late ∙ sym value_nought)))

    -- a row that is zero behind the columns has columns alone
    pub over-below : (columns : ColumnList) (row : List (ℕ × E)) → IsRow (λ k. k) nought 0 row → AllIn has row → IsOver m columns (entries_of value row)
        → IsBelow (λ k. k) (length columns.list) row
    over-below columns row r a over =
        below-by-entries 0 (length columns.list) row r a (λ q l. sym (mod-eq_of_lt (entry-below row q r a)) ∙ over q l ∙ mod-eq_of_lt pos)

    module _ (columns : ColumnList) (table : IsTable m columns) (converts : Converts m columns) (rows : List (List (ℕ × E)))
        (reduced : IsReduced m (length rows) (lead_at rows) (row_at value rows)) (n : ℕ) (rest : List (ℕ × E))
        (polynomial : IsPolynomial m columns (length rows) (lead_at rows) (row_at value rows) (values_of m columns n) (entries_of value rest)) where
      pub nothing-left : length rest ≡ 0 → LeavesNothing m columns (length rows) (lead_at rows) (row_at value rows) n
      nothing-left none q other col =
          polynomials_same m columns table converts (length rows) (lead_at rows) (row_at value rows) reduced (values_of m columns n) q (entries_of value rest)
          other polynomial col
          ∙ ap (λ x. x % m) (nothing rest none col)
        where
          nothing : (rest : List (ℕ × E)) → length rest ≡ 0 → (col : ℕ) → entries_of value rest col ≡ 0
          nothing [] none col = refl
          nothing (e ∷ es) none col = absurd (omega arith)

      pub something-left : 0 < length rest → IsRow (λ k. k) nought 0 rest → AllIn has rest
          → ¬ (LeavesNothing m columns (length rows) (lead_at rows) (row_at value rows) n)
      something-left some r a leaves = by rest some r a (leaves (entries_of value rest) polynomial)
        where
          by : (rest : List (ℕ × E)) → 0 < length rest → IsRow (λ k. k) nought 0 rest → AllIn has rest → SameRow m (entries_of value rest) (λ _. 0) → ⊥
          by [] some r a none = omega arith
          by (e ∷ es) some r a none =
              let lead : IsLead m (entries_of value (e ∷ es)) e.0 =
              IsLead-first (λ k. k) (λ a b s. s) nought has value m has_nought value_nought injective 0 e es small r a in
              lead.here (none e.0)

      pub left-below : ((i : ℕ) → i < length rows → IsBelow (λ k. k) (length columns.list) (get_or rows i [])) → IsRow (λ k. k) nought 0 rest → AllIn has rest
          → IsBelow (λ k. k) (length columns.list) rest
      left-below below r a =
          over-below columns rest r a (polynomial_over m columns (length rows) (lead_at rows) (row_at value rows)
          (λ i l. row-over m columns (get_or rows i []) (below i l)) (values_of m columns n) (entries_of value rest) polynomial)
