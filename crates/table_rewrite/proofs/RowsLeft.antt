-- What is left of a row over the columns, by rows over the columns, is over them too; and words out of the table.
use Rattle.std.proofs.Common.{◌≡◌, ◌≢◌, ℕ, zero, suc, ◌+◌, ◌*◌, ◌%◌, ◌<◌, ◌≤◌, Bool, true, false, not, ◌&&◌, cond, List, [], ◌∷◌, length, get_or, ◌⊎◌, inl, inr, refl, sym, ap, ◌∙◌, arith}
use Rattle.std.specs.Map.{keys_of}
use Rattle.std.proofs.lemmas.Bool.{cases_lt, ne_eqb, eq-eqb, le-leb}
use Rattle.std.proofs.Math.Nat.{mod-eq_of_lt}
use Rattle.zeta_model.specs.declared.Letter.{Letter}
use Rattle.zeta_model.specs.Modular.{Same}
use Rattle.zeta_model.specs.Words.{depth_of}
use Rattle.zeta_model.proofs.ListLemmas.{from-filter}
use Rattle.word_sums.specs.Terms.{coefficient_of}
use Rattle.word_sums.specs.Sums.{IsSum}
use Rattle.word_sums.specs.Failing.{failing, IsLeast}
use Rattle.word_sums.proofs.KnownTerms.{held}
use Rattle.linear_model.specs.Rows.{total}
use Rattle.linear_model.specs.Reduced.{IsNormalForm}
use Rattle.linear_model.proofs.Totals.{total-zero, total_alike}
use Rattle.sparse_rows.specs.Entries.{IsRow, IsBelow, AllIn}
use Rattle.sparse_rows.proofs.EntryLemmas.{entry_of_below, entry_of_first}
use Rattle.echelon.specs.Lists.{entries_of, lead_at, row_at}
use Rattle.table_model.specs.Conversion.{IsTableWord}
use Rattle.lyndon_polys.specs.Tables.{is_table_word}
use Rattle.table_rewrite.specs.Replies.{AreOver}

past : {A : Type 0} (xs : List A) (i : ℕ) (d : A) → length xs ≤ i → get_or xs i d ≡ d
past [] i d h = refl
past (x ∷ xs) zero d h = absurd (omega arith)
past (x ∷ xs) (suc i) d h = past xs i d (omega arith)

module _ {E : Type 0} (value : E → ℕ) where
  -- from its columns on a row has nothing
  none_behind : (n q : ℕ) (es : List (ℕ × E)) → IsBelow (λ k. k) n es → n ≤ q → entries_of value es q ≡ 0
  none_behind n q [] b h = refl
  none_behind n q (e ∷ es) b h =
      let other : e.0 ≢ q = omega (arith, b.0) in
      ap (λ t. cond t (value e.1) 0 + entries_of value es q) (ne_eqb e.0 q other) ∙ omega (arith, none_behind n q es b.1 h)

  rows_none : (n q i : ℕ) (rows : List (List (ℕ × E))) → AreOver n rows → n ≤ q → row_at value rows i q ≡ 0
  rows_none n q i rows over h = by (cases_lt i (length rows))
    where
      by : (i < length rows) ⊎ (length rows ≤ i) → row_at value rows i q ≡ 0
      by (inl l) = none_behind n q (get_or rows i []) (over i l) h
      by (inr l) = ap (λ row. entries_of value row q) (past rows i [] l)

  -- what is left is zero behind the columns
  pub left_over : (m n q : ℕ) (rows : List (List (ℕ × E))) (p rest : ℕ → ℕ) → AreOver n rows → n ≤ q → Same m (p q) 0
      → IsNormalForm m (length rows) (lead_at rows) (row_at value rows) p rest → Same m (rest q) 0
  left_over m n q rows p rest over h before left =
      let c = left.coefficients in
      let none : total (length rows) (λ i. c i * row_at value rows i q) ≡ 0 =
      total_alike (length rows) (λ i. c i * row_at value rows i q) (λ i. 0) (λ i. ap (λ k. c i * k) (rows_none n q i rows over h) ∙ times_zero (c i))
      ∙ total-zero (length rows) in
      let whole : rest q ≡ rest q + total (length rows) (λ i. c i * row_at value rows i q) = omega arith in
      ap (λ k. k % m) whole ∙ sym (left.differs q) ∙ before
    where
      times_zero : (k : ℕ) → k * 0 ≡ 0
      times_zero k = omega arith

  module _ (has : E → Bool) (nought : E) (m : ℕ) (has_nought : has nought ≡ true) (value_nought : value nought ≡ 0)
      (below : (a : E) → has a ≡ true → value a < m) (injective : (a b : E) → has a ≡ true → has b ≡ true → value a ≡ value b → a ≡ b) where
    -- the columns of a row are below n where it has nothing from n on
    below_by_entries : (low n : ℕ) (es : List (ℕ × E)) → IsRow (λ k. k) nought low es → AllIn has es → ((q : ℕ) → n ≤ q → entries_of value es q ≡ 0)
        → IsBelow (λ k. k) n es
    below_by_entries low n [] r a none = tt
    below_by_entries low n (e ∷ es) r a none =
        let first : entries_of value (e ∷ es) e.0 ≡ value e.1 = entry_of_first (λ k. k) nought value low e es r in (
          by first (cases_lt e.0 n),
          below_by_entries (e.0 + 1) n es r.2 a.1 (λ q l. omega (arith, none q l)),
        )
      where
        by : entries_of value (e ∷ es) e.0 ≡ value e.1 → (e.0 < n) ⊎ (n ≤ e.0) → e.0 < n
        by first (inl less) = less
        by first (inr late) = absurd (r.1 (injective e.1 nought a.0 has_nought (sym first ∙ none e.0 late ∙ sym value_nought)))

    entry_below : (row : List (ℕ × E)) (q : ℕ) → 0 < m → IsRow (λ k. k) nought 0 row → AllIn has row → entries_of value row q < m
    entry_below row q pos r a = entry_of_below (λ k. k) nought has value m 0 q row pos below r a

    -- so its columns are below their number
    pub left_below : (n : ℕ) (rows : List (List (ℕ × E))) (p : ℕ → ℕ) (row : List (ℕ × E)) → 0 < m → AreOver n rows
        → ((q : ℕ) → n ≤ q → Same m (p q) 0) → IsNormalForm m (length rows) (lead_at rows) (row_at value rows) p (entries_of value row)
        → IsRow (λ k. k) nought 0 row → AllIn has row → IsBelow (λ k. k) n row
    left_below n rows p row pos over before left r a =
        below_by_entries 0 n row r a
        (λ q l.
        let s : entries_of value row q % m ≡ 0 % m = left_over m n q rows p (entries_of value row) over l (before q l) left in
        sym (mod-eq_of_lt (entry_below row q pos r a)) ∙ s ∙ mod-eq_of_lt pos)

    -- the entries are their own residues
    pub own_residues : (row : List (ℕ × E)) → 0 < m → IsRow (λ k. k) nought 0 row → AllIn has row
        → ◌≡◌ {A = ℕ → ℕ} (entries_of value row) (λ q. entries_of value row q % m)
    own_residues row pos r a = λ i q. sym (mod-eq_of_lt (entry_below row q pos r a)) i

    not_table : (w d : ℕ) (t : List Letter) → is_table_word w d t ≡ false → ¬ (IsTableWord w d t)
    not_table w d t is k =
        let one : is_table_word w d t ≡ true = (λ i. k.admissible i && (eq-eqb (length t) w k.weight i && le-leb (depth_of t) d k.depth i)) in
        let f : true ≡ false = sym one ∙ is in cc

    negated : (b : Bool) → not b ≡ true → b ≡ false
    negated true e = cc
    negated false e = refl

    -- no word of the sum fails
    pub none_out : (w d : ℕ) (sum : List (List Letter × E)) (u : List Letter) → IsSum nought has sum
        → ((t : List Letter) → ¬ (IsTableWord w d t) → coefficient_of value sum t ≡ 0) → IsLeast (failing (is_table_word w d) sum) u → ⊥
    none_out w d sum u is words least =
        let c = from-filter (λ t. not (is_table_word w d t)) (keys_of sum) u least.stands in
        (held value nought has has_nought value_nought injective sum is.terms is.in_ring u).0 c.0 (words u (not_table w d u (negated
        (is_table_word w d u) c.1)))
