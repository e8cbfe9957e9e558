-- Values that are made when they are first asked for.
use Rattle.std.proofs.Common.{◌≡◌, ◌≢◌, ℕ, ◌<◌, ◌⊎◌, inl, inr, Bool, Some, List, [], length, get_or, set, slice_get, sym, ◌∙◌, ap, subst, arith}
use Rattle.std.proofs.lemmas.Bool.{cases_eq}
use Rattle.std.proofs.lemmas.List.{length-set, get_or-set_same, get_or-set_other}
use Rattle.std.proofs.lemmas.Option.{slice_get-get_or}
use Rattle.column_order.specs.Columns.{ColumnList}
use Rattle.relation_list.specs.declared.names.RelName.{RelName}
use Rattle.relation_list.specs.Listings.{listing_of}
use Rattle.relation_list.specs.Values.{value_of}
use Rattle.table_model.specs.ListedSpan.{value_where, values_of, listed_value}
use Rattle.cert_checker.specs.Inner.{IsPlaced, AreValues}

-- the value of a relation is that of its name
pub listed-value : (m : ℕ) (columns : ColumnList) (names : List RelName) (n : ℕ) (name : RelName) → names ≡ listing_of columns.weight columns.depth
    → n < length names → name ≡ get_or names n name → values_of m columns n ≡ value_of m name
unfolding listed_value
listed-value m columns names n name listed l is =
    ap (λ xs. value_where m (slice_get xs n)) (sym listed) ∙ ap (value_where m) (slice_get-get_or names n name l ∙ ap (λ x. Some x) (sym is))

module _ {E : Type 0} (m : ℕ) (has : E → Bool) (value : E → ℕ) (columns : ColumnList) (names : List RelName) (values : List (List (ℕ × E))) (n : ℕ)
    (placed : List (ℕ × E)) (kept : AreValues m has value columns names values) (inside : n < length names)
    (made : IsPlaced m has value columns (values_of m columns n) placed) where
  pub value-there : IsPlaced m has value columns (values_of m columns n) (get_or (set values n placed) n [])
  value-there = subst (IsPlaced m has value columns (values_of m columns n)) (sym (get_or-set_same values n placed [] (omega (arith, kept.count)))) made

  pub one-value-more : AreValues m has value columns names (set values n placed)
  one-value-more = record {
    listed = kept.listed;
    count = length-set values n placed ∙ kept.count;
    each = λ k l. by k (omega (arith, l, length-set values n placed)) (cases_eq k n);
  }
    where
      by : (k : ℕ) → k < length values → ((k ≡ n) ⊎ (k ≢ n))
          → (get_or (set values n placed) k [] ≡ []) ⊎ IsPlaced m has value columns (values_of m columns k) (get_or (set values n placed) k [])
      by k l (inl e) =
          inr (subst (λ j. IsPlaced m has value columns (values_of m columns j) (get_or (set values n placed) j [])) (sym e) value-there)
      by k l (inr ne) =
          subst (λ row. (row ≡ []) ⊎ IsPlaced m has value columns (values_of m columns k) row) (sym (get_or-set_other values n k placed [] ne)) (kept.each k l)
