-- There is one first fault, one first break, and one verdict.
use Rattle.std.specs.Prelude.{◌≡◌, ℕ, zero, suc, ◌%◌, ◌<◌, ◌⊎◌, List}
use Rattle.std.proofs.Common.{refl, sym, ◌∙◌, ap, subst, inl, inr, arith}
use Rattle.std.proofs.lemmas.Bool.{cases_eq, cases_order}
use Rattle.std.specs.declared.cmp.Ordering.{Ordering}
use Rattle.std.specs.declared.cmp.Ordering.TheVariants.{Less, Equal, Greater}
use Rattle.std.specs.Ordering.{ordering_reverse}
use Rattle.std.specs.Cmp.{IsTotalOrder}
use Rattle.zeta_model.specs.declared.Letter.{Letter}
use Rattle.zeta_model.specs.Words.{word_cmp}
use Rattle.zeta_model.specs.Sums.{Sum}
use Rattle.zeta_model.proofs.ModularLemmas.{same-mod}
use Rattle.zeta_model.proofs.WordOrder.{word_cmp_total, word_cmp-IsAntisymmetric}
use Rattle.linear_model.specs.Rows.{SameRow}
use Rattle.linear_model.specs.Reduced.{IsReduced}
use Rattle.lyndon_words.specs.Lyndon.{IsBefore, IsFactors}
use Rattle.lyndon_words.proofs.OneWay.{IsFactors-unique}
use Rattle.column_order.specs.Columns.{ColumnList}
use Rattle.table_model.specs.MonomialWords.{words_of_monomial}
use Rattle.zeta_model.specs.Inverses.{HasInverse}
use Rattle.table_model.specs.Conversion.{IsTable, IsTableSum, ConvertsAt, Converts}
use Rattle.table_model.specs.ReducedRows.{IsBrokenAt, BreaksFirst}
use Rattle.table_model.specs.Faults.{IsReached, IsNotInvertible, IsReducedAt, IsFirstWithout}
use Rattle.table_model.proofs.Inverses.{same-HasInverse, lead_unique}
use Rattle.table_model.proofs.ReducedRowsLaws.{rest_unique}

pub before_cases : (u v : List Letter) → IsBefore u v ⊎ ((u ≡ v) ⊎ IsBefore v u)
before_cases u v = go (word_cmp u v) refl
  where
    o : IsTotalOrder word_cmp
    o = word_cmp_total

    go : (r : Ordering) → word_cmp u v ≡ r → IsBefore u v ⊎ ((u ≡ v) ⊎ IsBefore v u)
    go Less e = inl e
    go Equal e = inr (inl (word_cmp-IsAntisymmetric u v e))
    go Greater e = inr (inr (o.antisymm v u ∙ ap ordering_reverse e))

module _ (m : ℕ) (columns : ColumnList) where
  -- the first word at which it does not convert is one
  pub first_word : (u v : List Letter) → IsReached m columns u → IsReached m columns v → ¬ (ConvertsAt m u) → ¬ (ConvertsAt m v) → u ≡ v
  first_word u v ru rv nu nv = elim (before_cases u v) [
    | inl l ↦ absurd (nu (rv.earlier u ru.word l))
    | inr r ↦ elim r [
      | inl e ↦ e
      | inr l ↦ absurd (nv (ru.earlier v rv.word l))
    ]
  ]

  pub not_invertible_fails : (u : List Letter) (residue : ℕ) → IsNotInvertible m columns u residue → ¬ (ConvertsAt m u)
  not_invertible_fails u residue n c =
      n.none (subst (HasInverse m) n.told
      (same-HasInverse m (words_of_monomial n.factors u) (words_of_monomial n.factors u % m) (sym (same-mod m (words_of_monomial n.factors u)))
      (c n.factors n.are_factors)))

  pub not_invertible_unique : (u v : List Letter) (r s : ℕ) → IsNotInvertible m columns u r → IsNotInvertible m columns v s → (u ≡ v) × (r ≡ s)
  not_invertible_unique u v r s a b =
      let same : u ≡ v = first_word u v a.reached b.reached (not_invertible_fails u r a) (not_invertible_fails v s b) in
      let factors : a.factors ≡ b.factors = IsFactors-unique v a.factors b.factors (subst (λ w. IsFactors w a.factors) same a.are_factors) b.are_factors in
      (same, sym a.told ∙ (λ i. words_of_monomial (factors i) (same i) % m) ∙ b.told)

  pub not_invertible_word : (u : List Letter) (residue : ℕ) → IsNotInvertible m columns u residue → ¬ (Converts m columns)
  not_invertible_word u residue a c = let r = a.reached in not_invertible_fails u residue a (c u r.word)

  -- the work breaks at one number first, with one residue
  pub first_break : (table : IsTable m columns) (sums : ℕ → Sum) → ((k : ℕ) → IsTableSum m columns (sums k)) → Converts m columns → (n k r s : ℕ)
      → BreaksFirst m columns sums n r → BreaksFirst m columns sums k s → (n ≡ k) × (r ≡ s)
  first_break table sums within converts n k r s (a, below) (b, above) = elim (cases_order n k) [
    | inl e ↦ (e, residue (subst (λ x. IsBrokenAt m columns sums x r) e a))
    | inr o ↦ elim o [
      | inl l ↦ absurd (above n l r a)
      | inr l ↦ absurd (below k l s b)
    ]
  ]
    where
      residue : IsBrokenAt m columns sums k r → r ≡ s
      residue a =
          let same : SameRow m a.rest b.rest = rest_unique m columns table sums within converts k a.rest b.rest a.is_rest b.is_rest in
          let one : a.col ≡ b.col = lead_unique m a.rest b.rest a.col b.col same a.leads b.leads in
          sym a.told ∙ same a.col ∙ ap (λ x. b.rest x % m) one ∙ b.told

-- the first place that lacks a property is one
pub first_without_unique : (has : ℕ → Type 0) (n i k : ℕ) → IsFirstWithout has n i → IsFirstWithout has n k → i ≡ k
first_without_unique has n i k a b = elim (cases_order i k) [
  | inl e ↦ e
  | inr o ↦ elim o [
    | inl l ↦ absurd (a.lacks (b.earlier i l))
    | inr l ↦ absurd (b.lacks (a.earlier k l))
  ]
]

-- a list that is reduced is so at each place
pub reduced_everywhere : (m count : ℕ) (lead : ℕ → ℕ) (rows : ℕ → ℕ → ℕ) → IsReduced m count lead rows → (i : ℕ) → i < count
    → IsReducedAt m count lead rows i
reduced_everywhere m count lead rows reduced i l = record {
  one = reduced.one i l;
  before = λ j. reduced.before i j l;
  rises = λ k e. reduced.rising k i (omega arith) l;
  clear = λ k lk ne. reduced.clear k i lk l ne;
}

-- and the other way round
pub everywhere_reduced : (m count : ℕ) (lead : ℕ → ℕ) (rows : ℕ → ℕ → ℕ) → ((i : ℕ) → i < count → IsReducedAt m count lead rows i)
    → IsReduced m count lead rows
everywhere_reduced m count lead rows each = record {
  one = λ i l. let r : IsReducedAt m count lead rows i = each i l in r.one;
  before = λ i j l. let r : IsReducedAt m count lead rows i = each i l in r.before j;
  rising = λ i k h l. rises k i h l;
  clear = λ i k li lk ne. let r : IsReducedAt m count lead rows k = each k lk in r.clear i li ne;
}
  where
    rises : (k i : ℕ) → i < k → k < count → lead i < lead k
    rises zero i h l = absurd (omega arith)
    rises (suc k) i h l =
        let r : IsReducedAt m count lead rows (suc k) = each (suc k) l in
        let step : lead k < lead (suc k) = r.rises k refl in
        elim (cases_eq i k) [
          | inl e ↦ subst (λ x. lead x < lead (suc k)) (sym e) step
          | inr ne ↦ omega (arith, rises k i (omega arith) (omega arith), step)
        ]
