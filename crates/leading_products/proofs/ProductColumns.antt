-- The products of the columns of a table with a monomial are columns of a table of higher weight, in the same order.
use Rattle.std.proofs.Common.{◌≡◌, ℕ, ◌+◌, ◌<◌, ◌≤◌, ◌⊎◌, inl, inr, cond, true, false, Some, List, [], ◌∷◌, ◌++◌, length, Contains, ap, subst, ◌∙◌, arith, length-append}
use Rattle.std.proofs.lemmas.Bool.{cases_lt}
use Rattle.std.proofs.lemmas.List.{get_or_default}
use Rattle.std.proofs.lemmas.Option.{slice_get-get_or}
use Rattle.std.proofs.lemmas.Map.Keys.{Less-from_sorted}
use Rattle.std.specs.declared.cmp.Ordering.TheVariants.{Less}
use Rattle.std.specs.Ordering.{is_lt}
use Rattle.zeta_model.specs.declared.Letter.{Letter}
use Rattle.zeta_model.specs.Words.{word_cmp, depth_of}
use Rattle.lyndon_words.specs.Lyndon.{joined}
use Rattle.lyndon_words.specs.Monomials.{IsProduct, put, product_of}
use Rattle.lyndon_words.proofs.Products.{IsProduct-product_of}
use Rattle.column_order.specs.Columns.{ColumnList, IsColumn}
use Rattle.column_order.specs.LeadOrder.{lead_cmp}
use Rattle.column_order.specs.Ranks.{rank_of}
use Rattle.column_order.proofs.LeadLaws.{lead_cmp-product}
use Rattle.column_order.proofs.Places.{later_place}
use Rattle.relation_list.proofs.ProductWords.{depth_of-append}
use Rattle.table_model.specs.MonomialWords.{column_at}
use Rattle.table_model.specs.Conversion.{IsTable}
use Rattle.table_model.proofs.TableColumns.{is_column}
use Rattle.leading_products.specs.Cofactors.{IsLower, IsCofactor}

abbrev Word : Type 0
Word = List Letter

-- a measure of words that adds up over words put together adds up over products
module _ (f : Word → ℕ) (adds : (u v : Word) → f (u ++ v) ≡ f u + f v) where
  joined-put : (w : Word) (us : List Word) → f (joined (put w us)) ≡ f w + f (joined us)
  joined-put w [] = adds w []
  joined-put w (u ∷ us) = elim (is_lt (word_cmp u w)) as (λ b. f (joined (cond b (w ∷ u ∷ us) (u ∷ put w us))) ≡ f w + f (joined (u ∷ us))) [
    | true ↦ adds w (u ++ joined us)
    | false ↦ omega (arith, adds u (joined (put w us)), adds u (joined us), joined-put w us)
  ]

  joined-product_of : (a b : List Word) → f (joined (product_of a b)) ≡ f (joined a) + f (joined b)
  joined-product_of [] b = omega (arith, adds [] [])
  joined-product_of (w ∷ a) b = omega (arith, joined-product_of a (put w b), joined-put w b, adds w (joined a))

module _ (m : ℕ) (low high : ColumnList) (low_table : IsTable m low) (high_table : IsTable m high) (lower : IsLower low high) (q : List Word)
    (cofactor : IsCofactor low high q) where
  -- the product of a lower column with the monomial is a higher one
  pub column_of_product : (p : List Word) → IsColumn low.weight low.depth p → IsColumn high.weight high.depth (product_of p q)
  column_of_product p c =
      let weight : length (joined (product_of p q)) ≡ length (joined p) + length (joined q) = joined-product_of length length-append p q in
      let depth : depth_of (joined (product_of p q)) ≡ depth_of (joined p) + depth_of (joined q) = joined-product_of depth_of depth_of-append p q in
      let limits = high_table.limits in
      let product : IsProduct p q (product_of p q) =
      IsProduct-product_of p q c.monomial cofactor.monomial (omega (arith, c.weight, cofactor.weight, limits.most)) in
      record {
        monomial = product.monomial;
        weight = omega (arith, weight, c.weight, cofactor.weight);
        depth = omega (arith, depth, c.depth, cofactor.depth);
      }

  -- the product of column number col with the monomial
  abbrev pub product_at : ℕ → List Word
  product_at col = product_of (column_at low.list col) q

  -- a place of the higher list with the product of column number col
  pub record HasPlace (col place : ℕ) : Type 0 where
    pub within : place < length high.list
    pub holds : column_at high.list place ≡ product_at col

  some_place : (col : ℕ) → col < length low.list → (place : ℕ) × HasPlace col place
  some_place col l =
      let held : Contains high.list (product_at col) = (high_table.whole.whole (product_at col)).1 (column_of_product (column_at low.list col) (is_column m low low_table col l)) in
      (held.0, record { within = held.1; holds = get_or_default high.list held.0 [] (product_at col) held.1 ∙ held.2 })

  place_or_none : (col : ℕ) → (col < length low.list) ⊎ (length low.list ≤ col) → ℕ
  place_or_none col (inl l) = (some_place col l).0
  place_or_none col (inr past) = 0

  -- the place of the product of column number col
  pub place_of : ℕ → ℕ
  place_of col = place_or_none col (cases_lt col (length low.list))

  pub place_of-is : (col : ℕ) → col < length low.list → HasPlace col (place_of col)
  unfolding place_of place_or_none
  place_of-is col l = at (cases_lt col (length low.list))
    where
      at : (c : (col < length low.list) ⊎ (length low.list ≤ col)) → HasPlace col (place_or_none col c)
      at (inl k) = (some_place col k).1
      at (inr past) = absurd (omega arith)

  -- products keep the order of columns
  pub place_of-rises : (i j : ℕ) → i < j → j < length low.list → place_of i < place_of j
  place_of-rises i j l lj =
      let li : i < length low.list = omega arith in
      let a : HasPlace i (place_of i) = place_of-is i li in
      let b : HasPlace j (place_of j) = place_of-is j lj in
      let ci : IsColumn low.weight low.depth (column_at low.list i) = is_column m low low_table i li in
      let cj : IsColumn low.weight low.depth (column_at low.list j) = is_column m low low_table j lj in
      let mi = ci.monomial in
      let mj = cj.monomial in
      let mq = cofactor.monomial in
      let ranks : Word → ℕ = rank_of low.preference in
      let before : lead_cmp ranks (column_at low.list i) (column_at low.list j) ≡ Less =
      Less-from_sorted (lead_cmp ranks) low.list i j [] low_table.whole.in_order l lj in
      let kept : lead_cmp ranks (product_at i) (product_at j) ≡ Less =
      lead_cmp-product ranks (column_at low.list i) (column_at low.list j) q mi.falls mj.falls mq.falls ∙ before in
      later_place (rank_of high.preference) high.list (place_of j) (place_of i) (product_at j) (product_at i) high_table.whole.in_order
      (slice_get-get_or high.list (place_of j) [] b.within ∙ ap (λ p. Some p) b.holds)
      (slice_get-get_or high.list (place_of i) [] a.within ∙ ap (λ p. Some p) a.holds)
      (subst (λ preference. lead_cmp (rank_of preference) (product_at i) (product_at j) ≡ Less) lower.order kept)
