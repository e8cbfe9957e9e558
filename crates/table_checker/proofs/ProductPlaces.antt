-- The column of a product, and the row that leads there.
use Rattle.std.proofs.Common.{◌≡◌, ◌≢◌, ℕ, ◌<◌, ◌⊎◌, inl, inr, Some, List, [], length, sym, ap, subst, ◌∙◌, arith, slice_get}
use Rattle.std.proofs.lemmas.Option.{slice_get_within, get_or_from_slice_get}
use Rattle.zeta_model.specs.declared.Letter.{Letter}
use Rattle.zeta_model.specs.Words.{depth_of}
use Rattle.linear_model.specs.Reduced.{IsReduced}
use Rattle.lyndon_words.specs.Lyndon.{joined}
use Rattle.lyndon_words.specs.Monomials.{product_of}
use Rattle.column_order.specs.Columns.{ColumnList, IsColumn}
use Rattle.echelon.specs.Lists.{lead_at}
use Rattle.table_model.specs.MonomialWords.{column_at}
use Rattle.table_model.specs.Conversion.{IsTable, IsOver}
use Rattle.table_model.proofs.TableColumns.{word_at-injective}
use Rattle.leading_products.specs.Cofactors.{IsLower, IsCofactor}
use Rattle.leading_products.proofs.ProductColumns.{column_of_product}
use Rattle.leading_products.proofs.ProductRows.{lead_within}
use Rattle.table_checker.specs.CheckedTables.{leading_monomial}

abbrev Monomial : Type 0
Monomial = List (List Letter)

-- the product of a column and a monomial has a place among the columns of their weight
pub product_placed : (low high : ColumnList) (m : ℕ) → IsTable m low → IsTable m high → IsLower low high → (p q : Monomial)
    → IsColumn low.weight low.depth p → IsCofactor low high q → (product : Monomial) → product ≡ product_of p q
    → ¬ ((length (joined product) ≢ high.weight) ⊎ (high.depth < depth_of (joined product)))
product_placed low high m low_table high_table lower p q column cofactor product is missing =
    let there : IsColumn high.weight high.depth (product_of p q) = column_of_product m low high low_table high_table lower q cofactor p column in
    elim missing [
      | inl heavy ↦ heavy (ap (λ (us : Monomial). length (joined us)) is ∙ there.weight)
      | inr deep ↦ omega (arith, deep, ap (λ (us : Monomial). depth_of (joined us)) is, there.depth)
    ]

-- a row leads with the monomial of the place at which it leads
pub leading_monomial-at : {E : Type 0} (columns lent : ColumnList) → lent ≡ columns → (rows : List (List (ℕ × E))) (i lead : ℕ) → lead ≡ lead_at rows i
    → (p : Monomial) → slice_get lent.list lead ≡ Some p → leading_monomial columns rows i ≡ p
leading_monomial-at columns lent same rows i lead is p at =
    subst (λ (cs : ColumnList). column_at cs.list (lead_at rows i) ≡ p) same
    (subst (λ k. column_at lent.list k ≡ p) is (get_or_from_slice_get lent.list lead p [] at))

-- a row that leads with the monomial of a place leads there
pub leads_there : (m : ℕ) (columns lent : ColumnList) → IsTable m columns → lent ≡ columns → (p monomial : Monomial) (place : ℕ)
    → slice_get lent.list place ≡ Some monomial → monomial ≡ p → (count : ℕ) (lead : ℕ → ℕ) (rows : ℕ → ℕ → ℕ) → IsReduced m count lead rows
    → ((i : ℕ) → i < count → IsOver m columns (rows i)) → (j : ℕ) → j < count → column_at columns.list (lead j) ≡ p → lead j ≡ place
leads_there m columns lent table same p monomial place at is count lead rows reduced over j l holds =
    let placed : slice_get columns.list place ≡ Some p =
    subst (λ (cs : ColumnList). slice_get cs.list place ≡ Some p) same (at ∙ ap (λ (x : Monomial). Some x) is) in
    word_at-injective m columns table (lead j) place (lead_within m columns table count lead rows reduced over j l)
    (slice_get_within columns.list place p placed) (ap joined (holds ∙ sym (get_or_from_slice_get columns.list place p [] placed)))
