use Rattle.table_model.proofs.CompleteRows.{complete_is_reduced_rows}
use Rattle.leading_products.proofs.NamedProducts.{products_stay_in_span}
use Rattle.leading_products.proofs.ProductRows.{one_row_leads, product_leads}
use Rattle.leading_products.proofs.laws.leading_products.Goals as goal

pub returns-clause-span : goal.returns-clause-span
returns-clause-span c m k e w d s u heavy within a weighs deep = products_stay_in_span m k e w d u heavy within a weighs deep s

pub returns-clause-leads : goal.returns-clause-leads
returns-clause-leads c m low high low_table high_table lower count high_count lead high_lead rows high_rows small large p q leads cofactor =
    product_leads m low high low_table high_table lower q cofactor count high_count lead high_lead rows high_rows small large p leads

pub returns-clause-complete : goal.returns-clause-complete
returns-clause-complete c m low high low_table high_table lower count high_count lead high_lead rows high_rows combinations high_combinations small large p q
    leads cofactor =
    product_leads m low high low_table high_table lower q cofactor count high_count lead high_lead rows high_rows
    (complete_is_reduced_rows m low low_table count lead rows combinations small)
    (complete_is_reduced_rows m high high_table high_count high_lead high_rows high_combinations large) p leads

pub returns-clause-one_row : goal.returns-clause-one_row
returns-clause-one_row c = one_row_leads
