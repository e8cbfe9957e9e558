-- The laws of the order of columns.
use Rattle.std.specs.Prelude.{length}
use Rattle.std.proofs.Common.{rules}
use Rattle.std.specs.Cmp.{IsTotalOrder, IsEquivalence, IsPartialEquivalence, IsPartialOrder, partial_equiv_from_equiv, eq_by_cmp_equiv, on_total}
use Rattle.std.specs.Cmp.Rules.{comparing}
use Rattle.std.specs.Ordering.{eq_by_cmp, as_partial_cmp}
use Rattle.std.proofs.lemmas.Cmp.{lists_total, nat_cmp_total, then_total, back_total}
use Rattle.zeta_model.proofs.WordOrder.{word_cmp_total}
use Rattle.column_order.specs.declared.column.Column.{Column}
use Rattle.column_order.specs.Inner.{column_cmp}

pub column_cmp_total : IsTotalOrder column_cmp
column_cmp_total =
    then_total (on_total (λ (c : Column). length c.monomial) nat_cmp_total)
    (then_total (back_total (on_total (λ (c : Column). c.standing.ranks) nat_cmp_total))
    (then_total (back_total (on_total (λ (c : Column). c.standing.depth) nat_cmp_total))
    (back_total (on_total (λ (c : Column). c.monomial) (lists_total word_cmp_total)))))

pub column_eq_equiv : IsEquivalence (eq_by_cmp column_cmp)
column_eq_equiv = eq_by_cmp_equiv column_cmp_total

pub column_eq_laws : IsPartialEquivalence (eq_by_cmp column_cmp)
column_eq_laws = partial_equiv_from_equiv column_eq_equiv

pub column_partial_laws : IsPartialOrder (eq_by_cmp column_cmp) (as_partial_cmp column_cmp)
column_partial_laws = search (comparing, rules, column_cmp_total)
