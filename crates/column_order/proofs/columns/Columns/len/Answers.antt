use Rattle.std.proofs.Common.{◌≡◌, length, ap, ◌∙◌, arith}
use Rattle.std.proofs.lemmas.List.{length-map}
use Rattle.column_order.specs.declared.column.Column.{Column}
use Rattle.column_order.specs.Ranks.{rank_of}
use Rattle.column_order.specs.Columns.{HasLimits, column_count}
use Rattle.column_order.specs.Inner.{AreColumns, monomials_of}
use Rattle.column_order.proofs.ColumnLists.{length-columns}
use Rattle.column_order.proofs.columns.Columns.len.Goals as goal

pub returns-clause-count : goal.returns-clause-count
returns-clause-count c =
    let limits : HasLimits c.self.inside.weight c.self.inside.depth = c.self.invariant.limits in
    let kept : AreColumns (rank_of c.self.inside.preference) c.self.inside.weight c.self.inside.depth c.self.inside.columns.items =
    c.self.invariant.columns in
    let count : length (monomials_of c.self.inside.columns.items) ≡ column_count c.self.inside.weight c.self.inside.depth =
    length-columns (rank_of c.self.inside.preference) c.self.inside.weight c.self.inside.depth
    (monomials_of c.self.inside.columns.items) limits.least limits.most limits.some kept.list in
    let long : c.len.result ≡ length (monomials_of c.self.inside.columns.items) =
    omega (arith, c.len.ensures, length-map c.self.inside.columns.items (λ (e : Column). e.monomial)) in
    long ∙ count ∙ ap (λ v. column_count v.weight v.depth) c.self.view_is
