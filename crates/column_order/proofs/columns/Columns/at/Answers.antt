use Rattle.std.proofs.Common.{◌≡◌, ◌<◌, Some, length, slice_get, subst, ap, arith}
use Rattle.std.proofs.lemmas.List.{length-map}
use Rattle.column_order.specs.declared.column.Column.{Column}
use Rattle.column_order.specs.Columns.{IsColumn}
use Rattle.column_order.specs.Inner.{AreColumns, monomials_of}
use Rattle.column_order.specs.Ranks.{rank_of}
use Rattle.column_order.proofs.Places.{Contains-from_place, monomial_at}
use Rattle.column_order.proofs.columns.Columns.at.Goals as goal

pub returns-clause-column : goal.returns-clause-column
returns-clause-column c =
    let kept : AreColumns (rank_of c.self.inside.preference) c.self.inside.weight c.self.inside.depth c.self.inside.columns.items =
    c.self.invariant.columns in
    let within : c.args.i < length c.self.inside.columns.items =
    omega (arith, c.requires, ap (λ v. length v.list) c.self.view_is, length-map c.self.inside.columns.items (λ (e : Column). e.monomial)) in
    let there : slice_get (monomials_of c.self.inside.columns.items) c.args.i ≡ Some c.index.result.now.monomial =
    monomial_at c.self.inside.columns.items c.args.i c.index.result.now within c.index.ensures in
    let column : IsColumn c.self.inside.weight c.self.inside.depth c.index.result.now.monomial =
    (kept.list.whole c.index.result.now.monomial).0
    (Contains-from_place (monomials_of c.self.inside.columns.items) c.index.result.now.monomial c.args.i there) in
    subst (λ v. IsColumn v.weight v.depth c.index.result.now.monomial) c.self.view_is column
