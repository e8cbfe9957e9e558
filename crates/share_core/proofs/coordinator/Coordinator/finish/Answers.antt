use Rattle.std.proofs.Common.{◌≡◌, ◌≤◌, List, length, eqb, sym, ◌∙◌, ap, subst}
use Rattle.std.specs.Prelude.{OnOk, Err, IfOk}
use Rattle.lyndon_polys.specs.Tables.{RingTable}
use Rattle.echelon.specs.Lists.{row_at, lead_at}
use Rattle.table_model.specs.Complete.{IsComplete}
use Rattle.share_model.specs.Checked.{Checked}
use Rattle.share_merge.specs.declared.fault.MergeFault.TheVariants.{MissingShare}
use Rattle.share_merge.specs.Turns.{AreSharesOf, share_count, HasAll, IsLeastMissing, MergesWhole, BreaksAtRow}
use Rattle.share_core.specs.Coordinations.{Coordination}
use Rattle.share_core.proofs.FinishedMerges.{is_empty, share_count_is, are_shares_of, first_is_missing, first_if_none, not_all_there, goes_through}
use Rattle.share_core.proofs.coordinator.Coordinator.finish.Goals as goal

pub returns-then-is_empty-clause-missing_share : goal.returns-then-is_empty-clause-missing_share
returns-then-is_empty-clause-missing_share g c index e =
    let counted = ap (λ (k : Coordination g.row.R.Denot g.row.R-Elem.Denot). k.lists.counted) c.self.view_is in
    let list : c.counted-counted.result.now ≡ c.args.self.now.lists.counted = c.counted-counted.ensures ∙ counted in
    let of = ap (λ (k : Coordination g.row.R.Denot g.row.R-Elem.Denot). k.setting.of) c.self.view_is in
    let same : 0 ≡ index = cc e in
    first_is_missing c.args.self.now.setting.of index c.args.self.now.lists.counted (subst (λ n. 1 ≤ n) of c.table-table.ensures.setting.some)
    (sym list ∙ is_empty c.counted-counted.result.now c.is_empty.result c.is_empty.ensures c.if-is_empty.true) same

pub returns-then-is_empty-clause-missing : goal.returns-then-is_empty-clause-missing
returns-then-is_empty-clause-missing g c index least =
    let counted = ap (λ (k : Coordination g.row.R.Denot g.row.R-Elem.Denot). k.lists.counted) c.self.view_is in
    let list : c.counted-counted.result.now ≡ c.args.self.now.lists.counted = c.counted-counted.ensures ∙ counted in
    let none = sym list ∙ is_empty c.counted-counted.result.now c.is_empty.result c.is_empty.ensures c.if-is_empty.true in
    ap (λ i. Err (MissingShare i)) (first_if_none c.args.self.now.setting.of index c.args.self.now.lists.counted none least)

pub returns-then-is_empty-clause-whole : goal.returns-then-is_empty-clause-whole
returns-then-is_empty-clause-whole g c =
    let counted = ap (λ (k : Coordination g.row.R.Denot g.row.R-Elem.Denot). k.lists.counted) c.self.view_is in
    let list : c.counted-counted.result.now ≡ c.args.self.now.lists.counted = c.counted-counted.ensures ∙ counted in
    let of = ap (λ (k : Coordination g.row.R.Denot g.row.R-Elem.Denot). k.setting.of) c.self.view_is in
    not_all_there c.args.self.now.setting.of c.args.self.now.lists.counted (subst (λ n. 1 ≤ n) of c.table-table.ensures.setting.some)
    (sym list ∙ is_empty c.counted-counted.result.now c.is_empty.result c.is_empty.ensures c.if-is_empty.true)

pub merge-requires-clause-shares : goal.merge-requires-clause-shares
merge-requires-clause-shares g c =
    let inside = subst (λ (l : List (Checked g.row.R.Denot g.row.R-Elem.Denot)). c.is_empty.result ≡ eqb (length l) 0)
    c.counted-counted.ensures c.is_empty.ensures in
    let count = share_count_is c.self.inside.setting c.self.inside.lists.counted c.is_empty.result c.self.invariant.belong inside
    c.if-is_empty.false in
    subst (λ (t : RingTable g.row.R.Denot). AreSharesOf t (share_count c.counted-counted.result.now) c.counted-counted.result.now)
    (sym c.table-table.ensures.table)
    (subst (λ (l : List (Checked g.row.R.Denot g.row.R-Elem.Denot)). AreSharesOf c.self.inside.setting.table (share_count l) l) (sym c.counted-counted.ensures)
    (are_shares_of g.R.Ring.modulus c.self.inside.setting c.self.inside.lists.counted c.table-table.ensures.setting c.self.invariant.belong count))

pub returns-clause-all : goal.returns-clause-all
returns-clause-all g c =
    let counted = ap (λ (k : Coordination g.row.R.Denot g.row.R-Elem.Denot). k.lists.counted) c.self.view_is in
    let list : c.counted-counted.result.now ≡ c.args.self.now.lists.counted = c.counted-counted.ensures ∙ counted in
    let of = ap (λ (k : Coordination g.row.R.Denot g.row.R-Elem.Denot). k.setting.of) c.self.view_is in
    let inside = subst (λ (l : List (Checked g.row.R.Denot g.row.R-Elem.Denot)). c.is_empty.result ≡ eqb (length l) 0)
    c.counted-counted.ensures c.is_empty.ensures in
    let count_inside = share_count_is c.self.inside.setting c.self.inside.lists.counted c.is_empty.result c.self.invariant.belong inside
    c.if-is_empty.false in
    let count : share_count c.counted-counted.result.now ≡ c.args.self.now.setting.of =
    ap (λ (l : List (Checked g.row.R.Denot g.row.R-Elem.Denot)). share_count l) c.counted-counted.ensures ∙ count_inside ∙ of in
    subst (λ (l : List (Checked g.row.R.Denot g.row.R-Elem.Denot)). OnOk c.merge.result (HasAll c.args.self.now.setting.of l)) list
    (subst (λ n. OnOk c.merge.result (HasAll n c.counted-counted.result.now)) count c.merge.ensures.all)

pub returns-clause-unbroken : goal.returns-clause-unbroken
returns-clause-unbroken g c =
    let counted = ap (λ (k : Coordination g.row.R.Denot g.row.R-Elem.Denot). k.lists.counted) c.self.view_is in
    let list : c.counted-counted.result.now ≡ c.args.self.now.lists.counted = c.counted-counted.ensures ∙ counted in
    let table : c.table-table.result.now ≡ c.args.self.now.setting.table =
    c.table-table.ensures.table ∙ ap (λ (k : Coordination g.row.R.Denot g.row.R-Elem.Denot). k.setting.table) c.self.view_is in
    subst (λ (t : RingTable g.row.R.Denot). OnOk c.merge.result (MergesWhole (g.R.Ring.modulus t.ring) (g.R.Ring.value t.ring) t.columns
    c.args.self.now.lists.counted)) table
    (subst (λ (l : List (Checked g.row.R.Denot g.row.R-Elem.Denot)). OnOk c.merge.result (MergesWhole (g.R.Ring.modulus c.table-table.result.now.ring)
    (g.R.Ring.value c.table-table.result.now.ring) c.table-table.result.now.columns l)) list c.merge.ensures.whole)

least_missing : goal.returns-clause-missing_share
least_missing g c index e =
    let counted = ap (λ (k : Coordination g.row.R.Denot g.row.R-Elem.Denot). k.lists.counted) c.self.view_is in
    let list : c.counted-counted.result.now ≡ c.args.self.now.lists.counted = c.counted-counted.ensures ∙ counted in
    let of = ap (λ (k : Coordination g.row.R.Denot g.row.R-Elem.Denot). k.setting.of) c.self.view_is in
    let inside = subst (λ (l : List (Checked g.row.R.Denot g.row.R-Elem.Denot)). c.is_empty.result ≡ eqb (length l) 0)
    c.counted-counted.ensures c.is_empty.ensures in
    let count_inside = share_count_is c.self.inside.setting c.self.inside.lists.counted c.is_empty.result c.self.invariant.belong inside
    c.if-is_empty.false in
    let count : share_count c.counted-counted.result.now ≡ c.args.self.now.setting.of =
    ap (λ (l : List (Checked g.row.R.Denot g.row.R-Elem.Denot)). share_count l) c.counted-counted.ensures ∙ count_inside ∙ of in
    subst (λ (l : List (Checked g.row.R.Denot g.row.R-Elem.Denot)). IsLeastMissing c.args.self.now.setting.of l index) list
    (subst (λ n. IsLeastMissing n c.counted-counted.result.now index) count (c.merge.ensures.missing_share index e))

pub returns-clause-missing_share : goal.returns-clause-missing_share
returns-clause-missing_share g c = least_missing g c

pub returns-clause-missing : goal.returns-clause-missing
returns-clause-missing g c index least =
    let counted = ap (λ (k : Coordination g.row.R.Denot g.row.R-Elem.Denot). k.lists.counted) c.self.view_is in
    let list : c.counted-counted.result.now ≡ c.args.self.now.lists.counted = c.counted-counted.ensures ∙ counted in
    let of = ap (λ (k : Coordination g.row.R.Denot g.row.R-Elem.Denot). k.setting.of) c.self.view_is in
    let inside = subst (λ (l : List (Checked g.row.R.Denot g.row.R-Elem.Denot)). c.is_empty.result ≡ eqb (length l) 0)
    c.counted-counted.ensures c.is_empty.ensures in
    let count_inside = share_count_is c.self.inside.setting c.self.inside.lists.counted c.is_empty.result c.self.invariant.belong inside
    c.if-is_empty.false in
    let count : share_count c.counted-counted.result.now ≡ c.args.self.now.setting.of =
    ap (λ (l : List (Checked g.row.R.Denot g.row.R-Elem.Denot)). share_count l) c.counted-counted.ensures ∙ count_inside ∙ of in
    c.merge.ensures.missing index (subst (λ n. IsLeastMissing n c.counted-counted.result.now index) (sym count)
    (subst (λ (l : List (Checked g.row.R.Denot g.row.R-Elem.Denot)). IsLeastMissing c.args.self.now.setting.of l index) (sym list) least))

pub returns-clause-there : goal.returns-clause-there
returns-clause-there g c value share row e =
    let counted = ap (λ (k : Coordination g.row.R.Denot g.row.R-Elem.Denot). k.lists.counted) c.self.view_is in
    let list : c.counted-counted.result.now ≡ c.args.self.now.lists.counted = c.counted-counted.ensures ∙ counted in
    let of = ap (λ (k : Coordination g.row.R.Denot g.row.R-Elem.Denot). k.setting.of) c.self.view_is in
    let inside = subst (λ (l : List (Checked g.row.R.Denot g.row.R-Elem.Denot)). c.is_empty.result ≡ eqb (length l) 0)
    c.counted-counted.ensures c.is_empty.ensures in
    let count_inside = share_count_is c.self.inside.setting c.self.inside.lists.counted c.is_empty.result c.self.invariant.belong inside
    c.if-is_empty.false in
    let count : share_count c.counted-counted.result.now ≡ c.args.self.now.setting.of =
    ap (λ (l : List (Checked g.row.R.Denot g.row.R-Elem.Denot)). share_count l) c.counted-counted.ensures ∙ count_inside ∙ of in
    subst (λ (l : List (Checked g.row.R.Denot g.row.R-Elem.Denot)). HasAll c.args.self.now.setting.of l) list
    (subst (λ n. HasAll n c.counted-counted.result.now) count (c.merge.ensures.there value share row e))

pub returns-clause-no_inverse : goal.returns-clause-no_inverse
returns-clause-no_inverse g c value share row e =
    let counted = ap (λ (k : Coordination g.row.R.Denot g.row.R-Elem.Denot). k.lists.counted) c.self.view_is in
    let list : c.counted-counted.result.now ≡ c.args.self.now.lists.counted = c.counted-counted.ensures ∙ counted in
    let table : c.table-table.result.now ≡ c.args.self.now.setting.table =
    c.table-table.ensures.table ∙ ap (λ (k : Coordination g.row.R.Denot g.row.R-Elem.Denot). k.setting.table) c.self.view_is in
    subst (λ (t : RingTable g.row.R.Denot). BreaksAtRow (g.R.Ring.modulus t.ring) (g.R.Ring.value t.ring) t.columns
    c.args.self.now.lists.counted value share row) table
    (subst (λ (l : List (Checked g.row.R.Denot g.row.R-Elem.Denot)). BreaksAtRow (g.R.Ring.modulus c.table-table.result.now.ring)
    (g.R.Ring.value c.table-table.result.now.ring) c.table-table.result.now.columns l value share row) list
    (c.merge.ensures.no_inverse value share row e))

pub returns-clause-whole : goal.returns-clause-whole
returns-clause-whole g c all =
    let counted = ap (λ (k : Coordination g.row.R.Denot g.row.R-Elem.Denot). k.lists.counted) c.self.view_is in
    let list : c.counted-counted.result.now ≡ c.args.self.now.lists.counted = c.counted-counted.ensures ∙ counted in
    let table : c.table-table.result.now ≡ c.args.self.now.setting.table =
    c.table-table.ensures.table ∙ ap (λ (k : Coordination g.row.R.Denot g.row.R-Elem.Denot). k.setting.table) c.self.view_is in
    let complete = subst (λ (t : RingTable g.row.R.Denot). IfOk c.merge.result (λ merged. IsComplete (g.R.Ring.modulus t.ring) t.columns
    (length merged.rows.rows)
    (lead_at merged.rows.rows) (row_at (g.R.Ring.value t.ring) merged.rows.rows) (row_at (g.R.Ring.value t.ring) merged.combinations.items))) table
    c.merge.ensures.complete in
    goes_through c.merge.result _ (BreaksAtRow (g.R.Ring.modulus c.args.self.now.setting.table.ring)
    (g.R.Ring.value c.args.self.now.setting.table.ring) c.args.self.now.setting.table.columns c.args.self.now.lists.counted) complete
    (λ index e. let least = least_missing g c index e in least.missing (all index least.inside))
    (λ value share row e. subst (λ (t : RingTable g.row.R.Denot). BreaksAtRow (g.R.Ring.modulus t.ring) (g.R.Ring.value t.ring) t.columns
    c.args.self.now.lists.counted value share row) table
    (subst (λ (l : List (Checked g.row.R.Denot g.row.R-Elem.Denot)). BreaksAtRow (g.R.Ring.modulus c.table-table.result.now.ring)
    (g.R.Ring.value c.table-table.result.now.ring) c.table-table.result.now.columns l value share row) list
    (c.merge.ensures.no_inverse value share row e)))
