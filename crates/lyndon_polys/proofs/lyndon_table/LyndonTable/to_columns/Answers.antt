use Rattle.std.proofs.Common.{refl, ap, ◌∙◌, subst}
use Rattle.word_sums.specs.Terms.{coefficient_of}
use Rattle.lyndon_polys.specs.Inner.{IsRowOf}
use Rattle.lyndon_polys.proofs.TestedWords.{out_tells, no_out_tells, all_fit, all_known, row_of_terms}
use Rattle.lyndon_polys.proofs.lyndon_table.LyndonTable.to_columns.Given as given
use Rattle.lyndon_polys.proofs.lyndon_table.LyndonTable.to_columns.Goals as goal

pub returns-in-Some-clause-out_of_table : goal.returns-in-Some-clause-out_of_table
returns-in-Some-clause-out_of_table g c =
    let v = c.args.self.now in
    out_tells c.args.s.now c.weight.result c.depth.result v.columns.weight v.columns.depth
    (c.weight.ensures.weight ∙ ap (λ x. x.columns.weight) c.self.view_is) (c.depth.ensures.depth ∙ ap (λ x. x.columns.depth) c.self.view_is)
    _ c.in-Some.word refl c.in-Some.ensures

pub row_of_sum-requires-clause-known : goal.row_of_sum-requires-clause-known
row_of_sum-requires-clause-known g c =
    let t = c.self.inside in
    let ring = t.ring in
    all_known (g.R.Ring.modulus ring) (g.R.Ring.has ring) (g.R.Ring.value ring) t.columns t.rows c.args.s.now c.self.invariant.2
    (all_fit c.args.s.now c.weight.result c.depth.result t.columns.weight t.columns.depth c.weight.ensures.weight c.depth.ensures.depth
    c.in_default.ensures)

-- what `row_of_sum` answers is the row of the sum
row_is : (g : given.Over) (c : goal.After-drop-none g)
    → IsRowOf (g.R.Ring.modulus c.args.self.now.ring) (g.R.Ring.has c.args.self.now.ring) (g.R.Ring.value c.args.self.now.ring) c.args.self.now.columns
    (coefficient_of (g.R.Ring.value c.args.self.now.ring) c.args.s.now) c.in-Ok.row
row_is g c =
    let t = c.self.inside in
    let s = c.args.s.now in
    let row = row_of_terms (g.R.Ring.modulus t.ring) (g.R.Ring.has t.ring) (g.R.Ring.value t.ring) t.columns s c.deref.result.now c.in-Ok.row
    (g.R.Ring.value t.ring c.one-one.result) (c.deref.ensures.value ∙ c.new-none.ensures.items)
    (ap (g.R.Ring.value t.ring) c.one-one.ensures ∙ g.met.R.Ring.value_one t.ring) c.in-Ok.ensures.row in
    subst (λ v. IsRowOf (g.R.Ring.modulus v.ring) (g.R.Ring.has v.ring) (g.R.Ring.value v.ring) v.columns
    (coefficient_of (g.R.Ring.value v.ring) s) c.in-Ok.row) c.self.view_is row

pub returns-in-Ok-clause-cols : goal.returns-in-Ok-clause-cols
returns-in-Ok-clause-cols g c = let row = row_is g c in row.cols

pub returns-in-Ok-clause-below : goal.returns-in-Ok-clause-below
returns-in-Ok-clause-below g c = let row = row_is g c in row.below

pub returns-in-Ok-clause-in_ring : goal.returns-in-Ok-clause-in_ring
returns-in-Ok-clause-in_ring g c = let row = row_is g c in row.in_ring

pub returns-in-Ok-clause-fits : goal.returns-in-Ok-clause-fits
returns-in-Ok-clause-fits g c =
    let v = c.args.self.now in
    all_fit c.args.s.now c.weight.result c.depth.result v.columns.weight v.columns.depth
    (c.weight.ensures.weight ∙ ap (λ x. x.columns.weight) c.self.view_is) (c.depth.ensures.depth ∙ ap (λ x. x.columns.depth) c.self.view_is)
    c.in_default.ensures

pub returns-clause-out_of_table : goal.returns-clause-out_of_table
returns-clause-out_of_table g c =
    let v = c.args.self.now in
    no_out_tells c.args.s.now c.weight.result c.depth.result v.columns.weight v.columns.depth
    (c.weight.ensures.weight ∙ ap (λ x. x.columns.weight) c.self.view_is) (c.depth.ensures.depth ∙ ap (λ x. x.columns.depth) c.self.view_is)
    _ (λ u e. cc) c.in_default.ensures
