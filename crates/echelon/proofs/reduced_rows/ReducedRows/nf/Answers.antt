use Rattle.std.proofs.Common.{◌≡◌, [], length, get_or, sym, ◌∙◌, ap, subst, arith}
use Rattle.sparse_rows.proofs.EntryLemmas.{below_more}
use Rattle.echelon.specs.Lists.{entries_of, AllFit, AreReduced}
use Rattle.echelon.specs.Offers.{IsRemainder}
use Rattle.echelon.specs.States.{IsRowList}
use Rattle.echelon.proofs.SameRings.{fits_more, row_list_at}
use Rattle.echelon.proofs.reduced_rows.ReducedRows.nf.Goals as goal

pub remainder_of-requires-clause-fit : goal.remainder_of-requires-clause-fit
remainder_of-requires-clause-fit g c =
    let ring = c.args.ring.now in
    let s = c.args.self.now in
    let list : IsRowList (g.R.Ring.modulus ring) (g.R.Ring.has ring) (g.R.Ring.value ring) g.R.Ring.zero s.columns s.rows =
    row_list_at g.R.Ring.modulus g.R.Ring.has g.R.Ring.value g.R.Ring.zero g.met.R.Ring.has_same g.met.R.Ring.value_same ring _ s c.self.view_is
    c.requires.ring c.self.invariant in
    let rows_is : c.deref.result.now ≡ s.rows = c.deref.ensures.value ∙ ap (λ t. t.rows) c.self.view_is in
    let columns_is : c.self.inside.columns ≡ s.columns = ap (λ t. t.columns) c.self.view_is in
    subst (AllFit (g.R.Ring.has ring) g.R.Ring.zero c.greater-columns.result) (sym rows_is)
    (λ i h. fits_more (g.R.Ring.has ring) g.R.Ring.zero s.columns c.greater-columns.result (get_or s.rows i [])
    (omega (arith, columns_is, c.greater-columns.ensures.a)) (list.fit i h))

pub remainder_of-requires-clause-reduced : goal.remainder_of-requires-clause-reduced
remainder_of-requires-clause-reduced g c =
    let ring = c.args.ring.now in
    let s = c.args.self.now in
    let list : IsRowList (g.R.Ring.modulus ring) (g.R.Ring.has ring) (g.R.Ring.value ring) g.R.Ring.zero s.columns s.rows =
    row_list_at g.R.Ring.modulus g.R.Ring.has g.R.Ring.value g.R.Ring.zero g.met.R.Ring.has_same g.met.R.Ring.value_same ring _ s c.self.view_is
    c.requires.ring c.self.invariant in
    let rows_is : c.deref.result.now ≡ s.rows = c.deref.ensures.value ∙ ap (λ t. t.rows) c.self.view_is in
    subst (AreReduced (g.R.Ring.modulus ring) (g.R.Ring.value ring)) (sym rows_is) list.reduced

pub remainder_of-requires-clause-below : goal.remainder_of-requires-clause-below
remainder_of-requires-clause-below g c =
    below_more (λ k. k) c.width_of.result c.greater-columns.result c.args.row.now c.greater-columns.ensures.b c.width_of.ensures.below

pub returns-in_err-left-clause-reduced : goal.returns-in_err-left-clause-reduced
returns-in_err-left-clause-reduced g c =
    let list : IsRowList (g.R.Ring.modulus c.args.ring.now) (g.R.Ring.has c.args.ring.now)
    (g.R.Ring.value c.args.ring.now) g.R.Ring.zero c.args.self.now.columns c.args.self.now.rows =
    row_list_at g.R.Ring.modulus g.R.Ring.has g.R.Ring.value g.R.Ring.zero g.met.R.Ring.has_same g.met.R.Ring.value_same c.args.ring.now _ c.args.self.now
    c.self.view_is c.requires.ring c.self.invariant in
    list.reduced

pub returns-clause-reduced : goal.returns-clause-reduced
returns-clause-reduced g c =
    let list : IsRowList (g.R.Ring.modulus c.args.ring.now) (g.R.Ring.has c.args.ring.now)
    (g.R.Ring.value c.args.ring.now) g.R.Ring.zero c.args.self.now.columns c.args.self.now.rows =
    row_list_at g.R.Ring.modulus g.R.Ring.has g.R.Ring.value g.R.Ring.zero g.met.R.Ring.has_same g.met.R.Ring.value_same c.args.ring.now _ c.args.self.now
    c.self.view_is c.requires.ring c.self.invariant in
    list.reduced

pub returns-clause-ok : goal.returns-clause-ok
returns-clause-ok g c =
    let ring = c.args.ring.now in
    let m = g.R.Ring.modulus ring in
    let value = g.R.Ring.value ring in
    let s = c.args.self.now in
    let rows_is : c.deref.result.now ≡ s.rows = c.deref.ensures.value ∙ ap (λ t. t.rows) c.self.view_is in
    subst (λ rs. IsRemainder m value rs (entries_of value c.args.row.now) (entries_of value c.in_ok-left.left)) rows_is c.in_ok-left.ensures.remainder
