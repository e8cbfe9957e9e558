use Rattle.std.proofs.Common.{◌≡◌, subst, rules, refl, length, slice_index}
use Rattle.linear_model.specs.Tables.{entry_of}
use Rattle.linear_model.specs.Forward.{IsSwept}
use Rattle.linear_model.proofs.RowSums.{undone}
use Rattle.linear_model.proofs.Sweeps.{swept_none, swept_next, normal_form_of_swept}
use Rattle.linear_model.proofs.normal.normal_form.Goals as goal

pub loop-k-init : goal.loop-k-init
loop-k-init c = (
  c.requires.fits,
  (
    λ _. 0,
    swept_none c.args.m (slice_index c.args.leads.now) (entry_of c.args.width c.args.table.now) 0 (λ _. 0) (slice_index c.args.row.now)
        (λ i l. refl),
  ),
)

pub loop-k-preserved : goal.loop-k-preserved
loop-k-preserved c = (
  c.add_row.ensures.fits,
  swept_next c.args.m (slice_index c.args.leads.now) (entry_of c.args.width c.args.table.now)
      (length c.args.leads.now) 0 c.loop-k.k c.add_product-opposite.result (slice_index c.args.row.now) (slice_index c.loop-k.row)
      (slice_index c.add_row.new.row)
      c.requires.forward (search rules) c.loop-k.invariant.1
      (undone c.args.m (slice_index c.loop-k.row (slice_index c.args.leads.now c.loop-k.k)) c.add_product-opposite.result c.requires.modulus
      (search rules)) c.add_row.ensures.sum,
)

pub returns-clause-normal_form : goal.returns-clause-normal_form
returns-clause-normal_form c =
    let end : c.loop-k.k ≡ length c.args.leads.now = search rules in
    normal_form_of_swept c.args.m (slice_index c.args.leads.now) (entry_of c.args.width c.args.table.now) (length c.args.leads.now) c.loop-k.invariant.1.0
    (slice_index c.args.row.now) (slice_index c.loop-k.row) c.requires.modulus
    (subst (λ k. IsSwept c.args.m 0 k (slice_index c.args.leads.now) (entry_of c.args.width c.args.table.now) c.loop-k.invariant.1.0
    (slice_index c.args.row.now) (slice_index c.loop-k.row)) end c.loop-k.invariant.1.1)
