use Rattle.std.proofs.Common.{◌∙◌, subst}
use Rattle.echelon.specs.States.{IsRowList}
use Rattle.echelon.specs.Finishes.{SameSpanOf}
use Rattle.known_sums.proofs.table_forms.forms_of_kept.Goals as goal

pub returns : goal.returns
returns g c =
    let e = c.args.echelon.now in
    let ring = c.args.table.now.ring in
    let list = c.in_ok-rows.rows.rows in
    let told = c.in_ok-rows.ensures in
    record {
      list_ring = told.ring ∙ c.requires.ring;
      is_list = subst (λ k. IsRowList (g.R.Ring.modulus ring) (g.R.Ring.has ring) (g.R.Ring.value ring) g.R.Ring.zero k list) c.requires.columns
          (subst (λ r. IsRowList (g.R.Ring.modulus r) (g.R.Ring.has r) (g.R.Ring.value r) g.R.Ring.zero e.columns list) c.requires.ring told.ok);
      span = subst (λ r. SameSpanOf (g.R.Ring.modulus r) (g.R.Ring.value r) e.rows list) c.requires.ring told.span;
      ring = c.in_ok-forms.ensures.ring;
      forms = c.in_ok-forms.ensures.forms;
    }
