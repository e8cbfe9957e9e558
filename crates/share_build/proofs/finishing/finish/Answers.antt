use Rattle.std.proofs.Common.{subst}
use Rattle.echelon.specs.States.{IsRowList}
use Rattle.echelon.specs.Finishes.{SameSpanOf, AreRecorded}
use Rattle.share_build.specs.Inner.{AreWritten}
use Rattle.share_build.proofs.finishing.finish.Goals as goal

pub returns : goal.returns
returns g c =
    let e = c.args.echelon.now in
    let told = c.in_ok-finished.ensures in
    let rows = c.in_ok-finished.finished.rows.rows in
    let combinations = c.in_ok-finished.finished.combinations.items in
    record {
      rows = rows;
      combinations = combinations;
      is_list = subst (λ r. IsRowList (g.R.Ring.modulus r) (g.R.Ring.has r) (g.R.Ring.value r) g.R.Ring.zero e.core.columns rows) c.requires told.ok;
      span = subst (λ r. SameSpanOf (g.R.Ring.modulus r) (g.R.Ring.value r) e.core.rows rows) c.requires told.span;
      recorded = subst (λ r. AreRecorded (g.R.Ring.modulus r) (g.R.Ring.has r) (g.R.Ring.value r) e.core.rows e.combinations rows combinations)
          c.requires told.sums;
      written = subst (λ cs. AreWritten g.R.Ring.zero (g.R.Ring.value c.args.ring.now) rows cs c.in_ok-entries.entries) c.deref.ensures.value
          c.in_ok-entries.ensures;
    }
