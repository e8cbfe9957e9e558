use Rattle.std.proofs.Common.{◌≡◌, ℕ, ◌<◌, length, subst, ap, ◌∙◌, arith, Err}
use Rattle.linear_model.specs.Reduced.{IsReduced}
use Rattle.echelon.specs.Lists.{lead_at, row_at}
use Rattle.echelon.specs.Finishes.{IsNotReducedAt}
use Rattle.table_model.specs.ListedSpan.{count_of}
use Rattle.table_model.specs.Faults.{LeavesNothing}
use Rattle.cert_checker.specs.Inner.{IsTold}
use Rattle.cert_checker.proofs.FaultsTold.{same-bad_row, same-not_reduced, same-missing}
use Rattle.cert_checker.proofs.ReducedAt.{reduced-at, not-reduced-at}
use Rattle.cert_checker.proofs.VerdictsTold.{bad-row, all-good, not-reduced, whole, missing}
use Rattle.cert_checker.proofs.completeness.check_rows.Goals as goal

pub returns-in-Ok-Some-clause-bad_row : goal.returns-in-Ok-Some-clause-bad_row
returns-in-Ok-Some-clause-bad_row g c = λ i e.
    let t = c.args.table.now in
    bad-row (g.R.Ring.value t.ring) (g.R.Ring.modulus t.ring) t.columns c.columns-columns.ensures.converts c.args.rows.items c.args.combinations.now
    c.deref-2.result.now c.deref-2.ensures.value c.in-Ok-Some.field-0 c.in-Ok-Some.i i c.in-Ok-Some.field-0-is c.in-Ok-Some.ensures
    (same-bad_row c.in-Ok-Some.i i e)

pub returns-in-Err-NotReduced-clause-not_reduced : goal.returns-in-Err-NotReduced-clause-not_reduced
returns-in-Err-NotReduced-clause-not_reduced g c = λ i e.
    let t = c.args.table.now in
    let r = g.met.R.Ring in
    let m = g.R.Ring.modulus t.ring in
    let value = g.R.Ring.value t.ring in
    let has = g.R.Ring.has t.ring in
    let rows = c.args.rows.items in
    let j = c.in-Err-NotReduced.i in
    let big : 1 < m = omega (arith, r.modulus_from t.ring) in
    let is = c.in-Err-NotReduced.is ∙ ap (λ f. Err f) c.in-Err-NotReduced.field-0-is in
    let told = c.new.ensures.not_reduced j is in
    let there = subst (λ x. IsNotReducedAt (g.R.Ring.value x) rows j × ((k : ℕ) → k < j → ¬ (IsNotReducedAt (g.R.Ring.value x) rows k))) c.ring.ensures told in
    let inside : j < length rows = c.new.ensures.inside j is in
    let one = same-not_reduced _ i e in
    let place : j ≡ i = cc (one, c.in-Err-NotReduced.i-is) in
    let good = all-good value m t.columns c.columns-columns.ensures.converts rows c.args.combinations.now c.deref-2.result.now c.deref-2.ensures.value
    c.in-Ok-None.field-0 c.in-Ok-None.field-0-is c.in-Ok-None.ensures in
    not-reduced value m t.columns c.columns-columns.ensures.converts rows c.args.combinations.now good j i
    (record {
      below = inside;
      lacks = not-reduced-at value m has g.R.Ring.zero big (r.has_zero t.ring) (r.value_zero t.ring) (r.value_below t.ring) (r.value_injective t.ring)
          (length t.columns.list) rows c.requires.rows j inside there.0;
      earlier = λ k l. reduced-at value m has g.R.Ring.zero big (r.has_zero t.ring) (r.value_zero t.ring) (r.value_below t.ring) (r.value_injective t.ring)
          (length t.columns.list) rows c.requires.rows k (omega (arith, l, inside)) (there.1 k l);
    }) place

pub returns-in-Ok-None-told_missing-clause-complete : goal.returns-in-Ok-None-told_missing-clause-complete
returns-in-Ok-None-told_missing-clause-complete g c =
    let t = c.args.table.now in
    let m = g.R.Ring.modulus t.ring in
    let value = g.R.Ring.value t.ring in
    let list = c.in-Ok-new.list.rows in
    let good = all-good value m t.columns c.columns-columns.ensures.converts c.args.rows.items c.args.combinations.now c.deref-2.result.now
    c.deref-2.ensures.value c.in-Ok-None.field-0 c.in-Ok-None.field-0-is c.in-Ok-None.ensures in
    let reduced = subst (λ x. IsReduced (g.R.Ring.modulus x) (length list) (lead_at list) (row_at (g.R.Ring.value x) list)) c.ring.ensures
    c.in-Ok-new.ensures.ok.reduced in
    let nothing : (n : ℕ) → n < count_of t.columns → LeavesNothing m t.columns (length list) (lead_at list) (row_at value list) n =
    rw c.in-Ok-None-told_missing.field-0-is at c.in-Ok-None-told_missing.ensures in
    whole value m t.columns c.columns-columns.ensures.converts c.args.rows.items c.args.combinations.now good list c.in-Ok-new.ensures.rows reduced
    c.requires.rows.below nothing

pub returns-in-Ok-Some-told_missing-clause-missing : goal.returns-in-Ok-Some-told_missing-clause-missing
returns-in-Ok-Some-told_missing-clause-missing g c = λ n rest e.
    let t = c.args.table.now in
    let m = g.R.Ring.modulus t.ring in
    let value = g.R.Ring.value t.ring in
    let list = c.in-Ok-new.list.rows in
    let j = c.in-Ok-Some-told_missing.n in
    let pairs = c.in-Ok-Some-told_missing.rest in
    let good = all-good value m t.columns c.columns-columns.ensures.converts c.args.rows.items c.args.combinations.now c.deref-2.result.now
    c.deref-2.ensures.value c.in-Ok-None.field-0 c.in-Ok-None.field-0-is c.in-Ok-None.ensures in
    let reduced = subst (λ x. IsReduced (g.R.Ring.modulus x) (length list) (lead_at list) (row_at (g.R.Ring.value x) list)) c.ring.ensures
    c.in-Ok-new.ensures.ok.reduced in
    let told : IsTold m t.columns (length list) (lead_at list) (row_at value list) j pairs =
    rw c.in-Ok-Some-told_missing.field-0-is at c.in-Ok-Some-told_missing.ensures in
    let same = same-missing j n pairs rest e in
    missing value m t.columns c.columns-columns.ensures.converts c.args.rows.items c.args.combinations.now good list c.in-Ok-new.ensures.rows reduced
    j n pairs rest same.0 same.1 told
